-- The grammar as a machine with a stack, and that the two agree. Assumes nothing.
use Rattle.std.proofs.Common.{◌≡◌, ℕ, ◌⊎◌, List, [], ◌∷◌, ◌++◌, length, sym, refl, ap, ◌∙◌, subst, inl, inr}
use Rattle.rules.specs.declared.syntax.Kind.{Kind}
use Rattle.rules.specs.declared.syntax.Kind.TheVariants.{DoubleSlash, Slash, Dot, Open, Close, Star, Name, Stray, End}
use Rattle.rules.specs.declared.syntax.Token.{Token}
use Rattle.rules.specs.declared.node.Edge.{Edge}
use Rattle.rules.specs.declared.node.Edge.TheVariants.{Child, Descendant}
use Rattle.rules.specs.declared.syntax.ParsedNode.{ParsedNode}
use Rattle.rules.specs.Grammar.{Test, name, star, Between, slash, double_slash, node, Step, step, Predicates, none, predicate, Path, child, descendant, Further, last, further, Text, text, Begins}
use Rattle.rules.specs.Machine.{State, start, root, after, opened, dotted, below, more, ended, Moved, to, stuck, on_double, on_test, on_path, on_after, with_node, move, moves}

------------------------------------------------------------------------
-- what the grammar allows, the machine does

on_test_test : (t : Token) (s : State) → Test t → on_test t.kind s ≡ to s
on_test_test t s (name e) = rw e
on_test_test t s (star e) = rw e

on_path_test : (t : Token) (d s : State) → Test t → on_path t.kind d s ≡ to s
on_path_test t d s (name e) = rw e
on_path_test t d s (star e) = rw e

on_between : (s : Token) (e : Edge) (n k : ℕ) (outer : List ℕ) (ns : List ParsedNode) → Between s e → on_after s.kind n (k ∷ outer) ns ≡ to (more e n k outer ns)
on_between s e n k outer ns (slash h) = rw h
on_between s e n k outer ns (double_slash h) = rw h

mutual
  steps : {p : ℕ} {e : Edge} {ns ms : List ParsedNode} {ts rest : List Token} → Step p e ns ts ms rest
      → (outer : List ℕ) (s : State) → ((t : Token) → Test t → move s t ≡ to (with_node p e outer ns t))
      → moves ts (to s) ≡ moves rest (to (after (length ns) outer ms))
  steps (step {t = t} {ts = ts} test ps) outer s h = ap (moves ts) (h t test) ∙ predicates ps outer

  predicates : {n : ℕ} {ns ms : List ParsedNode} {ts rest : List Token} → Predicates n ns ts ms rest
      → (outer : List ℕ) → moves ts (to (after n outer ns)) ≡ moves rest (to (after n outer ms))
  predicates none outer = refl
  predicates (predicate {n = n} {ns = ns} {ks = ks} {ts = ts} {us = us} o p c ps) outer =
      let (m, e) = paths p outer in
      ap (λ k. moves ts (on_after k n outer ns)) o ∙ e ∙ ap (λ k. moves us (on_after k m (n ∷ outer) ks)) c ∙ predicates ps outer

  paths : {n : ℕ} {ns ms : List ParsedNode} {ts rest : List Token} → Path n ns ts ms rest
      → (outer : List ℕ) → (m : ℕ) × (moves ts (to (opened n outer ns)) ≡ moves rest (to (after m (n ∷ outer) ms)))
  paths (child {n = n} {ns = ns} s f) outer =
      let (m, e) = furthers f n outer in
      (m, steps s (n ∷ outer) (opened n outer ns) (λ t h. on_path_test t _ _ h) ∙ e)
  paths (descendant {n = n} {d = a} {s = b} {ns = ns} {ts = ts} d dd s f) outer =
      let (m, e) = furthers f n outer in (
        m,
        ap (λ k. moves (b ∷ ts) (on_path k (dotted n outer ns) (with_node n Child (n ∷ outer) ns a))) d
            ∙ ap (λ k. moves ts (on_double k (below n outer ns))) dd
            ∙ steps s (n ∷ outer) (below n outer ns) (λ t h. on_test_test t _ h) ∙ e,
      )

  furthers : {n : ℕ} {ns ms : List ParsedNode} {ts rest : List Token} → Further n ns ts ms rest
      → (k : ℕ) (outer : List ℕ) → (m : ℕ) × (moves ts (to (after n (k ∷ outer) ns)) ≡ moves rest (to (after m (k ∷ outer) ms)))
  furthers (last {n = n}) k outer = (n, refl)
  furthers (further {n = n} {e = e} {s = b} {ns = ns} {ts = ts} h s f) k outer =
      let (m, q) = furthers f k outer in
      (m, ap (moves ts) (on_between b e n k outer ns h) ∙ steps s (k ∷ outer) (more e n k outer ns) (λ t h. on_test_test t _ h) ∙ q)

pub complete : {ts : List Token} {ns : List ParsedNode} → Text ts ns → moves ts (to start) ≡ to (ended ns)
complete (text {ns = ns} {ts = ts} d s e) =
    ap (λ k. moves ts (on_double k root)) d ∙ steps s [] root (λ t h. on_test_test t _ h) ∙ ap (λ k. on_after k 0 [] ns) e

------------------------------------------------------------------------
-- what the machine does, the grammar allows

-- behind the step n, with the predicates of outer open, ts go on to the end of the text
data After : ℕ → List ℕ → List ParsedNode → List Token → List ParsedNode → Type 0 where
  closes : {n : ℕ} {e : Token} {ns fs : List ParsedNode} {ts : List Token}
      → Predicates n ns ts fs (e ∷ []) → e.kind ≡ End → After n [] ns ts fs
  goes : {n k : ℕ} {outer : List ℕ} {c : Token} {ns ks ms fs : List ParsedNode} {ts us vs : List Token}
      → Predicates n ns ts ks us → Further n ks us ms (c ∷ vs) → c.kind ≡ Close → After k outer ms vs fs → After n (k ∷ outer) ns ts fs

record Closed (p : ℕ) (e : Edge) (k : ℕ) (outer : List ℕ) (ns : List ParsedNode) (ts : List Token) (fs : List ParsedNode) : Type 0 where
  ks : List ParsedNode
  us : List Token
  ms : List ParsedNode
  c : Token
  vs : List Token
  steps_on : Step p e ns ts ks us
  furthers_on : Further (length ns) ks us ms (c ∷ vs)
  closing : c.kind ≡ Close
  goes_on : After k outer ms vs fs

record Opened (n : ℕ) (outer : List ℕ) (ns : List ParsedNode) (ts : List Token) (fs : List ParsedNode) : Type 0 where
  ms : List ParsedNode
  c : Token
  vs : List Token
  path_on : Path n ns ts ms (c ∷ vs)
  closing : c.kind ≡ Close
  goes_on : After n outer ms vs fs

record Rooted (ts : List Token) (fs : List ParsedNode) : Type 0 where
  e : Token
  steps_on : Step 0 Child [] ts fs (e ∷ [])
  ending : e.kind ≡ End

abbrev Completes : State → List Token → List ParsedNode → Type 0
Completes start ts fs = Text ts fs
Completes root ts fs = Rooted ts fs
Completes (after n outer ns) ts fs = After n outer ns ts fs
Completes (opened n outer ns) ts fs = Opened n outer ns ts fs
Completes (dotted n outer ns) ts fs = (d : Token) → d.kind ≡ Dot → Opened n outer ns (d ∷ ts) fs
Completes (below n outer ns) ts fs = Closed n Descendant n outer ns ts fs
Completes (more e n k outer ns) ts fs = Closed n e k outer ns ts fs
Completes (ended ns) ts fs = (ts ≡ []) × (ns ≡ fs)

pub moves_stuck : (ts : List Token) → moves ts stuck ≡ stuck
moves_stuck [] = refl
moves_stuck (t ∷ ts) = refl

abbrev pub IsTo : Moved → Type 0
IsTo (to s) = Unit {0}
IsTo stuck = ⊥

abbrev pub no_move : {X : Type 0} (ts : List Token) (s : State) → moves ts stuck ≡ to s → X
no_move ts s e = absurd (subst IsTo (sym e ∙ moves_stuck ts) tt)

abbrev IsEnded : Moved → Type 0
IsEnded (to start) = ⊥
IsEnded (to root) = ⊥
IsEnded (to (after n outer ns)) = ⊥
IsEnded (to (opened n outer ns)) = ⊥
IsEnded (to (dotted n outer ns)) = ⊥
IsEnded (to (below n outer ns)) = ⊥
IsEnded (to (more e n k outer ns)) = ⊥
IsEnded (to (ended ns)) = Unit {0}
IsEnded stuck = ⊥

not_ended : {X : Type 0} (m : Moved) (ns : List ParsedNode) → m ≡ to (ended ns) → (IsEnded m → ⊥) → X
not_ended m ns e h = absurd (h (subst IsEnded (sym e) tt))

double_only : (k : Kind) (s : State) (ts : List Token) (f : State) → moves ts (on_double k s) ≡ to f → (k ≡ DoubleSlash) × (moves ts (to s) ≡ to f)
double_only DoubleSlash s ts f e = (refl, e)
double_only Slash s ts f e = no_move ts f e
double_only Dot s ts f e = no_move ts f e
double_only Open s ts f e = no_move ts f e
double_only Close s ts f e = no_move ts f e
double_only Star s ts f e = no_move ts f e
double_only Name s ts f e = no_move ts f e
double_only Stray s ts f e = no_move ts f e
double_only End s ts f e = no_move ts f e

test_only : (t : Token) (k : Kind) → t.kind ≡ k → (s : State) (ts : List Token) (f : State) → moves ts (on_test k s) ≡ to f → Test t × (moves ts (to s) ≡ to f)
test_only t DoubleSlash h s ts f e = no_move ts f e
test_only t Slash h s ts f e = no_move ts f e
test_only t Dot h s ts f e = no_move ts f e
test_only t Open h s ts f e = no_move ts f e
test_only t Close h s ts f e = no_move ts f e
test_only t Star h s ts f e = (star h, e)
test_only t Name h s ts f e = (name h, e)
test_only t Stray h s ts f e = no_move ts f e
test_only t End h s ts f e = no_move ts f e

path_only : (t : Token) (k : Kind) → t.kind ≡ k → (d s : State) (ts : List Token) (f : State) → moves ts (on_path k d s) ≡ to f
    → ((t.kind ≡ Dot) × (moves ts (to d) ≡ to f)) ⊎ (Test t × (moves ts (to s) ≡ to f))
path_only t DoubleSlash h d s ts f e = no_move ts f e
path_only t Slash h d s ts f e = no_move ts f e
path_only t Dot h d s ts f e = inl (h, e)
path_only t Open h d s ts f e = no_move ts f e
path_only t Close h d s ts f e = no_move ts f e
path_only t Star h d s ts f e = inr (star h, e)
path_only t Name h d s ts f e = inr (name h, e)
path_only t Stray h d s ts f e = no_move ts f e
path_only t End h d s ts f e = no_move ts f e

-- a step in front of what goes on behind it
join : {p : ℕ} {e : Edge} {k : ℕ} {outer : List ℕ} {ns fs : List ParsedNode} {t : Token} {ts : List Token}
    → Test t → After (length ns) (k ∷ outer) (ns ++ (node p e t ∷ [])) ts fs → Closed p e k outer ns (t ∷ ts) fs
join h (goes ps fur c a) = record { ks = _; us = _; ms = _; c = _; vs = _; steps_on = step h ps; furthers_on = fur; closing = c; goes_on = a }

join_root : {fs : List ParsedNode} {t : Token} {ts : List Token} → Test t → After 0 [] ([] ++ (node 0 Child t ∷ [])) ts fs → Rooted (t ∷ ts) fs
join_root h (closes ps e) = record { e = _; steps_on = step h ps; ending = e }

open_path : {n : ℕ} {outer : List ℕ} {ns fs : List ParsedNode} {ts : List Token} → Closed n Child n outer ns ts fs → Opened n outer ns ts fs
open_path r = record { ms = r.ms; c = r.c; vs = r.vs; path_on = child r.steps_on r.furthers_on; closing = r.closing; goes_on = r.goes_on }

open_below : {n : ℕ} {outer : List ℕ} {ns fs : List ParsedNode} {d s : Token} {ts : List Token} → d.kind ≡ Dot → s.kind ≡ DoubleSlash → Closed n Descendant n outer ns ts fs → Opened n outer ns (d ∷ s ∷ ts) fs
open_below d s r = record { ms = r.ms; c = r.c; vs = r.vs; path_on = descendant d s r.steps_on r.furthers_on; closing = r.closing; goes_on = r.goes_on }

add_predicate : {n : ℕ} {outer : List ℕ} {ns fs : List ParsedNode} {o : Token} {ts : List Token} → o.kind ≡ Open → (r : Opened n outer ns ts fs) → After n outer ns (o ∷ ts) fs
add_predicate {n} {outer} {ns} {fs} {o} {ts} h r = go outer r.goes_on
  where
    go : (outer : List ℕ) → After n outer r.ms r.vs fs → After n outer ns (o ∷ ts) fs
    go [] (closes ps e) = closes (predicate h r.path_on r.closing ps) e
    go (k ∷ outer) (goes ps f c a) = goes (predicate h r.path_on r.closing ps) f c a

add_further : {n k : ℕ} {e : Edge} {outer : List ℕ} {ns fs : List ParsedNode} {s : Token} {ts : List Token} → Between s e → Closed n e k outer ns ts fs → After n (k ∷ outer) ns (s ∷ ts) fs
add_further h r = goes none (further h r.steps_on r.furthers_on) r.closing r.goes_on

-- the kinds that may stand behind a step
data GoesOn (t : Token) (n : ℕ) (ns : List ParsedNode) (ts : List Token) (f : State) : List ℕ → Type 0 where
  by_open : {outer : List ℕ} → t.kind ≡ Open → moves ts (to (opened n outer ns)) ≡ to f → GoesOn t n ns ts f outer
  by_close : {k : ℕ} {outer : List ℕ} → t.kind ≡ Close → moves ts (to (after k outer ns)) ≡ to f → GoesOn t n ns ts f (k ∷ outer)
  by_between : {e : Edge} {k : ℕ} {outer : List ℕ} → Between t e → moves ts (to (more e n k outer ns)) ≡ to f → GoesOn t n ns ts f (k ∷ outer)
  by_end : t.kind ≡ End → moves ts (to (ended ns)) ≡ to f → GoesOn t n ns ts f []

after_only : (t : Token) (k : Kind) → t.kind ≡ k → (n : ℕ) (outer : List ℕ) (ns : List ParsedNode) (ts : List Token) (f : State) → moves ts (on_after k n outer ns) ≡ to f → GoesOn t n ns ts f outer
after_only t DoubleSlash h n [] ns ts f e = no_move ts f e
after_only t DoubleSlash h n (k ∷ outer) ns ts f e = by_between (double_slash h) e
after_only t Slash h n [] ns ts f e = no_move ts f e
after_only t Slash h n (k ∷ outer) ns ts f e = by_between (slash h) e
after_only t Dot h n outer ns ts f e = no_move ts f e
after_only t Open h n outer ns ts f e = by_open h e
after_only t Close h n [] ns ts f e = no_move ts f e
after_only t Close h n (k ∷ outer) ns ts f e = by_close h e
after_only t Star h n outer ns ts f e = no_move ts f e
after_only t Name h n outer ns ts f e = no_move ts f e
after_only t Stray h n outer ns ts f e = no_move ts f e
after_only t End h n [] ns ts f e = by_end h e
after_only t End h n (k ∷ outer) ns ts f e = no_move ts f e

-- how the grammar goes on behind a step, by what is read next and what goes on behind that
glue : (t : Token) (n : ℕ) (outer : List ℕ) (ns : List ParsedNode) (ts : List Token) (fs : List ParsedNode)
    → ((s : State) → moves ts (to s) ≡ to (ended fs) → Completes s ts fs)
    → GoesOn t n ns ts (ended fs) outer → After n outer ns (t ∷ ts) fs
glue t n outer ns ts fs ih (by_open h e) = add_predicate h (ih _ e)
glue t n outer ns ts fs ih (by_close h e) = goes none last h (ih _ e)
glue t n outer ns ts fs ih (by_between h e) = add_further h (ih _ e)
glue t n outer ns ts fs ih (by_end h e) =
    let (empty, same) = ih (ended ns) e in
    subst (λ us. After n [] ns (t ∷ us) fs) (sym empty) (subst (λ gs. After n [] ns (t ∷ []) gs) same (closes none h))

soundly : (ts : List Token) (fs : List ParsedNode) (s : State) → moves ts (to s) ≡ to (ended fs) → Completes s ts fs
soundly [] fs start e = not_ended _ fs e (λ h. h)
soundly [] fs root e = not_ended _ fs e (λ h. h)
soundly [] fs (after n outer ns) e = not_ended _ fs e (λ h. h)
soundly [] fs (opened n outer ns) e = not_ended _ fs e (λ h. h)
soundly [] fs (dotted n outer ns) e = not_ended _ fs e (λ h. h)
soundly [] fs (below n outer ns) e = not_ended _ fs e (λ h. h)
soundly [] fs (more d n k outer ns) e = not_ended _ fs e (λ h. h)
soundly [] fs (ended ns) e = (refl, (cc))
soundly (t ∷ ts) fs start e =
    let (h, q) = double_only t.kind root ts (ended fs) e in
    let r = soundly ts fs root q in
    text h r.steps_on r.ending
soundly (t ∷ ts) fs root e =
    let (h, q) = test_only t t.kind refl _ ts (ended fs) e in
    join_root h (soundly ts fs _ q)
soundly (t ∷ ts) fs (after n outer ns) e = glue t n outer ns ts fs (λ s q. soundly ts fs s q) (after_only t t.kind refl n outer ns ts (ended fs) e)
soundly (t ∷ ts) fs (opened n outer ns) e =
    elim (path_only t t.kind refl _ _ ts (ended fs) e) [
      | inl h ↦ soundly ts fs (dotted n outer ns) h.1 t h.0
      | inr h ↦ open_path (join h.0 (soundly ts fs _ h.1))
    ]
soundly (t ∷ ts) fs (dotted n outer ns) e =
    let (h, q) = double_only t.kind _ ts (ended fs) e in
    λ d dot. open_below dot h (soundly ts fs (below n outer ns) q)
soundly (t ∷ ts) fs (below n outer ns) e =
    let (h, q) = test_only t t.kind refl _ ts (ended fs) e in
    join h (soundly ts fs _ q)
soundly (t ∷ ts) fs (more d n k outer ns) e =
    let (h, q) = test_only t t.kind refl _ ts (ended fs) e in
    join h (soundly ts fs _ q)
soundly (t ∷ ts) fs (ended ns) e = no_move ts (ended fs) e

pub sound : (ts : List Token) (ns : List ParsedNode) → moves ts (to start) ≡ to (ended ns) → Text ts ns
sound ts ns e = soundly ts ns start e

------------------------------------------------------------------------
-- every state but a stuck one can be gone on from, to the end of a text

abbrev mark : Kind → Token
mark k = record { kind = k; place = 0; len = 0 }

abbrev closing : List ℕ → List Token
closing [] = mark End ∷ []
closing (k ∷ outer) = mark Close ∷ closing outer

closing_ends : (n : ℕ) (outer : List ℕ) (ns : List ParsedNode) → moves (closing outer) (to (after n outer ns)) ≡ to (ended ns)
closing_ends n [] ns = refl
closing_ends n (k ∷ outer) ns = closing_ends k outer ns

pub finishes : (s : State) → (rest : List Token) × (ns : List ParsedNode) × (moves rest (to s) ≡ to (ended ns))
finishes start = (mark DoubleSlash ∷ mark Star ∷ mark End ∷ [], _, refl)
finishes root = (mark Star ∷ mark End ∷ [], _, refl)
finishes (after n outer ns) = (closing outer, ns, closing_ends n outer ns)
finishes (opened n outer ns) = (mark Star ∷ closing (n ∷ outer), _, closing_ends (length ns) (n ∷ outer) _)
finishes (dotted n outer ns) = (mark DoubleSlash ∷ mark Star ∷ closing (n ∷ outer), _, closing_ends (length ns) (n ∷ outer) _)
finishes (below n outer ns) = (mark Star ∷ closing (n ∷ outer), _, closing_ends (length ns) (n ∷ outer) _)
finishes (more e n k outer ns) = (mark Star ∷ closing (k ∷ outer), _, closing_ends (length ns) (k ∷ outer) _)
finishes (ended ns) = ([], ns, refl)

pub moves_append : (ts us : List Token) (m : Moved) → moves (ts ++ us) m ≡ moves us (moves ts m)
moves_append [] us m = refl
moves_append (t ∷ ts) us (to s) = moves_append ts us (move s t)
moves_append (t ∷ ts) us stuck = sym (moves_stuck us)

pub begins : (ts : List Token) (s : State) → moves ts (to start) ≡ to s → Begins ts
begins ts s e =
    let (rest, ns, q) = finishes s in
    (rest, ns, sound (ts ++ rest) ns (moves_append ts rest (to start) ∙ ap (moves rest) e ∙ q))

pub begins_not : (ts : List Token) → moves ts (to start) ≡ stuck → Begins ts → ⊥
begins_not ts e b =
    let (rest, ns, h) = b in
    no_move rest (ended ns) (sym (ap (moves rest) e) ∙ sym (moves_append ts rest (to start)) ∙ complete h)
