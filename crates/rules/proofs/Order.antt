-- Each parent is numbered below its child. Assumes nothing.
use Rattle.std.proofs.Common.{◌≡◌, ℕ, ◌<◌, ◌≤◌, ◌⊎◌, List, [], ◌∷◌, ◌++◌, length, get_or, sym, refl, subst, inl, inr, arith}
use Rattle.std.specs.List.{AllByRecursion}
use Rattle.std.proofs.lemmas.List.{length_push, get_or_push, get_or_append_left}
use Rattle.std.proofs.lemmas.Bool.{cases_lt}
use Rattle.rules.specs.declared.syntax.Kind.{Kind}
use Rattle.rules.specs.declared.syntax.Kind.TheVariants.{DoubleSlash, Slash, Dot, Open, Close, Star, Name, Stray, End}
use Rattle.rules.specs.declared.syntax.Token.{Token}
use Rattle.rules.specs.declared.node.Edge.{Edge}
use Rattle.rules.specs.declared.node.Edge.TheVariants.{Child, Descendant}
use Rattle.rules.specs.declared.syntax.ParsedNode.{ParsedNode}
use Rattle.rules.specs.Grammar.{node, Text}
use Rattle.rules.specs.Texts.{TextGives, gives}
use Rattle.rules.specs.Machine.{State, start, root, after, opened, dotted, below, more, ended, Moved, to, stuck, on_double, on_test, on_path, on_after, move, moves}
use Rattle.rules.proofs.Machine.{no_move, complete}

abbrev pub Ordered : List ParsedNode → Type 0
Ordered ns = (i : ℕ) (d : ParsedNode) → 0 < i → i < length ns → (get_or ns i d).parent < i

to_same : {s u : State} → to s ≡ to u → s ≡ u
to_same e = cc

-- what holds of the state that a token leads to
module _ (P : State → Type 0) where
  by_double : (k : Kind) (v u : State) → P v → on_double k v ≡ to u → P u
  by_double DoubleSlash v u h e = subst P (to_same e) h
  by_double Slash v u h e = no_move [] u e
  by_double Dot v u h e = no_move [] u e
  by_double Open v u h e = no_move [] u e
  by_double Close v u h e = no_move [] u e
  by_double Star v u h e = no_move [] u e
  by_double Name v u h e = no_move [] u e
  by_double Stray v u h e = no_move [] u e
  by_double End v u h e = no_move [] u e

  by_test : (k : Kind) (v u : State) → P v → on_test k v ≡ to u → P u
  by_test DoubleSlash v u h e = no_move [] u e
  by_test Slash v u h e = no_move [] u e
  by_test Dot v u h e = no_move [] u e
  by_test Open v u h e = no_move [] u e
  by_test Close v u h e = no_move [] u e
  by_test Star v u h e = subst P (to_same e) h
  by_test Name v u h e = subst P (to_same e) h
  by_test Stray v u h e = no_move [] u e
  by_test End v u h e = no_move [] u e

  by_path : (k : Kind) (d v u : State) → P d → P v → on_path k d v ≡ to u → P u
  by_path DoubleSlash d v u g h e = no_move [] u e
  by_path Slash d v u g h e = no_move [] u e
  by_path Dot d v u g h e = subst P (to_same e) g
  by_path Open d v u g h e = no_move [] u e
  by_path Close d v u g h e = no_move [] u e
  by_path Star d v u g h e = subst P (to_same e) h
  by_path Name d v u g h e = subst P (to_same e) h
  by_path Stray d v u g h e = no_move [] u e
  by_path End d v u g h e = no_move [] u e

record Within (n : ℕ) (outer : List ℕ) (ns : List ParsedNode) : Type 0 where
  here : n < length ns
  around : AllByRecursion (λ k. k < length ns) outer
  ordered : Ordered ns

abbrev Sane : State → Type 0
Sane start = Unit {0}
Sane root = Unit {0}
Sane (after n outer ns) = Within n outer ns
Sane (opened n outer ns) = Within n outer ns
Sane (dotted n outer ns) = Within n outer ns
Sane (below n outer ns) = Within n outer ns
Sane (more e n k outer ns) = Within n (k ∷ outer) ns
Sane (ended ns) = Ordered ns

every_wider : (m n : ℕ) (ks : List ℕ) → m ≤ n → AllByRecursion (λ k. k < m) ks → AllByRecursion (λ k. k < n) ks
every_wider m n [] h e = tt
every_wider m n (k ∷ ks) h e = (omega (arith, e.0), every_wider m n ks h e.1)

-- a rule node more, under one that is there
push : (p : ℕ) (edge : Edge) (t : Token) (outer : List ℕ) (ns : List ParsedNode) → p < length ns → AllByRecursion (λ k. k < length ns) outer → Ordered ns → Within (length ns) outer (ns ++ (node p edge t ∷ []))
push p edge t outer ns h around ordered =
    let long = length_push ns (node p edge t) in
    record {
      here = omega arith;
      around = every_wider (length ns) _ outer (omega arith) around;
      ordered = λ i d pos lt. go i d pos lt (cases_lt i (length ns));
    }
  where
    go : (i : ℕ) (d : ParsedNode) → 0 < i → i < length (ns ++ (node p edge t ∷ [])) → (i < length ns) ⊎ (length ns ≤ i) → (get_or (ns ++ (node p edge t ∷ [])) i d).parent < i
    go i d pos lt (inl l) = subst (λ x. x.parent < i) (sym (get_or_append_left ns (node p edge t ∷ []) d i l)) (ordered i d pos l)
    go i d pos lt (inr l) =
        let is : length ns ≡ i = omega (arith, length_push ns (node p edge t)) in
        subst (λ x. x.parent < i) (sym (get_or_push ns (node p edge t) d i is)) (omega arith)

sane_after : (k : Kind) (n : ℕ) (outer : List ℕ) (ns : List ParsedNode) (u : State) → Within n outer ns → on_after k n outer ns ≡ to u → Sane u
sane_after DoubleSlash n [] ns u w e = no_move [] u e
sane_after DoubleSlash n (k ∷ outer) ns u w e = subst Sane (to_same e) w
sane_after Slash n [] ns u w e = no_move [] u e
sane_after Slash n (k ∷ outer) ns u w e = subst Sane (to_same e) w
sane_after Dot n outer ns u w e = no_move [] u e
sane_after Open n outer ns u w e = subst Sane (to_same e) w
sane_after Close n [] ns u w e = no_move [] u e
sane_after Close n (k ∷ outer) ns u w e = subst Sane (to_same e) (record { here = w.around.0; around = w.around.1; ordered = w.ordered })
sane_after Star n outer ns u w e = no_move [] u e
sane_after Name n outer ns u w e = no_move [] u e
sane_after Stray n outer ns u w e = no_move [] u e
sane_after End n [] ns u w e = subst Sane (to_same e) w.ordered
sane_after End n (k ∷ outer) ns u w e = no_move [] u e

alone : (x : ParsedNode) → Ordered (x ∷ [])
alone x i d pos lt = absurd (omega arith)

sane_move : (s : State) (t : Token) (u : State) → Sane s → move s t ≡ to u → Sane u
sane_move start t u h e = by_double Sane t.kind root u tt e
sane_move root t u h e = by_test Sane t.kind _ u (record { here = omega arith; around = tt; ordered = alone _ }) e
sane_move (after n outer ns) t u h e = sane_after t.kind n outer ns u h e
sane_move (opened n outer ns) t u h e = by_path Sane t.kind _ _ u h (push n Child t (n ∷ outer) ns h.here (h.here, h.around) h.ordered) e
sane_move (dotted n outer ns) t u h e = by_double Sane t.kind _ u h e
sane_move (below n outer ns) t u h e = by_test Sane t.kind _ u (push n Descendant t (n ∷ outer) ns h.here (h.here, h.around) h.ordered) e
sane_move (more d n k outer ns) t u h e = by_test Sane t.kind _ u (push n d t (k ∷ outer) ns h.here h.around h.ordered) e
sane_move (ended ns) t u h e = no_move [] u e

sane_moves : (ts : List Token) (s u : State) → Sane s → moves ts (to s) ≡ to u → Sane u
sane_moves [] s u h e = subst Sane (to_same e) h
sane_moves (t ∷ ts) s u h e = go (move s t) refl e (λ v h e. sane_moves ts v u h e)
  where
    go : (m : Moved) → move s t ≡ m → moves ts m ≡ to u → ((v : State) → Sane v → moves ts (to v) ≡ to u → Sane u) → Sane u
    go stuck q e ih = no_move ts u e
    go (to v) q e ih = ih v (sane_move s t v h q) e

text_ordered : {ts : List Token} {ns : List ParsedNode} → Text ts ns → Ordered ns
text_ordered {ts} {ns} t = sane_moves ts start (ended ns) tt (complete t)

pub gives_ordered : (bs : List ℕ) (ns : List ParsedNode) → TextGives bs ns → Ordered ns
gives_ordered bs ns (gives f l a) = text_ordered a.formed
