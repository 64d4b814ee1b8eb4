-- The loops of the readers, and how their steps join. Assumes nothing.
use Rattle.std.proofs.lemmas.Bool.{eqb-false}
use Rattle.rules.specs.Limits.{text_limit, bracket_limit}
use Rattle.rules.specs.Refusals.{number_and_place}
use Rattle.std.proofs.Common.{false, eqb, ◌<◌, ◌≤◌, inl, inr, ◌≡◌, ℕ, ◌+◌, ◌-◌, List, [], ◌∷◌, length, sym, refl, ap, ◌∙◌, subst, rules}
use Rattle.std.specs.List.{AllByRecursion}
use Rattle.rules.specs.declared.reader.Reader.{Reader}
use Rattle.rules.specs.declared.refusal.TextRefusal.{TextRefusal}
use Rattle.rules.specs.declared.syntax.Kind.{Kind}
use Rattle.rules.specs.declared.syntax.Kind.TheVariants.{DoubleSlash, Slash, Dot, Open, Close, Star, Name, Stray, End}
use Rattle.rules.specs.declared.syntax.ParsedNode.{ParsedNode}
use Rattle.rules.specs.declared.node.Edge.{Edge}
use Rattle.rules.specs.declared.node.Edge.TheVariants.{Child}
use Rattle.rules.specs.Machine.{lex, start, root, after, more, on_double, on_after, stuck, on_test, with_node, over, go, run, from, accepts}
use Rattle.rules.specs.Texts.{Unfit, TextRefused, unfit}
use Rattle.rules.specs.Parsing.{InText, Parses}
use Rattle.rules.proofs.Answering.{fit, turns_away, accepting}
use Rattle.rules.specs.Readers.{told, bytes, left, made, front, Unopened, Fresh, Kept, Expected, Unexpected, Enters, first, Begun, Joined, Room, StepRead, StepFails, PathFails}

-- the bytes that are not read yet
abbrev pub unread : Reader → ℕ
unread r = length (bytes r) - r.at

-- over the further steps of a path
pub record Along (e : Reader) (first : ℕ) (x : Reader) (last room : ℕ) : Type 0 where
  pub kept : Kept e x
  pub stops : Unopened (front (left x))
  pub leads : (k : ℕ) (outer : List ℕ) → Room (k ∷ outer) room → run (left e) (after first (k ∷ outer) (made e)) ≡ run (left x) (after last (k ∷ outer) (made x))

-- over the predicates of a step
pub record Past (e x : Reader) (n room : ℕ) : Type 0 where
  pub kept : Kept e x
  pub leads : (outer : List ℕ) → Room outer room → run (left e) (after n outer (made e)) ≡ run (left x) (after n outer (made x))

-- a path whose first step fails
pub first_fails : {e x : Reader} {edge : Edge} (n room : ℕ) (f : TextRefusal) → Begun e x edge → StepFails x n edge room f → PathFails e n room f
first_fails {x = x} {edge = edge} n room f b s outer fits = b.leads n outer ∙ s (n ∷ outer) (first edge n outer (made x)) fits (b.enters n outer)

-- a path of which a further step fails
pub further_fails : {e x y z w : Reader} {edge edge' : Edge} {m last : ℕ} (n room : ℕ) (f : TextRefusal)
    → Begun e x edge → StepRead x y n edge room m → Along y m z last room → Joined z w edge' → StepFails w last edge' room f → PathFails e n room f
further_fails {x = x} {w = w} {edge = edge} {edge' = edge'} {last = last} n room f b s a j g outer fits =
    b.leads n outer ∙ s.leads (n ∷ outer) (first edge n outer (made x)) fits (b.enters n outer) ∙ a.leads n outer fits ∙ j.leads last n outer
    ∙ g (n ∷ outer) (more edge' last n outer (made w)) fits (record { nodes_are = refl; moves_on = λ t _. refl })

------------------------------------------------------------------------
-- the whole text

-- what the text is refused for, from the number of its bytes
pub empty_fails : (bs : List ℕ) → length bs ≡ 0 → TextRefused bs (10, 0)
empty_fails bs h = unfit (inl h)

pub long_fails : (bs : List ℕ) → text_limit < length bs → TextRefused bs (10, 0)
long_fails bs h = unfit (inr h)

-- a token that is not the last stands before those that are left behind it
passed_on : {e x : Reader} {k : Kind} (p : Expected e x k) → (k ≡ End → ⊥) → left e ≡ p.token ∷ left x
passed_on p real = p.upcoming.on (λ q. real (sym p.kind ∙ q)) ∙ (λ i. p.token ∷ from (sym p.same i) (sym p.behind i))

-- the text bs has been read as far as behind its step
pub record Stepped (bs : List ℕ) (y : Reader) : Type 0 where
  pub fits : Unfit bs → ⊥
  pub same : bytes y ≡ bs
  pub stops : Unopened (front (left y))
  pub leads : (n : ℕ) × (run (lex 0 0 bs) start ≡ run (left y) (after n [] (made y)))

module _ (bs : List ℕ) (e : Reader) (new : Fresh bs e) (some : false ≡ eqb (length bs) 0) (few : length bs ≤ text_limit) where
  fits : Unfit bs → ⊥
  fits = fit bs (eqb-false _ 0 (sym some)) few

  all_left : lex 0 0 bs ≡ left e
  all_left i = from (sym new.whole i) (sym new.front i)

  -- no text begins with another token
  pub start_fails : (f : TextRefusal) → Unexpected e DoubleSlash f → TextRefused bs (number_and_place f)
  start_fails f h =
      let here : run (left e) start ≡ told f = search rules in
      turns_away bs f fits (ap (λ ts. run ts start) all_left ∙ here)

  module _ (x : Reader) (p : Expected e x DoubleSlash) where
    to_root : run (lex 0 0 bs) start ≡ run (left x) root
    to_root =
        ap (λ ts. run ts start) (all_left ∙ passed_on p (λ q. cc))
        ∙ ap (λ k. go (on_double k root) (over k p.token.len 0 0) p.token.place (λ u. run (left x) u)) p.kind

    at_root : Enters x root 0 Child []
    at_root =
        let nothing : [] ≡ made x = sym (p.made_same ∙ new.none) in
        record { nodes_are = nothing; moves_on = λ t _. ap (λ ns. on_test t.kind (with_node 0 Child [] ns t)) nothing }

    pub step_fails : (f : TextRefusal) → StepFails x 0 Child bracket_limit f → TextRefused bs (number_and_place f)
    step_fails f s = turns_away bs f fits (to_root ∙ s [] root refl at_root)

    pub stepped : (y : Reader) (n : ℕ) → StepRead x y 0 Child bracket_limit n → Stepped bs y
    stepped y n s = record { fits = fits; same = s.kept.same ∙ p.same ∙ new.whole; stops = s.stops; leads = (n, to_root ∙ s.leads [] root refl at_root) }

pub parses : {bs : List ℕ} {y z : Reader} → Stepped bs y → Expected y z End → Parses bs (made z)
parses {bs} {y} {z} s q =
    let t = q.token in
    let n = s.leads.0 in
    let all : run (lex 0 0 bs) start ≡ accepts (made z) =
    s.leads.1 ∙ ap (λ ts. run ts (after n [] (made y))) (q.upcoming.done q.kind)
    ∙ ap (λ k. go (on_after k n [] (made y)) (over k t.len (length (made y)) 0) t.place (λ u. run [] u)) q.kind ∙ ap accepts (sym q.made_same) in
    record {
      reads = accepting bs (made z) s.fits all;
      in_text = subst (λ bs. AllByRecursion (InText bs) (made z)) (q.same ∙ s.same) z.in_text;
    }

-- behind a step with its predicates, outside of brackets, only the end is allowed
only_end : (k : Kind) (n : ℕ) (ns : List ParsedNode) → Unopened k → (k ≡ End → ⊥) → on_after k n [] ns ≡ stuck
only_end DoubleSlash n ns u r = refl
only_end Slash n ns u r = refl
only_end Dot n ns u r = refl
only_end Open n ns u r = absurd u
only_end Close n ns u r = refl
only_end Star n ns u r = refl
only_end Name n ns u r = refl
only_end Stray n ns u r = refl
only_end End n ns u r = absurd (r refl)

pub end_fails : (bs : List ℕ) (y : Reader) (f : TextRefusal) → Stepped bs y → Unexpected y End f → TextRefused bs (number_and_place f)
end_fails bs y f s h =
    let t = h.token in
    let n = s.leads.0 in
    let next = h.upcoming.on h.other in
    turns_away bs f s.fits (
    s.leads.1 ∙ ap (λ ts. run ts (after n [] (made y))) next
    ∙ ap (λ m. go m (over t.kind t.len (length (made y)) 0) t.place (λ u. run (from (bytes y) (t.place + t.len)) u))
    (only_end t.kind n (made y) (subst (λ ts. Unopened (front ts)) next s.stops) h.other)
    ∙ ap told (sym h.refused))
