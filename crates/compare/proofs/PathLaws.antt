-- Comparing paths.
use Rattle.std.proofs.Common.{◌≡◌, ℕ, zero, suc, ◌⊎◌, inl, inr, ⊎_elim, ◌<◌, ◌≤◌, Bool, true, false, List, length, get_or, slice_get, Some, None, Option, Decides, ◌↔◌, refl, sym, ap, ◌∙◌, subst, arith}
use Rattle.std.specs.Str.{bytes_eq}
use Rattle.std.proofs.lemmas.Bool.{both_ways, cases_lt}
use Rattle.std.proofs.lemmas.Slice.Eq.{bytes_eq-Decides}
use Rattle.std.proofs.lemmas.List.{length-map}
use Rattle.std.proofs.lemmas.Option.{slice_get_past, slice_get_read, slice_get-map}
use Rattle.std.specs.Option.{option_map}
use Rattle.labels.specs.Names.{bytes_of}
use Rattle.labels.specs.declared.name.Name.{Name}
use Rattle.rules.specs.Embedding.{Nodes}
use Rattle.compare.specs.declared.node.Node.{Node}
use Rattle.compare.specs.Paths.{entries, SamePath}

equal_or_not : (a b : List ℕ) → (a ≡ b) ⊎ (a ≡ b → ⊥)
equal_or_not a b = go (bytes_eq a b) (bytes_eq-Decides a b)
  where
    go : (t : Bool) → Decides t (a ≡ b) → (a ≡ b) ⊎ (a ≡ b → ⊥)
    go true d = inl (d.0 refl)
    go false d = inr (λ e. both_ways false refl (d.1 e))

module _ (first second : Nodes Name) where
  -- what two entries say of the paths of their nodes
  abbrev Told : ℕ → ℕ → Option (Option ℕ × Name) → Option (Option ℕ × Name) → Type 0
  Told u v (Some (None, a)) (Some (None, b)) = bytes_of a ≡ bytes_of b
  Told u v (Some (Some p, a)) (Some (Some q, b)) = (bytes_of a ≡ bytes_of b) × (p < u) × (q < v) × SamePath first second p q
  Told u v x y = ⊥

  told : (u v : ℕ) → SamePath first second u v → Told u v (slice_get first u) (slice_get second v)
  told u v (SamePath.roots {a = a} {b = b} e f s) =
      subst (λ x. Told u v x (slice_get second v)) (sym e) (subst (λ y. Told u v (Some (None, a)) y) (sym f) s)
  told u v (SamePath.under {p = p} {q = q} {a = a} {b = b} e f s l m h) =
      subst (λ x. Told u v x (slice_get second v)) (sym e) (subst (λ y. Told u v (Some (Some p, a)) y) (sym f) (s, l, m, h))

  told_at : (u v : ℕ) (x y : Option (Option ℕ × Name)) → slice_get first u ≡ x → slice_get second v ≡ y → SamePath first second u v → Told u v x y
  told_at u v x y e f h = subst (λ z. Told u v x z) f (subst (λ z. Told u v z (slice_get second v)) e (told u v h))

  no_first : (u v : ℕ) → slice_get first u ≡ None → SamePath first second u v → ⊥
  no_first u v e h = told_at u v None (slice_get second v) e refl h

  no_second : (u v : ℕ) (x : Option (Option ℕ × Name)) → slice_get first u ≡ x → slice_get second v ≡ None → SamePath first second u v → ⊥
  no_second u v None e f h = told_at u v None None e f h
  no_second u v (Some (None, a)) e f h = told_at u v (Some (None, a)) None e f h
  no_second u v (Some (Some p, a)) e f h = told_at u v (Some (Some p, a)) None e f h

  same_name : (u v : ℕ) (p q : Option ℕ) (a b : Name) → slice_get first u ≡ Some (p, a) → slice_get second v ≡ Some (q, b) → SamePath first second u v
      → bytes_of a ≡ bytes_of b
  same_name u v None None a b e f h = told_at u v (Some (None, a)) (Some (None, b)) e f h
  same_name u v None (Some q) a b e f h = absurd (told_at u v (Some (None, a)) (Some (Some q, b)) e f h)
  same_name u v (Some p) None a b e f h = absurd (told_at u v (Some (Some p, a)) (Some (None, b)) e f h)
  same_name u v (Some p) (Some q) a b e f h = (told_at u v (Some (Some p, a)) (Some (Some q, b)) e f h).0

  -- it is decided whether two nodes have the same path, once it is for their parents
  decide_at : (u v : ℕ) → ((p q : ℕ) → p < u → SamePath first second p q ⊎ (SamePath first second p q → ⊥))
      → (x y : Option (Option ℕ × Name)) → slice_get first u ≡ x → slice_get second v ≡ y
      → SamePath first second u v ⊎ (SamePath first second u v → ⊥)
  decide_at u v known None y e f = inr (told_at u v None y e f)
  decide_at u v known (Some (None, a)) None e f = inr (told_at u v (Some (None, a)) None e f)
  decide_at u v known (Some (Some p, a)) None e f = inr (told_at u v (Some (Some p, a)) None e f)
  decide_at u v known (Some (None, a)) (Some (Some q, b)) e f = inr (told_at u v (Some (None, a)) (Some (Some q, b)) e f)
  decide_at u v known (Some (Some p, a)) (Some (None, b)) e f = inr (told_at u v (Some (Some p, a)) (Some (None, b)) e f)
  decide_at u v known (Some (None, a)) (Some (None, b)) e f =
      ⊎_elim
      (λ (s : bytes_of a ≡ bytes_of b). inl (SamePath.roots e f s))
      (λ (n : bytes_of a ≡ bytes_of b → ⊥). inr (λ h. n (told_at u v (Some (None, a)) (Some (None, b)) e f h)))
      (equal_or_not (bytes_of a) (bytes_of b))
  decide_at u v known (Some (Some p, a)) (Some (Some q, b)) e f =
      let apart : (SamePath first second u v → (bytes_of a ≡ bytes_of b) × (p < u) × (q < v) × SamePath first second p q) =
      told_at u v (Some (Some p, a)) (Some (Some q, b)) e f in
      ⊎_elim
      (λ (s : bytes_of a ≡ bytes_of b). ⊎_elim
      (λ (l : p < u). ⊎_elim
      (λ (m : q < v). ⊎_elim
      (λ (k : SamePath first second p q). inl (SamePath.under e f s l m k))
      (λ (n : SamePath first second p q → ⊥). inr (λ h. n (apart h).3))
      (known p q l))
      (λ (m : v ≤ q). inr (λ h. let k = (apart h).2 in let z : ⊥ = omega arith in z))
      (cases_lt q v))
      (λ (l : u ≤ p). inr (λ h. let k = (apart h).1 in let z : ⊥ = omega arith in z))
      (cases_lt p u))
      (λ (n : bytes_of a ≡ bytes_of b → ⊥). inr (λ h. n (apart h).0))
      (equal_or_not (bytes_of a) (bytes_of b))

  decided_below : (n u v : ℕ) → u < n → SamePath first second u v ⊎ (SamePath first second u v → ⊥)
  decided_below zero u v l = absurd (omega arith)
  decided_below (suc n) u v l = decide_at u v (λ p q k. decided_below n p q (omega arith)) (slice_get first u) (slice_get second v) refl refl

  pub same_or_not : (u v : ℕ) → SamePath first second u v ⊎ (SamePath first second u v → ⊥)
  same_or_not u v = decided_below (suc u) u v (omega arith)

entry_same : (o : Option (Option ℕ × Name)) (x y : Option ℕ × Name) → o ≡ Some x → o ≡ Some y → x ≡ y
entry_same o x y e f = let k : Some x ≡ Some y = sym e ∙ f in cc

-- along a third node
pub same_along : {first second third : Nodes Name} {u v w : ℕ} → SamePath first second u v → SamePath second third v w → SamePath first third u w
same_along (SamePath.roots {b = b} e f s) (SamePath.roots {a = a} g h t) =
    let k = entry_same _ (None, b) (None, a) f g in SamePath.roots e h (s ∙ ap (λ (z : Option ℕ × Name). bytes_of z.1) k ∙ t)
same_along (SamePath.roots {b = b} e f s) (SamePath.under {p = p} {a = a} g h t l m n) =
    let k = entry_same _ (None, b) (Some p, a) f g in
    let y : None ≡ Some p = ap (λ (z : Option ℕ × Name). z.0) k in
    let z : ⊥ = cc in absurd z
same_along (SamePath.under {q = q} {b = b} e f s l m n) (SamePath.roots {a = a} g h t) =
    let k = entry_same _ (Some q, b) (None, a) f g in
    let y : Some q ≡ None = ap (λ (z : Option ℕ × Name). z.0) k in
    let z : ⊥ = cc in absurd z
same_along {first} {second} {third} (SamePath.under {q = q} {b = b} e f s l m n) (SamePath.under {p = p} {q = r} {a = a} g h t i j o) =
    let k = entry_same _ (Some q, b) (Some p, a) f g in
    let y : Some q ≡ Some p = ap (λ (z : Option ℕ × Name). z.0) k in
    let x : p ≡ q = cc in
    SamePath.under e h (s ∙ ap (λ (z : Option ℕ × Name). bytes_of z.1) k ∙ t) l j (same_along n (subst (λ (d : ℕ). SamePath second third d r) x o))

-- the other way round
pub turned : {first second : Nodes Name} {u v : ℕ} → SamePath first second u v → SamePath second first v u
turned (SamePath.roots e f s) = SamePath.roots f e (sym s)
turned (SamePath.under e f s l m h) = SamePath.under f e (sym s) m l (turned h)

pub entry_at : (ns : List Node) (k : ℕ) (x : Node) → k < length ns → x ≡ get_or ns k x → slice_get (entries ns) k ≡ Some (x.parent, x.name)
entry_at ns k x l e =
    slice_get-map (λ n. (n.parent, n.name)) ns k ∙ ap (option_map (λ n. (n.parent, n.name))) (slice_get_read ns (length ns) k x refl l e)

pub no_entry : (ns : List Node) (k : ℕ) → length ns ≤ k → slice_get (entries ns) k ≡ None
no_entry ns k l = slice_get_past (entries ns) k (omega (arith, length-map {B = Option ℕ × Name} ns (λ n. (n.parent, n.name))))

-- The comparison of the paths of u and v is that of the paths of one and two.
module _ (ns ms : List Node) (u v one two : ℕ)
    (known : SamePath (entries ns) (entries ms) u v ↔ SamePath (entries ns) (entries ms) one two) where
  never : (SamePath (entries ns) (entries ms) one two → ⊥) → Decides false (SamePath (entries ns) (entries ms) u v)
  never h = (λ e. absurd (both_ways false refl e), λ s. absurd (h (known.0 s)))

  pub past_first : length ns ≤ one → Decides false (SamePath (entries ns) (entries ms) u v)
  past_first l = never (no_first (entries ns) (entries ms) one two (no_entry ns one l))

  pub past_second : length ms ≤ two → Decides false (SamePath (entries ns) (entries ms) u v)
  past_second l = never (no_second (entries ns) (entries ms) one two (slice_get (entries ns) one) refl (no_entry ms two l))

  module _ (x y : Node) (in_one : one < length ns) (in_two : two < length ms) (at_one : x ≡ get_or ns one x) (at_two : y ≡ get_or ms two y) where
    one_is : slice_get (entries ns) one ≡ Some (x.parent, x.name)
    one_is = entry_at ns one x in_one at_one

    two_is : slice_get (entries ms) two ≡ Some (y.parent, y.name)
    two_is = entry_at ms two y in_two at_two

    pub other_names : (b : Bool) → b ≡ false → Decides b (bytes_of x.name ≡ bytes_of y.name) → Decides false (SamePath (entries ns) (entries ms) u v)
    other_names b e d = never (λ h. both_ways b e (d.1 (same_name (entries ns) (entries ms) one two x.parent y.parent x.name y.name one_is two_is h)))

    one_at : (p : Option ℕ) → x.parent ≡ p → slice_get (entries ns) one ≡ Some (p, x.name)
    one_at p e = one_is ∙ ap (λ q. Some (q, x.name)) e

    two_at : (p : Option ℕ) → y.parent ≡ p → slice_get (entries ms) two ≡ Some (p, y.name)
    two_at p e = two_is ∙ ap (λ q. Some (q, y.name)) e

    pub both_roots : (b : Bool) → b ≡ true → Decides b (bytes_of x.name ≡ bytes_of y.name) → x.parent ≡ None → y.parent ≡ None
        → Decides true (SamePath (entries ns) (entries ms) u v)
    both_roots b t d e f = (λ _. known.1 (SamePath.roots (one_at None e) (two_at None f) (d.0 t)), λ _. refl)

    pub one_root : (q : ℕ) → x.parent ≡ None → y.parent ≡ Some q → Decides false (SamePath (entries ns) (entries ms) u v)
    one_root q e f = never (told_at (entries ns) (entries ms) one two _ _ (one_at None e) (two_at (Some q) f))

    pub two_root : (p : ℕ) → x.parent ≡ Some p → y.parent ≡ None → Decides false (SamePath (entries ns) (entries ms) u v)
    two_root p e f = never (told_at (entries ns) (entries ms) one two _ _ (one_at (Some p) e) (two_at None f))

    module _ (p q : ℕ) (e : x.parent ≡ Some p) (f : y.parent ≡ Some q) where
      both_under : SamePath (entries ns) (entries ms) one two
          → (bytes_of x.name ≡ bytes_of y.name) × (p < one) × (q < two) × SamePath (entries ns) (entries ms) p q
      both_under h = told_at (entries ns) (entries ms) one two _ _ (one_at (Some p) e) (two_at (Some q) f) h

      pub first_order : one ≤ p → Decides false (SamePath (entries ns) (entries ms) u v)
      first_order l = never (λ h. let k = (both_under h).1 in let z : ⊥ = omega arith in z)

      pub second_order : two ≤ q → Decides false (SamePath (entries ns) (entries ms) u v)
      second_order l = never (λ h. let k = (both_under h).2 in let z : ⊥ = omega arith in z)

      pub parents_next : (b : Bool) → b ≡ true → Decides b (bytes_of x.name ≡ bytes_of y.name) → p < one → q < two
          → SamePath (entries ns) (entries ms) u v ↔ SamePath (entries ns) (entries ms) p q
      parents_next b t d l m = (
        λ h. (both_under (known.0 h)).3,
        λ h. known.1 (SamePath.under (one_at (Some p) e) (two_at (Some q) f) (d.0 t) l m h),
      )

pub ruleset same_laws = (past_first, past_second, other_names, both_roots, one_root, two_root, first_order, second_order, parents_next)
