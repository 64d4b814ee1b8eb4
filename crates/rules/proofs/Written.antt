-- One name after another. Assumes nothing.
use Rattle.std.proofs.Common.{◌≡◌, ℕ, zero, suc, ◌+◌, ◌<◌, ◌≤◌, List, [], ◌∷◌, ◌++◌, length, get_or, take, set, Result, Ok, Err, sym, ap, ◌∙◌, subst, arith}
use Rattle.std.specs.List.{AllByRecursion}
use Rattle.std.proofs.lemmas.List.{take_more, length-take-le}
use Rattle.rules.specs.declared.syntax.Kind.TheVariants.{Name, DoubleSlash}
use Rattle.rules.specs.declared.node.Edge.TheVariants.{Child}
use Rattle.rules.specs.declared.syntax.ParsedNode.{ParsedNode}
use Rattle.labels.specs.declared.name.NameRefusal.{NameRefusal}
use Rattle.labels.specs.Names.{Making}
use Rattle.rules.specs.Expression.{token_bytes}
use Rattle.rules.specs.ReadText.{NamesIn, behind, named, unnamed}

abbrev pub blank : ParsedNode
blank = record { parent = 0; edge = Child; test = record { kind = DoubleSlash; place = 0; len = 0 } }

-- a label that was made is spelled by the bytes
pub made_label : {L : Type 0} (spelled : L → List ℕ) (bs : List ℕ) (answer : Result L NameRefusal) (l : L) → Making spelled bs answer → answer ≡ Ok l → spelled l ≡ bs
made_label spelled bs (Ok m) l h e = let q : m ≡ l = cc in ap spelled (sym q) ∙ h.0
made_label spelled bs (Err f) l h e = let z : ◌≡◌ {A = ℕ} 0 1 = cc in absurd (omega arith)

pub every_at : {X : Type 0} (P : X → Type 0) (xs : List X) (i : ℕ) (d : X) → AllByRecursion P xs → i < length xs → P (get_or xs i d)
every_at P [] i d h l = absurd (omega arith)
every_at P (x ∷ xs) zero d h l = h.0
every_at P (x ∷ xs) (suc i) d h l = every_at P xs i d h.1 (omega arith)

module _ {N : Type 0} (spelled : N → List ℕ) (bs : List ℕ) where
  name_more : (ns : List ParsedNode) (n : ParsedNode) (xs ys : List N) (y : N) → length ns < length xs → n.test.kind ≡ Name → spelled y ≡ token_bytes bs n.test
      → NamesIn spelled bs ns xs ys → NamesIn spelled bs (ns ++ (n ∷ [])) xs (set ys (length ns) y)
  name_more [] n [] ys y h q e d = absurd (omega arith)
  name_more [] n (x ∷ xs) ys y h q e behind = named q e behind
  name_more (m ∷ ns) n xs ys y h q e (named r f d) = named r f (name_more ns n _ _ y (omega arith) q e d)
  name_more (m ∷ ns) n xs ys y h q e (unnamed r d) = unnamed r (name_more ns n _ _ y (omega arith) q e d)

  skip_more : (ns : List ParsedNode) (n : ParsedNode) (xs ys : List N) → length ns < length xs → (n.test.kind ≡ Name → ⊥)
      → NamesIn spelled bs ns xs ys → NamesIn spelled bs (ns ++ (n ∷ [])) xs ys
  skip_more [] n [] ys h q d = absurd (omega arith)
  skip_more [] n (x ∷ xs) ys h q behind = unnamed q behind
  skip_more (m ∷ ns) n xs ys h q (named r f d) = named r f (skip_more ns n _ _ (omega arith) q d)
  skip_more (m ∷ ns) n xs ys h q (unnamed r d) = unnamed r (skip_more ns n _ _ (omega arith) q d)

  -- the same over the places of a list of rule nodes
  pub name_turn : (ns : List ParsedNode) (i : ℕ) (d : ParsedNode) (xs ys : List N) (y : N) → i < length ns → length ns ≤ length xs
      → (get_or ns i d).test.kind ≡ Name → spelled y ≡ token_bytes bs (get_or ns i d).test
      → NamesIn spelled bs (take i ns) xs ys → NamesIn spelled bs (take (i + 1) ns) xs (set ys i y)
  name_turn ns i d xs ys y h l q e w =
      let long : length (take i ns) ≡ i = length-take-le i ns (omega arith) in
      subst (λ ms. NamesIn spelled bs ms xs (set ys i y)) (sym (take_more ns i d h))
      (subst (λ n. NamesIn spelled bs (take i ns ++ (get_or ns i d ∷ [])) xs (set ys n y)) long (name_more (take i ns) (get_or ns i d) xs ys y (omega arith) q e w))

  pub skip_turn : (ns : List ParsedNode) (i : ℕ) (d : ParsedNode) (xs ys : List N) → i < length ns → length ns ≤ length xs
      → ((get_or ns i d).test.kind ≡ Name → ⊥)
      → NamesIn spelled bs (take i ns) xs ys → NamesIn spelled bs (take (i + 1) ns) xs ys
  skip_turn ns i d xs ys h l q w =
      let long : length (take i ns) ≡ i = length-take-le i ns (omega arith) in
      subst (λ ms. NamesIn spelled bs ms xs ys) (sym (take_more ns i d h)) (skip_more (take i ns) (get_or ns i d) xs ys (omega arith) q w)
