-- Writing paths.
use Rattle.std.proofs.Common.{◌≡◌, ℕ, ◌<◌, ◌≤◌, Bool, true, false, List, ◌++◌, length, get_or, slice_get, Some, None, Option, codes, refl, sym, ap, ◌∙◌, subst, append_assoc, arith}
use Rattle.std.proofs.lemmas.Bool.{both_ways}
use Rattle.labels.specs.Names.{bytes_of}
use Rattle.labels.specs.declared.name.Name.{Name}
use Rattle.rules.specs.Embedding.{Nodes}
use Rattle.compare.specs.declared.node.Node.{Node}
use Rattle.compare.specs.Paths.{entries, PathText, Pushed}
use Rattle.compare.proofs.PathLaws.{entry_at, no_entry}

module _ (nodes : Nodes Name) where
  -- what an entry says of the path of its node
  abbrev Way : ℕ → Option (Option ℕ × Name) → Type 0
  Way v None = ⊥
  Way v (Some (None, a)) = Unit {0}
  Way v (Some (Some p, a)) = (p < v) × ((t : List ℕ) × PathText nodes p t)

  way : (v : ℕ) (t : List ℕ) → PathText nodes v t → Way v (slice_get nodes v)
  way v t (PathText.root e) = subst (Way v) (sym e) tt
  way v t (PathText.under {t = s} e l h) = subst (Way v) (sym e) (l, (s, h))

  way_at : (v : ℕ) (x : Option (Option ℕ × Name)) → slice_get nodes v ≡ x → (t : List ℕ) → PathText nodes v t → Way v x
  way_at v x e t h = subst (Way v) e (way v t h)

module _ (ns : List Node) (v : ℕ) (before : List ℕ) where
  pub past : length ns ≤ v → Pushed (entries ns) v before false before
  past l = Pushed.no_path (way_at (entries ns) v None (no_entry ns v l)) refl

  module _ (x : Node) (within : v < length ns) (at : x ≡ get_or ns v x) where
    is_at : (p : Option ℕ) → x.parent ≡ p → slice_get (entries ns) v ≡ Some (p, x.name)
    is_at p e = entry_at ns v x within at ∙ ap (λ q. Some (q, x.name)) e

    pub root_pushed : (after : List ℕ) → x.parent ≡ None → after ≡ before ++ (codes "/" ++ bytes_of x.name) → Pushed (entries ns) v before true after
    root_pushed after e f = Pushed.pushed (PathText.root (is_at None e)) f

    module _ (p : ℕ) (e : x.parent ≡ Some p) where
      pub unordered : v ≤ p → (t : List ℕ) → PathText (entries ns) v t → ⊥
      unordered l t h = let k = (way_at (entries ns) v _ (is_at (Some p) e) t h).0 in let z : ⊥ = omega arith in z

      pub no_path_above : (b : Bool) (after : List ℕ) → b ≡ false → Pushed (entries ns) p before b after → Pushed (entries ns) v before b after
      no_path_above true after f h = absurd (both_ways true f refl)
      no_path_above false after f (Pushed.no_path none g) =
          Pushed.no_path (λ t h. let k = way_at (entries ns) v _ (is_at (Some p) e) t h in none k.1.0 k.1.1) g

      pub under_pushed : (between after : List ℕ) (b : Bool) → b ≡ true → p < v → Pushed (entries ns) p before b between
          → after ≡ between ++ (codes "/" ++ bytes_of x.name) → Pushed (entries ns) v before true after
      under_pushed between after b f l (Pushed.pushed {t = t} h g) q =
          Pushed.pushed (PathText.under (is_at (Some p) e) l h) (q ∙ ap (λ s. s ++ (codes "/" ++ bytes_of x.name)) g ∙ append_assoc before t _)
      under_pushed between after b f l (Pushed.no_path none g) q = absurd (both_ways false refl f)

pub ruleset text_laws = (Pushed.no_path, past, root_pushed, unordered, no_path_above, under_pushed)
