use Rattle.std.proofs.Common.{◌≡◌, ℕ, zero, suc, ◌+◌, ◌-◌, ◌<◌, List, ◌∷◌, length, get_or, drop, Some, Option, subst, sym, ap, ◌∙◌, arith, le-ltb}
use Rattle.std.proofs.lemmas.List.{drop_more}
use Rattle.sources.specs.declared.event.Event.{Event}
use Rattle.sources.specs.declared.event.Event.TheVariants.{Close}
use Rattle.sources.specs.Events.{rest}
use Rattle.sources.specs.Inner.{Shuts}
use Rattle.sources.specs.Table.{closings, events_from}
use Rattle.sources.specs.declared.record.Record.{Record}

-- where a node is open, the innermost is closed
pub shut : {L : Type 0} (level : ℕ) (e : Option (Event L)) (after : ℕ) → 0 < level → Shuts level e after → (e ≡ Some Close) × (after ≡ level - 1)
shut zero e after h s = absurd (omega (arith, h))
shut (suc level) e after h s = (s.0, let a = s.1 in omega arith)

closings_more : {L : Type 0} (k : ℕ) → 0 < k → closings {L = L} k ≡ Close ∷ closings (k - 1)
closings_more zero h = absurd (omega (arith, h))
closings_more {L} (suc k) h = let e : suc k - 1 ≡ k = omega arith in rw e

-- before a record of a smaller depth a node is closed
pub record Closes {L : Type 0} (rs : List (Record L)) (level : ℕ) : Type 0 where
  pub first : events_from level rs ≡ Close ∷ rest (events_from level rs)
  pub others : events_from (level - 1) rs ≡ rest (events_from level rs)

closes_before : {L : Type 0} (x : Record L) (xs : List (Record L)) (level : ℕ) → x.depth < level → Closes (x ∷ xs) level
closes_before {L} x xs level h =
    let pos : 0 < level - x.depth = omega arith in
    let e = le-ltb level x.depth (omega arith) in
    let e₁ = le-ltb (level - 1) x.depth (omega arith) in
    let m : level - 1 - x.depth ≡ level - x.depth - 1 = omega arith in
    let k = closings_more {L = L} (level - x.depth) pos in
    record { first = rw (e, k); others = rw (e, e₁, k, m) }

pub closes : {L : Type 0} (xs : List (Record L)) (p level : ℕ) (x : Record L) → p < length xs → x ≡ get_or xs p x → x.depth < level → Closes (drop p xs) level
closes {L} xs p level x l e h =
    let front : drop p xs ≡ x ∷ drop (p + 1) xs = drop_more xs p x l ∙ ap (λ (y : Record L). y ∷ drop (p + 1) xs) (sym e) in
    subst (λ (rs : List (Record L)). Closes rs level) (sym front) (closes_before x (drop (p + 1) xs) level h)
