use Rattle.std.specs.Prelude.{◌≡◌, ℕ, zero, suc, List, [], ◌∷◌, Some, None, Ok, Err, Option, Result}
use Rattle.sources.specs.declared.event.Event.{Event}
use Rattle.sources.specs.declared.event.Event.TheVariants.{Open, Close}

-- With k of the openings already seen still open, each of them and each opening of the list
-- has its closing in the list, properly nested. Where none of them is open, a closing ends a node that was opened before.
abbrev pub ClosedFrom : {L : Type 0} → ℕ → List (Event L) → Type 0
ClosedFrom zero [] = Unit {0}
ClosedFrom (suc k) [] = ⊥
ClosedFrom k (Open l ∷ es) = ClosedFrom (suc k) es
ClosedFrom zero (Close ∷ es) = ClosedFrom zero es
ClosedFrom (suc k) (Close ∷ es) = ClosedFrom k es

-- What next answers, by the events still to come and the ending
abbrev pub answer : {L F : Type 0} → List (Event L) → Option F → Result (Option (Event L)) F
answer (e ∷ es) end = Ok (Some e)
answer [] None = Ok None
answer [] (Some f) = Err f

-- The events but the first
abbrev pub rest : {L : Type 0} → List (Event L) → List (Event L)
rest [] = []
rest (e ∷ es) = es

-- A listing means these events and this ending, and no others
pub record MeansOnly {L F : Type 0} (Means : List (Event L) → Option F → Type 0) (es : List (Event L)) (end : Option F) : Type 0 where
  pub means : Means es end
  pub only : (ds : List (Event L)) (to : Option F) → Means ds to → (ds ≡ es) × (to ≡ end)
