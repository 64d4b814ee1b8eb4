use Rattle.std.proofs.Common.{◌≡◌, ℕ, List, [], ◌∷◌, Some, None, Ok, Err, Option, refl, ap, arith}
use Rattle.sources.specs.declared.event.Event.{Event}
use Rattle.sources.specs.Events.{answer, rest}

-- what an answer of next tells of the events and the ending
pub from_some : {L F : Type 0} (es : List (Event L)) (end : Option F) (e : Event L) → answer es end ≡ Ok (Some e) → es ≡ e ∷ rest es
from_some [] None e h = let z : ◌≡◌ {A = ℕ} 0 1 = cc in absurd (omega arith)
from_some [] (Some f) e h = let z : ◌≡◌ {A = ℕ} 0 1 = cc in absurd (omega arith)
from_some (x ∷ es) end e h = let z : x ≡ e = cc in ap (λ y. y ∷ es) z

pub from_none : {L F : Type 0} (es : List (Event L)) (end : Option F) → answer es end ≡ Ok None → (es ≡ []) × (end ≡ None)
from_none [] None h = (refl, refl)
from_none [] (Some f) h = let z : ◌≡◌ {A = ℕ} 0 1 = cc in absurd (omega arith)
from_none (x ∷ es) end h = let z : ◌≡◌ {A = ℕ} 0 1 = cc in absurd (omega arith)

pub from_err : {L F : Type 0} (es : List (Event L)) (end : Option F) (f : F) → answer es end ≡ Err f → (es ≡ []) × (end ≡ Some f)
from_err [] None f h = let z : ◌≡◌ {A = ℕ} 0 1 = cc in absurd (omega arith)
from_err [] (Some x) f h = let z : x ≡ f = cc in (refl, ap Some z)
from_err (x ∷ es) end f h = let z : ◌≡◌ {A = ℕ} 0 1 = cc in absurd (omega arith)
