-- What a listing tells that ends in a fault: the events of a front of it, which is the front of a document.
use Rattle.std.specs.Prelude.{◌≡◌, ℕ, ◌≤◌, Bool, cond, List, [], ◌∷◌, ◌++◌, map, take, Some, Option, codes}
use Prim.Native.Char.{code}
use Rattle.sources.specs.declared.event.Event.{Event}
use Rattle.sources.specs.declared.event.Event.TheVariants.{Open, Close}
use Rattle.sources.specs.Forest.{Forest, events_of}
use Rattle.xml.specs.Faults.{number, place}
use Rattle.xml.specs.Reading.{FindsAt}
use Rattle.xml.specs.Reading.Found.{refuses}
use Rattle.xml.specs.Documents.{Document}
use Rattle.xml.specs.declared.fault.XmlFault.{XmlFault}

-- an end tag for each of the names
abbrev pub end_tags : List (List ℕ) → List ℕ
end_tags [] = []
end_tags (w ∷ ws) = codes "</" ++ w ++ (code ">" ∷ end_tags ws)

-- What a front of a document lacks: the end tags of the elements that are open, innermost first, and a root, if none has begun
abbrev pub lacking : Bool → List (List ℕ) → List ℕ
lacking rooted names = end_tags names ++ cond rooted [] (codes "<a/>")

-- the events of that
abbrev pub lacking_events : Bool → List (List ℕ) → List (Event (List ℕ))
lacking_events rooted names = map (λ w. Close) names ++ cond rooted [] (Open (codes "a") ∷ Close ∷ [])

-- The fault is found where a front of the listing stops, with the names of the elements that are open there, and whether a root has begun.
-- The front and what it lacks are a document, whose events are those before the fault, and then those of what the front lacks. And whatever
-- else makes a document of the front, its events begin with those before the fault.
pub record RefusedAt (xs : List ℕ) (es : List (Event (List ℕ))) (f : XmlFault) : Type 0 where
  pub stop : ℕ
  pub names : List (List ℕ)
  pub rooted : Bool
  pub early : stop ≤ place f
  pub fault : FindsAt xs stop names rooted (refuses (number f) (place f))
  pub trees : Forest (List ℕ)
  pub document : Document (take stop xs ++ lacking rooted names) trees
  pub events : events_of trees ≡ es ++ lacking_events rooted names
  pub all_documents : (more : List ℕ) (others : Forest (List ℕ)) → Document (take stop xs ++ more) others →
      (later : List (Event (List ℕ))) × (events_of others ≡ es ++ later)

-- that of a listing which ends in a fault
abbrev pub RefusedAsFront : List ℕ → List (Event (List ℕ)) → Option XmlFault → Type 0
RefusedAsFront xs es end = (f : XmlFault) → end ≡ Some f → RefusedAt xs es f
