-- What a reader means at its place, and what a look ahead answers.
use Rattle.std.specs.Prelude.{◌≡◌, ℕ, ◌+◌, Bool, true, false, List, [], ◌∷◌, map, reverse, Some, None, Ok, Err, Option, Result}
use denote.Ref.{Bor}
use Rattle.labels.specs.Spelling.{part, Spelled}
use Rattle.labels.specs.Names.{bytes_of}
use Rattle.labels.specs.NameOf.{name_of}
use Rattle.labels.specs.declared.name.Name.{Name}
use Rattle.sources.specs.declared.event.Event.{Event}
use Rattle.sources.specs.declared.event.Event.TheVariants.{Open, Close}
use Rattle.xml.specs.Reading.{Meaning}
use Rattle.xml.specs.Documents.{StartsAt, Misc}
use Rattle.xml.specs.Total.{reading}
use Rattle.xml.specs.declared.markup.Markup.TheVariants.{StartTag}
use Rattle.xml.specs.declared.fault.XmlFault.{XmlFault}
use Rattle.xml.specs.declared.fault.LookFault.{LookFault}
use Rattle.xml.specs.declared.fault.LookFault.TheVariants.{Listing, Begun}
use Rattle.xml.specs.declared.reader.Xml.{Xml}
use Rattle.xml.specs.declared.reader.Tags.{Tags}

-- the bytes of the names of the open elements, innermost first
abbrev pub open_names : List (Bor (List ℕ)) → List (List ℕ)
open_names names = reverse (map (λ n. n.now) names)

abbrev pub tags_names : Tags → List (List ℕ)
tags_names s = open_names s.opened.items

-- the meaning of the input from the place on: each place has one
abbrev pub tags_meaning : (s : Tags) → Meaning s.input.now s.place (tags_names s) s.rooted
tags_meaning s = reading s.input.now s.place (tags_names s) s.rooted

-- before these events an empty element may have to be closed
abbrev pub pending : Bool → List (Event (List ℕ)) → List (Event (List ℕ))
pending true es = Close ∷ es
pending false es = es

-- the events still to come, with the bytes of names in place of labels
abbrev pub xml_spelled : Xml → List (Event (List ℕ))
xml_spelled s = pending s.closing (tags_meaning s.tags).events

-- an event with the name of these bytes for a label
abbrev pub labelled : Event (List ℕ) → Event Name
labelled (Open w) = Open (name_of w)
labelled Close = Close

-- and back: with the bytes of its label
abbrev pub spelled : Event Name → Event (List ℕ)
spelled (Open l) = Open (bytes_of l)
spelled Close = Close

-- the events still to come
abbrev pub xml_events : Xml → List (Event Name)
xml_events s = map labelled (xml_spelled s)

-- done, or the first fault
abbrev pub xml_ending : Xml → Option XmlFault
xml_ending s = (tags_meaning s.tags).ending

-- an event is behind the reader
abbrev pub begun : Xml → Bool
begun s = s.tags.rooted

-- whether one is after an answer of next
abbrev pub begun_by : Bool → Result (Option (Event Name)) XmlFault → Bool
begun_by before (Ok (Some e)) = true
begun_by before (Ok None) = before
begun_by before (Err f) = before

-- The root's name, for a reader at p: from p to the root's start tag, which is at `at`, there is only Misc, and the root's opening is the
-- first event.
pub record NamesRoot (xs : List ℕ) (p : ℕ) (es : List (Event (List ℕ))) (w : List ℕ) : Type 0 where
  pub at : ℕ
  pub before : Misc xs p at
  pub begins : StartsAt xs at StartTag
  pub stop : ℕ
  pub name : Spelled xs (at + 1) stop
  pub cut : w ≡ part xs (at + 1) stop
  pub others : List (Event (List ℕ))
  pub first : es ≡ Open w ∷ others

-- no event, and the fault for an ending
pub record EndsIn (es : List (Event (List ℕ))) (end : Option XmlFault) (f : XmlFault) : Type 0 where
  pub none : es ≡ []
  pub ends : end ≡ Some f

-- A look ahead answers the root's name, as a part of the input: it stands in the root's start tag, and in the first event to come.
pub record Looks (s : Xml) (w : List ℕ) : Type 0 where
  pub early : begun s ≡ false
  pub root : NamesRoot s.tags.input.now s.tags.place (xml_spelled s) w

-- The listing ends in the fault before any event: next would answer it.
pub record Fails (s : Xml) (f : XmlFault) : Type 0 where
  pub early : begun s ≡ false
  pub fault : EndsIn (xml_spelled s) (xml_ending s) f

-- Why a look ahead answers no name: an event is behind the reader, or the listing ends in a fault before any
abbrev pub NoLook : Xml → LookFault → Type 0
NoLook s Begun = begun s ≡ true
NoLook s (Listing f) = Fails s f

-- A look ahead leaves the state as it was: the input, the place, the open elements, and whether the root's start tag is past.
pub record Kept (s t : Tags) : Type 0 where
  pub input : t.input.now ≡ s.input.now
  pub place : t.place ≡ s.place
  pub opened : t.opened ≡ s.opened
  pub rooted : t.rooted ≡ s.rooted

-- A look ahead leaves the reader as it was: the same events are to come, the ending is the same, and so is whether an event is behind it.
pub record Unmoved (s t : Xml) : Type 0 where
  pub events : xml_events t ≡ xml_events s
  pub ending : xml_ending t ≡ xml_ending s
  pub begun : begun t ≡ begun s
  pub tags : Kept s.tags t.tags
  pub closing : t.closing ≡ s.closing
