-- What the private functions say.
use Rattle.std.specs.Prelude.{◌≡◌, ℕ, ◌+◌, ◌-◌, ◌<◌, ◌≤◌, Bool, true, false, List, [], ◌∷◌, ◌++◌, map, length, drop, Some, None, Option, ◌==◌, ◌≢◌}
use Prim.Native.Char.{code}
use Rattle.labels.specs.Spelling.{byte_at, part, Spelled}
use Rattle.labels.specs.declared.name.Name.{Name}
use Rattle.sources.specs.declared.event.Event.{Event}
use Rattle.sources.specs.declared.event.Event.TheVariants.{Open, Close}
use Rattle.xml.specs.Faults.{scan_number, scan_place, number, place}
use Rattle.xml.specs.Markup.{markup, TagEnds, NameFault, TagFault}
use Rattle.xml.specs.Reading.{Finds, FindsAt}
use Rattle.xml.specs.Reading.Found.{skips, refuses}
use Rattle.xml.specs.Total.{reading}
use Rattle.xml.specs.Means.{labelled, tags_names, tags_meaning, NamesRoot, EndsIn}
use Rattle.xml.specs.declared.markup.Markup.{Markup}
use Rattle.xml.specs.declared.markup.Markup.TheVariants.{Nothing, StartTag, EndTag}
use Rattle.xml.specs.declared.fault.ScanFault.{ScanFault}
use Rattle.xml.specs.declared.fault.ScanFault.TheVariants.{Byte, End, LongName}
use Rattle.xml.specs.declared.markup.Stop.{Stop}
use Rattle.xml.specs.declared.markup.Stop.TheVariants.{StartTag as start_tag, EndTag as end_tag, End as at_end}
use Rattle.xml.specs.declared.fault.XmlFault.{XmlFault}
use Rattle.xml.specs.declared.tags.Tag.{Tag}
use Rattle.xml.specs.declared.tags.Tag.TheVariants.{Open as opens, Empty as empties, Close as closes}
use Rattle.xml.specs.declared.reader.Tags.{Tags}
use Rattle.xml.specs.declared.scan.Opening.{Opening}
use Rattle.std.specs.declared.ops.ControlFlow.{ControlFlow}
use Rattle.std.specs.declared.ops.ControlFlow.TheVariants.{Continue, Break}

-- Of the scans: what holds of a fault's number and place
abbrev pub Told : (ℕ → ℕ → Type 0) → ScanFault → Type 0
Told D f = D (scan_number f) (scan_place f)

-- the `>` stands at p
abbrev pub ClosesAt : List ℕ → ℕ → ℕ → Type 0
ClosesAt xs p c = (c ≡ p) × (byte_at xs p ≡ code ">")

-- no `>` stands at p
abbrev pub CloseMissing : List ℕ → ℕ → ScanFault → Type 0
CloseMissing xs p (Byte c) = (c ≡ p) × (p < length xs) × (byte_at xs p ≢ code ">")
CloseMissing xs p (End c) = (length xs ≤ p) × (c ≡ length xs)
CloseMissing xs p (LongName c) = ⊥

-- what is wrong with a start tag whose name begins at b
pub data StartFault (xs : List ℕ) (b : ℕ) : ℕ → ℕ → Type 0 where
  in_name : {k at : ℕ} → NameFault xs b k at → StartFault xs b k at
  in_rest : {k at : ℕ} (n : ℕ) → Spelled xs b n → TagFault xs n k at → StartFault xs b k at

-- a start tag whose name begins at b
pub record Tagged (xs : List ℕ) (b : ℕ) (t : Opening) : Type 0 where
  pub stop : ℕ
  pub close : ℕ
  pub spelled : Spelled xs b stop
  pub name : t.name.now ≡ part xs b stop
  pub rest : TagEnds xs stop close
  pub ends : t.end ≡ close + 1
  pub slash : t.empty ≡ (byte_at xs (close - 1) == code "/")

-- Between tags: whether an element is open
abbrev pub some : List (List ℕ) → Bool
some [] = false
some (n ∷ ns) = true

-- from p to q something is skipped, whichever elements are open
abbrev pub GoesBy : List ℕ → Bool → ℕ → ℕ → Type 0
GoesBy xs inside p q = (names : List (List ℕ)) (rooted : Bool) → some names ≡ inside → FindsAt xs p names rooted (skips q)

-- the fault is at p
abbrev pub Refused : List ℕ → Bool → ℕ → XmlFault → Type 0
Refused xs inside p f = (names : List (List ℕ)) (rooted : Bool) → some names ≡ inside → FindsAt xs p names rooted (refuses (number f) (place f))

-- from p on all is skipped up to a place
pub data Passes (xs : List ℕ) (inside : Bool) (p : ℕ) : ℕ → Type 0 where
  here : Passes xs inside p p
  on : {q r : ℕ} → Passes xs inside p q → GoesBy xs inside q r → Passes xs inside p r

-- so far text goes by from p on
pub record PassesText (xs : List ℕ) (inside : Bool) (p q : ℕ) : Type 0 where
  pub late : p ≤ q
  pub within : q ≤ length xs
  pub passes : Passes xs inside p q

-- the markup that begins where the reader stops
abbrev pub stop_markup : Stop → Markup
stop_markup start_tag = StartTag
stop_markup end_tag = EndTag
stop_markup at_end = Nothing

-- one step of the way from p on
abbrev pub Steps : List ℕ → Bool → ℕ → ControlFlow Stop ℕ → Type 0
Steps xs inside p (Continue q) = GoesBy xs inside p q × (p < q) × (q ≤ length xs)
Steps xs inside p (Break s) = stop_markup s ≡ markup (drop p xs)

-- Of the reading tag by tag: the events to come, and the ending
abbrev pub tags_events : Tags → List (Event Name)
tags_events s = map labelled (tags_meaning s).events

abbrev pub tags_ending : Tags → Option XmlFault
tags_ending s = (tags_meaning s).ending

-- the events of a tag
abbrev pub handed : Option Tag → List (Event Name)
handed None = []
handed (Some (opens l)) = Open l ∷ []
handed (Some (empties l)) = Open l ∷ Close ∷ []
handed (Some closes) = Close ∷ []

-- whether the root's start tag is past then
abbrev pub passed : Bool → Option Tag → Bool
passed before None = before
passed before (Some t) = true

-- no element may begin at the place
abbrev pub NoRoom : Tags → XmlFault → Type 0
NoRoom s f = Finds s.input.now s.place (tags_names s) s.rooted StartTag (refuses (number f) (place f))

-- the tag's events are the first, and the others are kept
pub record Gives (s t : Tags) (r : Option Tag) : Type 0 where
  pub events : tags_events s ≡ handed r ++ tags_events t
  pub ending : tags_ending t ≡ tags_ending s
  pub done : r ≡ None → (tags_events s ≡ []) × (tags_ending s ≡ None)
  pub rooted : t.rooted ≡ passed s.rooted r

-- no event is left, and the fault is the ending
pub record Refuses (s t : Tags) (f : XmlFault) : Type 0 where
  pub none : tags_events s ≡ []
  pub ends : tags_ending s ≡ Some f
  pub left : tags_events t ≡ []
  pub ending : tags_ending t ≡ tags_ending s
  pub rooted : t.rooted ≡ s.rooted

-- it stops, and the same events are to come
pub record Comes (s t : Tags) (k : Stop) : Type 0 where
  pub events : tags_events s ≡ tags_events t
  pub ending : tags_ending t ≡ tags_ending s
  pub rooted : t.rooted ≡ s.rooted
  pub markup : markup (drop t.place t.input.now) ≡ stop_markup k

-- Of a look ahead, where no event is behind: the root's name
abbrev pub RootNamed : List ℕ → ℕ → List ℕ → Type 0
RootNamed xs p w = NamesRoot xs p (reading xs p [] false).events w

-- the listing ends in the fault before any event
abbrev pub RootFails : List ℕ → ℕ → XmlFault → Type 0
RootFails xs p f = EndsIn (reading xs p [] false).events (reading xs p [] false).ending f
