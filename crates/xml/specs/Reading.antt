-- What a listing means: its events and its ending.
use Rattle.std.specs.Prelude.{◌≡◌, ℕ, ◌+◌, ◌<◌, ◌≤◌, Bool, true, false, List, [], ◌∷◌, length, drop, Some, None, Option, ◌≢◌}
use Rattle.sources.specs.declared.event.Event.{Event}
use Rattle.sources.specs.declared.event.Event.TheVariants.{Open, Close}
use Rattle.labels.specs.Spelling.{byte_at, part, is_white, Named}
use Rattle.xml.specs.Faults.{number, place}
use Rattle.xml.specs.Markup.{markup, IsComment, IsInstruction, IsStart, IsEnd, NameFault, CommentFault, InstructionFault, TagFault, EndFault}
use Rattle.xml.specs.declared.markup.Markup.{Markup}
use Rattle.xml.specs.declared.markup.Markup.TheVariants.{Nothing, Text, EndTag, Comment, Declaration, Instruction, StartTag, Cut, Stray}
use Rattle.xml.specs.declared.fault.XmlFault.{XmlFault}

-- The elements that can be open at once
abbrev pub depth_limit : ℕ
depth_limit = 128

-- one root alone, and no more open elements than allowed
pub record Room (names : List (List ℕ)) (rooted : Bool) : Type 0 where
  pub alone : names ≡ [] → rooted ≡ false
  pub few : length names < depth_limit

-- the name is the innermost open element's
abbrev pub Innermost : List (List ℕ) → List ℕ → Type 0
Innermost [] w = ⊥
Innermost (n ∷ ns) w = w ≡ n

-- What is wrong at a place, each fault for itself, with its number and place: by the markup that begins there, the names of the
-- open elements, innermost first, and whether a root was there
pub data Wrong (xs : List ℕ) (p : ℕ) (names : List (List ℕ)) (rooted : Bool) : Markup → ℕ → ℕ → Type 0 where
  unfinished : (names ≡ [] → rooted ≢ true) → Wrong xs p names rooted Nothing 31 (length xs)
  bare_text : names ≡ [] → is_white (byte_at xs p) ≡ false → Wrong xs p names rooted Text 30 p
  bad_comment : {k at : ℕ} → CommentFault xs (p + 4) k at → Wrong xs p names rooted Comment k at
  bad_instruction : {k at : ℕ} → InstructionFault xs (p + 2) k at → Wrong xs p names rooted Instruction k at
  no_comment : Wrong xs p names rooted Declaration 34 p
  cut_short : Wrong xs p names rooted Cut 31 (length xs)
  no_markup : Wrong xs p names rooted Stray 30 (p + 1)
  second_root : names ≡ [] → rooted ≡ true → Wrong xs p names rooted StartTag 30 p
  too_deep : depth_limit ≤ length names → Wrong xs p names rooted StartTag 35 p
  start_name : {k at : ℕ} → NameFault xs (p + 1) k at → Wrong xs p names rooted StartTag k at
  start_rest : {k at n : ℕ} → Named xs (p + 1) n → TagFault xs n k at → Wrong xs p names rooted StartTag k at
  end_name : {k at : ℕ} → NameFault xs (p + 2) k at → Wrong xs p names rooted EndTag k at
  other_name : {n : ℕ} → Named xs (p + 2) n → (Innermost names (part xs (p + 2) n) → ⊥) → Wrong xs p names rooted EndTag 33 (p + 2)
  end_rest : {k at n : ℕ} → Named xs (p + 2) n → EndFault xs n k at → Wrong xs p names rooted EndTag k at

-- The order in which faults are told: the lowest place first, and at one place 32 before 33
pub data ComesBefore : ℕ → ℕ → ℕ → ℕ → Type 0 where
  same : {k at : ℕ} → ComesBefore k at k at
  lower : {k at j to : ℕ} → at < to → ComesBefore k at j to
  long_name : {at : ℕ} → ComesBefore 32 at 33 at

-- What is found at a place: the end, something to skip, a start tag with the end of its name, an end tag, or the first fault
pub data Found : Type 0 where
  finishes : Found
  skips : ℕ → Found
  opens : ℕ → ℕ → Bool → Found
  closes : ℕ → Found
  refuses : ℕ → ℕ → Found

-- by the markup, the names and the root as above; a fault is found if it comes before all that is wrong there
pub data Finds (xs : List ℕ) (p : ℕ) (names : List (List ℕ)) (rooted : Bool) : Markup → Found → Type 0 where
  finish : names ≡ [] → rooted ≡ true → Finds xs p names rooted Nothing finishes
  text : (names ≡ [] → is_white (byte_at xs p) ≡ true) → Finds xs p names rooted Text (skips (p + 1))
  comment : {q : ℕ} → IsComment xs p q → Finds xs p names rooted Comment (skips q)
  instruction : {q : ℕ} → IsInstruction xs p q → Finds xs p names rooted Instruction (skips q)
  start : {n q : ℕ} {empty : Bool} → Room names rooted → IsStart xs p n q empty → Finds xs p names rooted StartTag (opens n q empty)
  end_tag : {n q : ℕ} → Innermost names (part xs (p + 2) n) → IsEnd xs p n q → Finds xs p names rooted EndTag (closes q)
  faulty : {k : Markup} {n at : ℕ} → Wrong xs p names rooted k n at → ((j to : ℕ) → Wrong xs p names rooted k j to → ComesBefore n at j to) →
      Finds xs p names rooted k (refuses n at)

abbrev pub FindsAt : List ℕ → ℕ → List (List ℕ) → Bool → Found → Type 0
FindsAt xs p names rooted f = Finds xs p names rooted (markup (drop p xs)) f

-- The events of a listing from a place on, and its ending: done, or the fault that comes first
pub data Reads (xs : List ℕ) : ℕ → List (List ℕ) → Bool → List (Event (List ℕ)) → Option XmlFault → Type 0 where
  done : {p : ℕ} {names : List (List ℕ)} {rooted : Bool} → FindsAt xs p names rooted finishes → Reads xs p names rooted [] None
  refused : {p : ℕ} {names : List (List ℕ)} {rooted : Bool} (f : XmlFault) →
      FindsAt xs p names rooted (refuses (number f) (place f)) → Reads xs p names rooted [] (Some f)
  skipped : {p q : ℕ} {names : List (List ℕ)} {rooted : Bool} {es : List (Event (List ℕ))} {end : Option XmlFault} →
      FindsAt xs p names rooted (skips q) → Reads xs q names rooted es end → Reads xs p names rooted es end
  opened : {p n q : ℕ} {names : List (List ℕ)} {rooted : Bool} {es : List (Event (List ℕ))} {end : Option XmlFault} →
      FindsAt xs p names rooted (opens n q false) → Reads xs q (part xs (p + 1) n ∷ names) true es end →
      Reads xs p names rooted (Open (part xs (p + 1) n) ∷ es) end
  opened_empty : {p n q : ℕ} {names : List (List ℕ)} {rooted : Bool} {es : List (Event (List ℕ))} {end : Option XmlFault} →
      FindsAt xs p names rooted (opens n q true) → Reads xs q names true es end →
      Reads xs p names rooted (Open (part xs (p + 1) n) ∷ Close ∷ es) end
  closed : {p q : ℕ} {w : List ℕ} {names : List (List ℕ)} {rooted : Bool} {es : List (Event (List ℕ))} {end : Option XmlFault} →
      FindsAt xs p (w ∷ names) rooted (closes q) → Reads xs q names rooted es end →
      Reads xs p (w ∷ names) rooted (Close ∷ es) end

-- The events and the ending of a listing from a place on
pub record Meaning (xs : List ℕ) (p : ℕ) (names : List (List ℕ)) (rooted : Bool) : Type 0 where
  pub events : List (Event (List ℕ))
  pub ending : Option XmlFault
  pub reads : Reads xs p names rooted events ending
