-- Which fault comes first at a place.
use Rattle.std.specs.Prelude.{◌≡◌, ℕ, ◌+◌, ◌<◌, ◌≤◌, Bool, true, false, List, [], length, ◌≢◌, refl}
use Rattle.std.proofs.Common.{ap, subst, arith}
use Rattle.std.proofs.lemmas.Bool.{both_ways}
use Rattle.labels.specs.Spelling.{byte_at, part, is_white, starts_name, Named, Spelled}
use Rattle.xml.specs.Markup.{NameFault, CommentFault, InstructionFault, TagFault, EndFault}
use Rattle.xml.specs.Markup.NameFault.{ended as name_ended, no_start, long}
use Rattle.xml.specs.Reading.{depth_limit, Room, Innermost, Wrong, ComesBefore, Finds}
use Rattle.xml.specs.Reading.Wrong.{unfinished, bare_text, bad_comment, bad_instruction, no_comment, cut_short, no_markup, second_root, too_deep, start_name, start_rest, end_name, other_name, end_rest}
use Rattle.xml.specs.Reading.ComesBefore.{same, lower, long_name}
use Rattle.xml.specs.Reading.Found.{refuses}
use Rattle.xml.specs.Reading.Finds.{faulty}
use Rattle.xml.specs.ScanLaws.{test_stands, name_same, name_long, name_apart, name_fault_same, comment_fault_same, instruction_fault_same, tag_fault_same, tag_late, end_fault_same, end_late}
use Rattle.xml.specs.declared.markup.Markup.TheVariants.{Nothing, Text, EndTag, Comment, Declaration, Instruction, StartTag, Cut, Stray}

-- a fault comes before itself
same_fault : (k at j to : ℕ) → refuses k at ≡ refuses j to → ComesBefore k at j to
same_fault k at j to e =
    let a : k ≡ j = cc in
    let b : at ≡ to = cc in
    subst (λ x. ComesBefore k at x to) a (subst (λ x. ComesBefore k at k x) b same)

-- faults that come before each other are one
pub before_both : (k at j to : ℕ) → ComesBefore k at j to → ComesBefore j to k at → refuses k at ≡ refuses j to
before_both k at j to same b = refl
before_both k at j to (lower h) same = refl
before_both k at j to (lower h) (lower g) = absurd (omega arith)
before_both k at j to (lower h) long_name = absurd (omega arith)
before_both k at j to long_name (lower g) = absurd (omega arith)

module _ (xs : List ℕ) where
  -- where there is a name, its only fault is to be too long: told at the name, it comes before all that is wrong behind the name
  name_first : (b n k at j to : ℕ) → NameFault xs b k at → Named xs b n → n ≤ to → ComesBefore k at j to
  name_first b n k at j to (name_ended h) d l = let s = test_stands xs b starts_name refl d.begins in absurd (omega arith)
  name_first b n k at j to (no_start h e) d l = absurd (both_ways _ e d.begins)
  name_first b n k at j to (long q m h) d l = let e = name_same xs b q n m d in lower (omega arith)

  -- and before that the name is some other element's
  name_32 : (b n k at : ℕ) → NameFault xs b k at → Named xs b n → ComesBefore k at 33 b
  name_32 b n k at (name_ended h) d = let s = test_stands xs b starts_name refl d.begins in absurd (omega arith)
  name_32 b n k at (no_start h e) d = absurd (both_ways _ e d.begins)
  name_32 b n k at (long q m h) d = long_name

  -- no fault of a name at b is told before b
  name_late : (b k at : ℕ) → b ≤ length xs → NameFault xs b k at → b ≤ at
  name_late b k at l (name_ended h) = l
  name_late b k at l (no_start h e) = omega arith
  name_late b k at l (long q m h) = omega arith

-- where one more element may begin, it is no second root and not too deep
pub no_second : (names : List (List ℕ)) (rooted : Bool) → Room names rooted → names ≡ [] → rooted ≡ true → ⊥
no_second names rooted r e t = both_ways _ (r.alone e) t

pub no_deep : (names : List (List ℕ)) (rooted : Bool) → Room names rooted → depth_limit ≤ length names → ⊥
no_deep names rooted r d = let f = r.few in omega arith

empty_deep : (names : List (List ℕ)) → names ≡ [] → depth_limit ≤ length names → ⊥
empty_deep names e d = let l : length names ≡ 0 = ap length e in omega arith

module _ {xs : List ℕ} {p : ℕ} {names : List (List ℕ)} {rooted : Bool} where
  pub early : (names ≡ [] → rooted ≢ true) → Finds xs p names rooted Nothing (refuses 31 (length xs))
  early h = faulty (unfinished h) least
    where
      least : (j to : ℕ) → Wrong xs p names rooted Nothing j to → ComesBefore 31 (length xs) j to
      least j to (unfinished g) = same

  pub no_text : names ≡ [] → is_white (byte_at xs p) ≡ false → Finds xs p names rooted Text (refuses 30 p)
  no_text e h = faulty (bare_text e h) least
    where
      least : (j to : ℕ) → Wrong xs p names rooted Text j to → ComesBefore 30 p j to
      least j to (bare_text f g) = same

  pub comment_fault : {k at : ℕ} → CommentFault xs (p + 4) k at → Finds xs p names rooted Comment (refuses k at)
  comment_fault {k = k} {at = at} d = faulty (bad_comment d) least
    where
      least : (j to : ℕ) → Wrong xs p names rooted Comment j to → ComesBefore k at j to
      least j to (bad_comment e) = same_fault k at j to (comment_fault_same xs p k at j to d e)

  pub instruction_fault : {k at : ℕ} → InstructionFault xs (p + 2) k at → Finds xs p names rooted Instruction (refuses k at)
  instruction_fault {k = k} {at = at} d = faulty (bad_instruction d) least
    where
      least : (j to : ℕ) → Wrong xs p names rooted Instruction j to → ComesBefore k at j to
      least j to (bad_instruction e) = same_fault k at j to (instruction_fault_same xs p k at j to d e)

  pub declaration : Finds xs p names rooted Declaration (refuses 34 p)
  declaration = faulty no_comment least
    where
      least : (j to : ℕ) → Wrong xs p names rooted Declaration j to → ComesBefore 34 p j to
      least j to no_comment = same

  pub cut : Finds xs p names rooted Cut (refuses 31 (length xs))
  cut = faulty cut_short least
    where
      least : (j to : ℕ) → Wrong xs p names rooted Cut j to → ComesBefore 31 (length xs) j to
      least j to cut_short = same

  pub stray : Finds xs p names rooted Stray (refuses 30 (p + 1))
  stray = faulty no_markup least
    where
      least : (j to : ℕ) → Wrong xs p names rooted Stray j to → ComesBefore 30 (p + 1) j to
      least j to no_markup = same

  -- what is wrong at p itself comes first, since the listing ends behind p
  pub second : p < length xs → names ≡ [] → rooted ≡ true → Finds xs p names rooted StartTag (refuses 30 p)
  second l e r = faulty (second_root e r) least
    where
      least : (j to : ℕ) → Wrong xs p names rooted StartTag j to → ComesBefore 30 p j to
      least j to (second_root f s) = same
      least j to (too_deep d) = absurd (empty_deep names e d)
      least j to (start_name d) = let h = name_late xs (p + 1) j to (omega arith) d in lower (omega arith)
      least j to (start_rest {n = n} m d) =
          let late = m.ends.late in
          let h = tag_late xs n j to m.ends.within d in
          lower (omega arith)

  pub deep : p < length xs → depth_limit ≤ length names → Finds xs p names rooted StartTag (refuses 35 p)
  deep l d = faulty (too_deep d) least
    where
      least : (j to : ℕ) → Wrong xs p names rooted StartTag j to → ComesBefore 35 p j to
      least j to (second_root f s) = absurd (empty_deep names f d)
      least j to (too_deep e) = same
      least j to (start_name e) = let h = name_late xs (p + 1) j to (omega arith) e in lower (omega arith)
      least j to (start_rest {n = n} m e) =
          let late = m.ends.late in
          let h = tag_late xs n j to m.ends.within e in
          lower (omega arith)

  pub start_named : {k at : ℕ} → Room names rooted → NameFault xs (p + 1) k at → Finds xs p names rooted StartTag (refuses k at)
  start_named {k = k} {at = at} r d = faulty (start_name d) least
    where
      least : (j to : ℕ) → Wrong xs p names rooted StartTag j to → ComesBefore k at j to
      least j to (second_root e s) = absurd (no_second names rooted r e s)
      least j to (too_deep e) = absurd (no_deep names rooted r e)
      least j to (start_name e) = same_fault k at j to (name_fault_same xs (p + 1) k at j to d e)
      least j to (start_rest {n = n} m e) = name_first xs (p + 1) n k at j to d m (tag_late xs n j to m.ends.within e)

  pub start_rested : {k at : ℕ} (n : ℕ) → Room names rooted → Spelled xs (p + 1) n → TagFault xs n k at → Finds xs p names rooted StartTag (refuses k at)
  start_rested {k = k} {at = at} n r s d = faulty (start_rest s.0 d) least
    where
      least : (j to : ℕ) → Wrong xs p names rooted StartTag j to → ComesBefore k at j to
      least j to (second_root e t) = absurd (no_second names rooted r e t)
      least j to (too_deep e) = absurd (no_deep names rooted r e)
      least j to (start_name e) = absurd (name_apart xs (p + 1) n j to s e)
      least j to (start_rest {n = m} t e) =
          same_fault k at j to (tag_fault_same xs m k at j to t.ends.within (subst (λ x. TagFault xs x k at) (name_same xs (p + 1) n m s.0 t) d) e)

  pub end_named : {k at : ℕ} → NameFault xs (p + 2) k at → Finds xs p names rooted EndTag (refuses k at)
  end_named {k = k} {at = at} d = faulty (end_name d) least
    where
      least : (j to : ℕ) → Wrong xs p names rooted EndTag j to → ComesBefore k at j to
      least j to (end_name e) = same_fault k at j to (name_fault_same xs (p + 2) k at j to d e)
      least j to (other_name {n = n} m ne) = name_32 xs (p + 2) n k at d m
      least j to (end_rest {n = n} m e) = name_first xs (p + 2) n k at j to d m (end_late xs n j to e)

  pub wrong_name : (n : ℕ) → Spelled xs (p + 2) n → (Innermost names (part xs (p + 2) n) → ⊥) → Finds xs p names rooted EndTag (refuses 33 (p + 2))
  wrong_name n s ne = faulty (other_name s.0 ne) least
    where
      least : (j to : ℕ) → Wrong xs p names rooted EndTag j to → ComesBefore 33 (p + 2) j to
      least j to (end_name e) = absurd (name_apart xs (p + 2) n j to s e)
      least j to (other_name m f) = same
      least j to (end_rest {n = n} m e) =
          let l = name_long xs (p + 2) n m in
          let h = end_late xs n j to e in
          lower (omega arith)

  pub end_fault : {k at : ℕ} (n : ℕ) → Spelled xs (p + 2) n → Innermost names (part xs (p + 2) n) → EndFault xs n k at →
      Finds xs p names rooted EndTag (refuses k at)
  end_fault {k = k} {at = at} n s i d = faulty (end_rest s.0 d) least
    where
      least : (j to : ℕ) → Wrong xs p names rooted EndTag j to → ComesBefore k at j to
      least j to (end_name e) = absurd (name_apart xs (p + 2) n j to s e)
      least j to (other_name {n = m} t ne) = absurd (ne (subst (λ x. Innermost names (part xs (p + 2) x)) (name_same xs (p + 2) n m s.0 t) i))
      least j to (end_rest {n = m} t e) =
          same_fault k at j to (end_fault_same xs m k at j to (subst (λ x. EndFault xs x k at) (name_same xs (p + 2) n m s.0 t) d) e)
