-- Every listing has a meaning.
use Rattle.std.specs.Prelude.{◌≡◌, ℕ, zero, suc, ◌+◌, ◌-◌, ◌<◌, ◌≤◌, Bool, true, false, ◌||◌, ◌⊎◌, List, [], ◌∷◌, length, drop, Some, None, ◌==◌, ◌≢◌, refl}
use Rattle.std.proofs.Common.{sym, ◌∙◌, ap, subst, inl, inr, arith}
use Prim.Native.Char.{code}
use Rattle.std.proofs.lemmas.List.{drop_all}
use Rattle.std.proofs.lemmas.Bool.{cases_lt, cases_eq, cases_Bool, ne_eqb, or_parts, or_from}
use Rattle.std.proofs.lemmas.Slice.Eq.{bytes_eq-Decides}
use Rattle.std.specs.Str.{bytes_eq}
use Rattle.sources.specs.declared.event.Event.TheVariants.{Open, Close}
use Rattle.labels.specs.Spelling.{byte_at, part, is_white, starts_name, continues_name, Longest, name_limit, Spelled}
use Rattle.xml.specs.Bytes.{plain, apart}
use Rattle.xml.specs.Shapes.{slash_tag, bracket_tag, pair_here, reaches}
use Rattle.xml.specs.Faults.{number, place}
use Rattle.xml.specs.Markup.{markup, TagEnds, EndEnds, IsComment, IsInstruction, NameFault, CommentFault, InstructionFault, TagFault, EndFault}
use Rattle.xml.specs.Markup.NameFault.{ended as name_ended, no_start, long}
use Rattle.xml.specs.Markup.CommentFault.{ended as comment_ended, byte_behind as comment_byte}
use Rattle.xml.specs.Markup.InstructionFault.{ended as instruction_ended}
use Rattle.xml.specs.Markup.TagFault.{ended as tag_ended, byte_behind as tag_byte, slash_ended, slash_byte, unclosed, opened as bracket_opened}
use Rattle.xml.specs.Markup.EndFault.{ended as end_ended, byte_behind as end_byte}
use Rattle.xml.specs.Reading.{depth_limit, Room, Innermost, Finds, Meaning}
use Rattle.xml.specs.Reading.Found.{finishes, skips, opens, closes, refuses}
use Rattle.xml.specs.Reading.Finds.{finish, text, comment, instruction, start, end_tag}
use Rattle.xml.specs.Reading.Reads.{done, refused, skipped, opened, opened_empty, closed}
use Rattle.xml.specs.ScanLaws.{longest, run_out}
use Rattle.xml.specs.FaultLaws.{early, no_text, comment_fault, instruction_fault, declaration, cut, stray, second, deep, start_named, start_rested, end_named, wrong_name, end_fault}
use Rattle.xml.specs.declared.markup.Markup.{Markup}
use Rattle.xml.specs.declared.markup.Markup.TheVariants.{Nothing, Text, EndTag, Comment, Declaration, Instruction, StartTag, Cut, Stray}
use Rattle.xml.specs.declared.fault.ScanFault.TheVariants.{Byte, End, LongName}
use Rattle.xml.specs.declared.fault.XmlFault.{XmlFault}
use Rattle.xml.specs.declared.fault.XmlFault.TheVariants.{Scan, WrongName, NotComment, Deep}

-- a complete production, or what is wrong with it
data Outcome (Good : ℕ → Type 0) (Bad : ℕ → ℕ → Type 0) : Type 0 where
  good : (q : ℕ) → Good q → Outcome Good Bad
  bad : (f : XmlFault) → Bad (number f) (place f) → Outcome Good Bad

module _ (xs : List ℕ) where
  some_name : (p : ℕ) → Outcome (Spelled xs p) (NameFault xs p)
  some_name p = go (cases_lt p (length xs))
    where
      by_length : starts_name (byte_at xs p) ≡ true → (q : ℕ) → Longest (λ i. continues_name (byte_at xs i)) (length xs) p q →
          ((p + name_limit < q) ⊎ (q ≤ p + name_limit)) → Outcome (Spelled xs p) (NameFault xs p)
      by_length s q l (inl h) = bad (Scan (LongName p)) (long q (record { begins = s; ends = l }) h)
      by_length s q l (inr h) = good q (record { begins = s; ends = l }, h)

      first : p < length xs → ((starts_name (byte_at xs p) ≡ true) ⊎ (starts_name (byte_at xs p) ≡ false)) → Outcome (Spelled xs p) (NameFault xs p)
      first h (inl s) = let l = longest (λ i. continues_name (byte_at xs i)) (length xs) p (omega arith) in by_length s l.0 l.1 (cases_lt (p + name_limit) l.0)
      first h (inr s) = bad (Scan (Byte p)) (no_start h s)

      go : ((p < length xs) ⊎ (length xs ≤ p)) → Outcome (Spelled xs p) (NameFault xs p)
      go (inl h) = first h (cases_Bool (starts_name (byte_at xs p)))
      go (inr h) = bad (Scan (End (length xs))) (name_ended h)

  some_comment : (p : ℕ) → p + 4 ≤ length xs → Outcome (IsComment xs p) (CommentFault xs (p + 4))
  some_comment p h = go (longest (apart xs (code "-") (code "-")) (length xs) (p + 4) h)
    where
      behind_it : (d : ℕ) → Longest (apart xs (code "-") (code "-")) (length xs) (p + 4) d → d + 2 < length xs →
          ((byte_at xs (d + 2) ≡ code ">") ⊎ (byte_at xs (d + 2) ≢ code ">")) → Outcome (IsComment xs p) (CommentFault xs (p + 4))
      behind_it d l w (inl e) =
          let b = pair_here xs (code "-") (code "-") d (l.stops (omega arith)) in
          let s : d + 1 + 1 ≡ d + 2 = omega arith in
          good (d + 3) (record { dashes = d; first = l; closes = (b.0, (b.1, (ap (byte_at xs) s ∙ e, tt))); ends = refl })
      behind_it d l w (inr ne) = bad (Scan (Byte (d + 2))) (comment_byte d l w ne)

      fits : (d : ℕ) → Longest (apart xs (code "-") (code "-")) (length xs) (p + 4) d → ((d + 2 < length xs) ⊎ (length xs ≤ d + 2)) →
          Outcome (IsComment xs p) (CommentFault xs (p + 4))
      fits d l (inl w) = behind_it d l w (cases_eq (byte_at xs (d + 2)) (code ">"))
      fits d l (inr w) = bad (Scan (End (length xs))) (comment_ended d l w)

      go : ((d : ℕ) × Longest (apart xs (code "-") (code "-")) (length xs) (p + 4) d) → Outcome (IsComment xs p) (CommentFault xs (p + 4))
      go (d, l) = fits d l (cases_lt (d + 2) (length xs))

  some_instruction : (p : ℕ) → p + 2 ≤ length xs → Outcome (IsInstruction xs p) (InstructionFault xs (p + 2))
  some_instruction p h = go (longest (apart xs (code "?") (code ">")) (length xs) (p + 2) h)
    where
      fits : (d : ℕ) → Longest (apart xs (code "?") (code ">")) (length xs) (p + 2) d → ((d < length xs) ⊎ (length xs ≤ d)) →
          Outcome (IsInstruction xs p) (InstructionFault xs (p + 2))
      fits d l (inl w) =
          let b = pair_here xs (code "?") (code ">") d (l.stops w) in
          good (d + 2) (record { close = d; first = l; closes = (b.0, (b.1, tt)); ends = refl })
      fits d l (inr w) = bad (Scan (End (length xs))) (instruction_ended (run_out _ _ (p + 2) d l w))

      go : ((d : ℕ) × Longest (apart xs (code "?") (code ">")) (length xs) (p + 2) d) → Outcome (IsInstruction xs p) (InstructionFault xs (p + 2))
      go (d, l) = fits d l (cases_lt d (length xs))

  some_end : (n : ℕ) → n ≤ length xs → Outcome (EndEnds xs n) (EndFault xs n)
  some_end n h = go (longest (λ i. is_white (byte_at xs i)) (length xs) n h)
    where
      behind_it : (c : ℕ) → Longest (λ i. is_white (byte_at xs i)) (length xs) n c → c < length xs →
          ((byte_at xs c ≡ code ">") ⊎ (byte_at xs c ≢ code ">")) → Outcome (EndEnds xs n) (EndFault xs n)
      behind_it c l w (inl e) = good c (record { space = l; closes = e })
      behind_it c l w (inr ne) = bad (Scan (Byte c)) (end_byte c l w ne)

      fits : (c : ℕ) → Longest (λ i. is_white (byte_at xs i)) (length xs) n c → ((c < length xs) ⊎ (length xs ≤ c)) → Outcome (EndEnds xs n) (EndFault xs n)
      fits c l (inl w) = behind_it c l w (cases_eq (byte_at xs c) (code ">"))
      fits c l (inr w) = bad (Scan (End (length xs))) (end_ended (run_out _ _ n c l w))

      go : ((c : ℕ) × Longest (λ i. is_white (byte_at xs i)) (length xs) n c) → Outcome (EndEnds xs n) (EndFault xs n)
      go (c, l) = fits c l (cases_lt c (length xs))

  some_bracket : (n : ℕ) → n < length xs → (is_white (byte_at xs n) || byte_at xs n == code ">") ≡ true → Outcome (TagEnds xs n) (TagFault xs n)
  some_bracket n h b = go (longest (λ i. plain (byte_at xs i)) (length xs) n (omega arith))
    where
      which : (c : ℕ) → Longest (λ i. plain (byte_at xs i)) (length xs) n c → c < length xs →
          ((byte_at xs c ≡ code "<") ⊎ (byte_at xs c ≢ code "<")) → Outcome (TagEnds xs n) (TagFault xs n)
      which c l w (inl e) = bad (Scan (Byte c)) (bracket_opened c b l e)
      which c l w (inr ne) = good c (bracket_tag xs n c b l w ne)

      fits : (c : ℕ) → Longest (λ i. plain (byte_at xs i)) (length xs) n c → ((c < length xs) ⊎ (length xs ≤ c)) → Outcome (TagEnds xs n) (TagFault xs n)
      fits c l (inl w) = which c l w (cases_eq (byte_at xs c) (code "<"))
      fits c l (inr w) = bad (Scan (End (length xs))) (unclosed b (run_out _ _ n c l w))

      go : ((c : ℕ) × Longest (λ i. plain (byte_at xs i)) (length xs) n c) → Outcome (TagEnds xs n) (TagFault xs n)
      go (c, l) = fits c l (cases_lt c (length xs))

  some_tag : (n : ℕ) → Outcome (TagEnds xs n) (TagFault xs n)
  some_tag n = go (cases_lt n (length xs))
    where
      after_slash : byte_at xs n ≡ code "/" → n + 1 < length xs → ((byte_at xs (n + 1) ≡ code ">") ⊎ (byte_at xs (n + 1) ≢ code ">")) → Outcome (TagEnds xs n) (TagFault xs n)
      after_slash s w (inl e) = good (n + 1) (slash_tag xs n s w e)
      after_slash s w (inr ne) = bad (Scan (Byte (n + 1))) (slash_byte s w ne)

      slash : byte_at xs n ≡ code "/" → ((n + 1 < length xs) ⊎ (length xs ≤ n + 1)) → Outcome (TagEnds xs n) (TagFault xs n)
      slash s (inl w) = after_slash s w (cases_eq (byte_at xs (n + 1)) (code ">"))
      slash s (inr w) = bad (Scan (End (length xs))) (slash_ended s w)

      other : n < length xs → (byte_at xs n ≢ code "/") →
          (((is_white (byte_at xs n) || byte_at xs n == code ">") ≡ true) ⊎ ((is_white (byte_at xs n) || byte_at xs n == code ">") ≡ false)) →
          Outcome (TagEnds xs n) (TagFault xs n)
      other w s (inl b) = some_bracket n w b
      other w s (inr b) =
          let h = or_parts (is_white (byte_at xs n)) (byte_at xs n == code ">") b in
          bad (Scan (Byte n)) (tag_byte w (or_from _ _ h.0 (or_from _ _ (ne_eqb _ (code "/") s) h.1)))

      by_slash : n < length xs → ((byte_at xs n ≡ code "/") ⊎ (byte_at xs n ≢ code "/")) → Outcome (TagEnds xs n) (TagFault xs n)
      by_slash w (inl s) = slash s (cases_lt (n + 1) (length xs))
      by_slash w (inr s) = other w s (cases_Bool (is_white (byte_at xs n) || byte_at xs n == code ">"))

      go : ((n < length xs) ⊎ (length xs ≤ n)) → Outcome (TagEnds xs n) (TagFault xs n)
      go (inl w) = by_slash w (cases_eq (byte_at xs n) (code "/"))
      go (inr w) = bad (Scan (End (length xs))) (tag_ended w)

-- what is found at a place, by the markup that begins there
data Next (xs : List ℕ) (p : ℕ) (names : List (List ℕ)) (rooted : Bool) (k : Markup) : Type 0 where
  stop : Finds xs p names rooted k finishes → Next xs p names rooted k
  fault : (f : XmlFault) → Finds xs p names rooted k (refuses (number f) (place f)) → Next xs p names rooted k
  skip : (q : ℕ) → p < q → Finds xs p names rooted k (skips q) → Next xs p names rooted k
  enter : (n q : ℕ) (e : Bool) → p < q → Finds xs p names rooted k (opens n q e) → Next xs p names rooted k
  leave : (q : ℕ) → p < q → Finds xs p names rooted k (closes q) → Next xs p names rooted k

cases_nil : (names : List (List ℕ)) → (names ≡ []) ⊎ (names ≢ [])
cases_nil [] = inl refl
cases_nil (n ∷ ns) = inr (λ e. let z : ◌≡◌ {A = ℕ} 0 1 = cc in omega arith)

cases_innermost : (names : List (List ℕ)) (w : List ℕ) → (Innermost names w) ⊎ (Innermost names w → ⊥)
cases_innermost [] w = inr (λ h. h)
cases_innermost (n ∷ ns) w = go (cases_Bool (bytes_eq w n))
  where
    go : ((bytes_eq w n ≡ true) ⊎ (bytes_eq w n ≡ false)) → (w ≡ n) ⊎ (w ≢ n)
    go (inl e) = inl ((bytes_eq-Decides w n).0 e)
    go (inr e) = inr (λ s. let h = (bytes_eq-Decides w n).1 s in let z : ◌≡◌ {A = ℕ} 0 1 = cc in omega arith)

module _ (xs : List ℕ) (p : ℕ) (names : List (List ℕ)) (rooted : Bool) where
  at_end : Next xs p names rooted Nothing
  at_end = go (cases_nil names) (cases_Bool rooted)
    where
      go : ((names ≡ []) ⊎ (names ≢ [])) → ((rooted ≡ true) ⊎ (rooted ≡ false)) → Next xs p names rooted Nothing
      go (inl e) (inl r) = stop (finish e r)
      go (inl e) (inr r) = fault (Scan (End (length xs))) (early (λ _ s. let z : ◌≡◌ {A = ℕ} 0 1 = cc in omega arith))
      go (inr ne) r = fault (Scan (End (length xs))) (early (λ e _. ne e))

  at_text : Next xs p names rooted Text
  at_text = go (cases_nil names) (cases_Bool (is_white (byte_at xs p)))
    where
      go : ((names ≡ []) ⊎ (names ≢ [])) → ((is_white (byte_at xs p) ≡ true) ⊎ (is_white (byte_at xs p) ≡ false)) → Next xs p names rooted Text
      go n (inl w) = skip (p + 1) (omega arith) (text (λ _. w))
      go (inl e) (inr w) = fault (Scan (Byte p)) (no_text e w)
      go (inr ne) (inr w) = skip (p + 1) (omega arith) (text (λ e. absurd (ne e)))

  at_comment : p + 4 ≤ length xs → Next xs p names rooted Comment
  at_comment h = go (some_comment xs p h)
    where
      go : Outcome (IsComment xs p) (CommentFault xs (p + 4)) → Next xs p names rooted Comment
      go (good q d) = let e = d.ends in let l = d.first.late in skip q (omega arith) (comment d)
      go (bad f d) = fault f (comment_fault d)

  at_instruction : p + 2 ≤ length xs → Next xs p names rooted Instruction
  at_instruction h = go (some_instruction xs p h)
    where
      go : Outcome (IsInstruction xs p) (InstructionFault xs (p + 2)) → Next xs p names rooted Instruction
      go (good q d) = let e = d.ends in let l = d.first.late in skip q (omega arith) (instruction d)
      go (bad f d) = fault f (instruction_fault d)

  at_start : p + 2 ≤ length xs → Next xs p names rooted StartTag
  at_start h = go (cases_nil names) (cases_Bool rooted) (cases_lt (length names) depth_limit)
    where
      tag : Room names rooted → (n : ℕ) → Spelled xs (p + 1) n → Outcome (TagEnds xs n) (TagFault xs n) → Next xs p names rooted StartTag
      tag r n s (good c d) =
          let l = s.0.ends.late in
          let m = d.rest.late in
          enter n (c + 1) (byte_at xs (c - 1) == code "/") (omega arith) (start r (record { name = s; close = c; tag = d; ends = refl; slash = refl }))
      tag r n s (bad f d) = fault f (start_rested n r s d)

      named : Room names rooted → Outcome (Spelled xs (p + 1)) (NameFault xs (p + 1)) → Next xs p names rooted StartTag
      named r (good n s) = tag r n s (some_tag xs n)
      named r (bad f d) = fault f (start_named r d)

      go : ((names ≡ []) ⊎ (names ≢ [])) → ((rooted ≡ true) ⊎ (rooted ≡ false)) → ((length names < depth_limit) ⊎ (depth_limit ≤ length names)) →
          Next xs p names rooted StartTag
      go (inl e) (inl r) d = fault (Scan (Byte p)) (second (omega arith) e r)
      go (inl e) (inr r) (inl f) = named (record { alone = λ _. r; few = f }) (some_name xs (p + 1))
      go (inl e) (inr r) (inr d) = fault (Deep p) (deep (omega arith) d)
      go (inr ne) r (inl f) = named (record { alone = λ e. absurd (ne e); few = f }) (some_name xs (p + 1))
      go (inr ne) r (inr d) = fault (Deep p) (deep (omega arith) d)

  at_close : Next xs p names rooted EndTag
  at_close = named (some_name xs (p + 2))
    where
      tag : (n : ℕ) → Spelled xs (p + 2) n → Innermost names (part xs (p + 2) n) → Outcome (EndEnds xs n) (EndFault xs n) → Next xs p names rooted EndTag
      tag n s i (good c d) =
          let l = s.0.ends.late in
          let m = d.space.late in
          leave (c + 1) (omega arith) (end_tag i (record { name = s; close = c; tag = d; ends = refl }))
      tag n s i (bad f d) = fault f (end_fault n s i d)

      same : (n : ℕ) → Spelled xs (p + 2) n → ((Innermost names (part xs (p + 2) n)) ⊎ (Innermost names (part xs (p + 2) n) → ⊥)) → Next xs p names rooted EndTag
      same n s (inl i) = tag n s i (some_end xs n s.0.ends.within)
      same n s (inr ne) = fault (WrongName (p + 2)) (wrong_name n s ne)

      named : Outcome (Spelled xs (p + 2)) (NameFault xs (p + 2)) → Next xs p names rooted EndTag
      named (good n s) = same n s (cases_innermost names (part xs (p + 2) n))
      named (bad f d) = fault f (end_named d)

  at_kind : (k : Markup) → markup (drop p xs) ≡ k → Next xs p names rooted k
  at_kind Nothing e = at_end
  at_kind Text e = at_text
  at_kind EndTag e = at_close
  at_kind Comment e = at_comment (reaches xs p Comment e (omega arith))
  at_kind Declaration e = fault (NotComment p) declaration
  at_kind Instruction e = at_instruction (reaches xs p Instruction e (omega arith))
  at_kind StartTag e = at_start (reaches xs p StartTag e (omega arith))
  at_kind Cut e = fault (Scan (End (length xs))) cut
  at_kind Stray e = fault (Scan (Byte (p + 1))) stray

-- where an element is closed, one is open
pub open_found : (xs : List ℕ) (p : ℕ) (names : List (List ℕ)) (rooted : Bool) (k : Markup) (q : ℕ) →
    Finds xs p names rooted k (closes q) → 0 < length names
open_found xs p [] rooted k q (end_tag i d) = absurd i
open_found xs p (n ∷ ns) rooted k q d = omega arith

reading_end : (xs : List ℕ) (p : ℕ) (names : List (List ℕ)) (rooted : Bool) →
    markup (drop p xs) ≡ Nothing → Next xs p names rooted Nothing → Meaning xs p names rooted
reading_end xs p names rooted e (stop d) = record { events = []; ending = None; reads = done (subst (λ k. Finds xs p names rooted k finishes) (sym e) d) }
reading_end xs p names rooted e (fault f d) =
    record { events = []; ending = Some f; reads = refused f (subst (λ k. Finds xs p names rooted k (refuses (number f) (place f))) (sym e) d) }
reading_end xs p names rooted e (skip q h d) = elim d [ ]
reading_end xs p names rooted e (enter n q b h d) = elim d [ ]
reading_end xs p names rooted e (leave q h d) = elim d [ ]

reading_by : (xs : List ℕ) (fuel p : ℕ) (names : List (List ℕ)) (rooted : Bool) → length xs ≤ p + fuel → Meaning xs p names rooted
reading_by xs zero p names rooted h =
    let e : markup (drop p xs) ≡ Nothing = ap markup (drop_all p xs (omega arith)) in
    reading_end xs p names rooted e (at_end xs p names rooted)
reading_by xs (suc fuel) p names rooted h = go (λ q ns r l. reading_by xs fuel q ns r l) (at_kind xs p names rooted (markup (drop p xs)) refl)
  where
    left : (q : ℕ) (ns : List (List ℕ)) → Finds xs p ns rooted (markup (drop p xs)) (closes q) →
        ((ms : List (List ℕ)) → Meaning xs q ms rooted) → Meaning xs p ns rooted
    left q [] d m = let h = open_found xs p [] rooted _ q d in absurd (omega arith)
    left q (w ∷ ns) d m = let r = m ns in record { events = Close ∷ r.events; ending = r.ending; reads = closed d r.reads }

    go : ((q : ℕ) (ns : List (List ℕ)) (r : Bool) → length xs ≤ q + fuel → Meaning xs q ns r) →
        Next xs p names rooted (markup (drop p xs)) → Meaning xs p names rooted
    go on (stop d) = record { events = []; ending = None; reads = done d }
    go on (fault f d) = record { events = []; ending = Some f; reads = refused f d }
    go on (skip q l d) = let r = on q names rooted (omega arith) in record { events = r.events; ending = r.ending; reads = skipped d r.reads }
    go on (enter n q false l d) =
        let r = on q (part xs (p + 1) n ∷ names) true (omega arith) in
        record { events = Open (part xs (p + 1) n) ∷ r.events; ending = r.ending; reads = opened d r.reads }
    go on (enter n q true l d) =
        let r = on q names true (omega arith) in
        record { events = Open (part xs (p + 1) n) ∷ Close ∷ r.events; ending = r.ending; reads = opened_empty d r.reads }
    go on (leave q l d) = left q names d (λ ms. on q ms rooted (omega arith))

pub reading : (xs : List ℕ) (p : ℕ) (names : List (List ℕ)) (rooted : Bool) → Meaning xs p names rooted
reading xs p names rooted = reading_by xs (length xs) p names rooted (omega arith)
