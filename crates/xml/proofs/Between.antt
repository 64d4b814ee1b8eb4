-- What goes by between tags.
use Rattle.std.proofs.Common.{◌≡◌, ℕ, zero, suc, ◌+◌, ◌-◌, ◌<◌, ◌≤◌, Bool, true, false, not, cond, ◌==◌, ◌⊎◌, List, [], ◌∷◌, length, drop, sym, refl, ap, ◌∙◌, subst, inl, inr, arith}
use Prim.Native.Char.{code}
use Rattle.std.proofs.lemmas.Bool.{both_ways, not-true, eqb-true}
use Rattle.labels.specs.Spelling.{byte_at, is_white, Longest}
use Rattle.xml.specs.Bytes.{text as text_byte}
use Rattle.xml.specs.Shapes.{From, from_place}
use Rattle.xml.specs.Faults.{scan_number, scan_place}
use Rattle.xml.specs.Markup.{markup, behind, IsComment, IsInstruction, CommentFault, InstructionFault}
use Rattle.xml.specs.Reading.{Found, Finds, FindsAt}
use Rattle.xml.specs.Reading.Found.{skips}
use Rattle.xml.specs.Reading.Finds.{text, comment, instruction}
use Rattle.xml.specs.FaultLaws.{no_text, comment_fault, instruction_fault, declaration, cut, stray}
use Rattle.xml.specs.Inner.{stop_markup, some, GoesBy, Refused, Passes, PassesText}
use Rattle.xml.specs.Inner.Passes.{here, on}
use Rattle.xml.specs.Documents.{StartsAt, Misc}
use Rattle.xml.specs.Documents.Misc.{space, comment as comment_misc, instruction as instruction_misc}
use Rattle.xml.specs.declared.markup.Stop.{Stop}
use Rattle.xml.specs.declared.markup.Markup.{Markup}
use Rattle.xml.specs.declared.markup.Markup.TheVariants.{Text, Comment, Declaration, Instruction, Cut, Stray}
use Rattle.xml.specs.declared.fault.ScanFault.{ScanFault}
use Rattle.xml.specs.declared.fault.ScanFault.TheVariants.{Byte, End}
use Rattle.xml.specs.declared.fault.XmlFault.TheVariants.{Scan, NotComment}

pub found : (xs : List ℕ) (p : ℕ) (names : List (List ℕ)) (rooted : Bool) (k : Markup) (s : Found) →
    k ≡ markup (drop p xs) → Finds xs p names rooted k s → FindsAt xs p names rooted s
found xs p names rooted k s e d = subst (λ j. Finds xs p names rooted j s) e d

-- what is found where the reader stops
pub found_at : (xs : List ℕ) (p : ℕ) (names : List (List ℕ)) (rooted : Bool) (j k : Stop) (s : Found) →
    j ≡ k → stop_markup j ≡ markup (drop p xs) → Finds xs p names rooted (stop_markup k) s → FindsAt xs p names rooted s
found_at xs p names rooted j k s e f d = found xs p names rooted (stop_markup k) s (sym (ap stop_markup e) ∙ f) d

-- what was found, by the markup
pub data Skipped (xs : List ℕ) (p q : ℕ) (names : List (List ℕ)) : Type 0 where
  by_text : StartsAt xs p Text → q ≡ p + 1 → (names ≡ [] → is_white (byte_at xs p) ≡ true) → Skipped xs p q names
  by_comment : StartsAt xs p Comment → IsComment xs p q → Skipped xs p q names
  by_instruction : StartsAt xs p Instruction → IsInstruction xs p q → Skipped xs p q names

pub skips_from : (xs : List ℕ) (p : ℕ) (names : List (List ℕ)) (rooted : Bool) (k : Markup) (q : ℕ) →
    StartsAt xs p k → Finds xs p names rooted k (skips q) → Skipped xs p q names
skips_from xs p names rooted k q b (text h) = by_text b refl h
skips_from xs p names rooted k q b (comment h) = by_comment b h
skips_from xs p names rooted k q b (instruction h) = by_instruction b h

-- where no element is open, it is Misc
pub skipped_misc : (xs : List ℕ) (p q r : ℕ) → Skipped xs p q [] → Misc xs q r → Misc xs p r
skipped_misc xs p q r (by_text b e h) m = space b (h refl) (subst (λ x. Misc xs x r) e m)
skipped_misc xs p q r (by_comment b d) m = comment_misc b d m
skipped_misc xs p q r (by_instruction b d) m = instruction_misc b d m

pub passes_misc : (xs : List ℕ) (p q r : ℕ) → Passes xs false p q → Misc xs q r → Misc xs p r
passes_misc xs p q r here m = m
passes_misc xs p q r (on {q = o} go by) m =
    passes_misc xs p o r go (skipped_misc xs o q r (skips_from xs o [] false _ q refl (by [] false refl)) m)

pub none_is : (names : List (List ℕ)) → some names ≡ false → names ≡ []
none_is [] e = refl
none_is (n ∷ ns) e = let z : ◌≡◌ {A = ℕ} 0 1 = cc in absurd (omega arith)

module _ (xs : List ℕ) (inside : Bool) (p : ℕ) where
  pub text_by : Text ≡ markup (drop p xs) → ((inside ≡ true) ⊎ (is_white (byte_at xs p) ≡ true)) → GoesBy xs inside p (p + 1)
  text_by e h names rooted i = found xs p names rooted Text _ e (text (λ nil. go nil h))
    where
      go : names ≡ [] → ((inside ≡ true) ⊎ (is_white (byte_at xs p) ≡ true)) → is_white (byte_at xs p) ≡ true
      go nil (inl t) = absurd (both_ways (some names) (ap some nil) (i ∙ t))
      go nil (inr w) = w

  pub text_no : Text ≡ markup (drop p xs) → inside ≡ false → is_white (byte_at xs p) ≡ false → Refused xs inside p (Scan (Byte p))
  text_no e f w names rooted i = found xs p names rooted Text _ e (no_text (none_is names (i ∙ f)) w)

  pub comment_by : (q : ℕ) → Comment ≡ markup (drop p xs) → IsComment xs p q → GoesBy xs inside p q
  comment_by q e d names rooted i = found xs p names rooted Comment _ e (comment d)

  pub comment_no : (f : ScanFault) → Comment ≡ markup (drop p xs) → CommentFault xs (p + 4) (scan_number f) (scan_place f) → Refused xs inside p (Scan f)
  comment_no f e d names rooted i = found xs p names rooted Comment _ e (comment_fault d)

  pub instruction_by : (q : ℕ) → Instruction ≡ markup (drop p xs) → IsInstruction xs p q → GoesBy xs inside p q
  instruction_by q e d names rooted i = found xs p names rooted Instruction _ e (instruction d)

  pub instruction_no : (f : ScanFault) → Instruction ≡ markup (drop p xs) → InstructionFault xs (p + 2) (scan_number f) (scan_place f) → Refused xs inside p (Scan f)
  instruction_no f e d names rooted i = found xs p names rooted Instruction _ e (instruction_fault d)

  pub declaration_no : Declaration ≡ markup (drop p xs) → Refused xs inside p (NotComment p)
  declaration_no e names rooted i = found xs p names rooted Declaration _ e declaration

  pub cut_no : Cut ≡ markup (drop p xs) → Refused xs inside p (Scan (End (length xs)))
  cut_no e names rooted i = found xs p names rooted Cut _ e cut

  pub stray_no : Stray ≡ markup (drop p xs) → Refused xs inside p (Scan (Byte (p + 1)))
  stray_no e names rooted i = found xs p names rooted Stray _ e stray

-- one way behind another
pub passes_on : (xs : List ℕ) (inside : Bool) (p q r : ℕ) → Passes xs inside p q → Passes xs inside q r → Passes xs inside p r
passes_on xs inside p q r a here = a
passes_on xs inside p q r a (on {q = o} b by) = on (passes_on xs inside p q o a b) by

-- where a byte that begins no markup stands
pub text_here : (xs : List ℕ) (p : ℕ) → p < length xs → text_byte (byte_at xs p) ≡ true → Text ≡ markup (drop p xs)
text_here xs p l t = go (drop p xs) (from_place xs (drop p xs) p refl)
  where
    go : (bs : List ℕ) → From xs p bs → Text ≡ markup bs
    go [] f = absurd (omega (arith, f.long))
    go (b ∷ bs) f = sym (ap (λ c. cond c (behind bs) Text) (not-true _ (ap text_byte f.first ∙ t)))

-- white space is text
white_text : (b : ℕ) → is_white b ≡ true → text_byte b ≡ true
white_text b w = go (b == code "<") refl
  where
    go : (t : Bool) → (b == code "<") ≡ t → not t ≡ true
    go false e = refl
    go true e = absurd (both_ways (is_white b) (ap is_white (eqb-true b (code "<") e)) w)

-- Text goes by, byte by byte: inside any, outside white space.
text_goes : (xs : List ℕ) (inside : Bool) (p n : ℕ) → p + n ≤ length xs →
    ((i : ℕ) → p ≤ i → i < p + n → (text_byte (byte_at xs i) ≡ true) × ((inside ≡ true) ⊎ (is_white (byte_at xs i) ≡ true))) →
    Passes xs inside p (p + n)
text_goes xs inside p zero w h = subst (Passes xs inside p) (omega arith) here
text_goes xs inside p (suc n) w h =
    let t = h (p + n) (omega arith) (omega arith) in
    let rest = text_goes xs inside p n (omega arith) (λ i a b. h i a (omega arith)) in
    subst (Passes xs inside p) (omega arith) (on rest (text_by xs inside (p + n) (text_here xs (p + n) (omega arith) t.0) t.1))

module _ (xs : List ℕ) (p q : ℕ) where
  -- a run of places goes by
  passes_run : (inside : Bool) (ok : ℕ → Bool) → Longest (λ i. ok (byte_at xs i)) (length xs) p q →
      ((b : ℕ) → ok b ≡ true → (text_byte b ≡ true) × ((inside ≡ true) ⊎ (is_white b ≡ true))) → PassesText xs inside p q
  passes_run inside ok l h =
      let late = l.late in
      let within = l.within in
      let e : p + (q - p) ≡ q = omega arith in
      record {
        late = l.late;
        within = l.within;
        passes = subst (Passes xs inside p) e (text_goes xs inside p (q - p) (omega arith) (λ i a b. h (byte_at xs i) (l.all i a (omega arith))));
      }

  pub passes_text : Longest (λ i. text_byte (byte_at xs i)) (length xs) p q → PassesText xs true p q
  passes_text l = passes_run true text_byte l (λ b t. (t, inl refl))

  pub passes_white : Longest (λ i. is_white (byte_at xs i)) (length xs) p q → PassesText xs false p q
  passes_white l = passes_run false is_white l (λ b w. (white_text b w, inr w))
