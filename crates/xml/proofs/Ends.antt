-- What the scans of tags find, as the meaning has it.
use Rattle.std.specs.Option.{MatchOption, unwrap_or}
use Rattle.std.proofs.Common.{◌≡◌, ℕ, ◌+◌, ◌<◌, ◌≤◌, Bool, true, false, ◌||◌, ◌==◌, List, length, Some, None, MatchResult, Option, Result, sym, subst, arith}
use Prim.Native.Char.{code}
use Rattle.std.proofs.lemmas.Result.{MatchResult-weaker}
use Rattle.labels.specs.Spelling.{byte_at, is_white, Longest}
use Rattle.xml.specs.Bytes.{plain}
use Rattle.xml.specs.Markup.{TagEnds, EndEnds, TagFault, EndFault}
use Rattle.xml.specs.Markup.TagFault.{slash_ended, slash_byte, unclosed, opened}
use Rattle.xml.specs.Markup.EndFault.{ended, byte_behind}
use Rattle.xml.specs.Inner.{Told, CloseMissing}
use Rattle.xml.specs.Shapes.{slash_tag, bracket_tag, no_close}
use Rattle.xml.specs.declared.fault.ScanFault.{ScanFault}
use Rattle.xml.specs.declared.fault.ScanFault.TheVariants.{Byte, End, LongName}
use Rattle.xml.specs.ScanLaws.{run_out, standing}

-- where a search for the first place that fails the test ends
pub first_runs : (ok : ℕ → Bool) (end p : ℕ) (r : Option ℕ) →
    MatchOption r ((k : ℕ) → p ≤ k → k < end → ok k ≡ true) (λ i. (p ≤ i) × (i < end) × (ok i ≡ false) × ((k : ℕ) → p ≤ k → k < i → ok k ≡ true)) →
    p ≤ end → Longest ok end p (unwrap_or r end)
first_runs ok end p None h l = record { late = l; within = omega arith; all = h; stops = λ m. absurd (omega arith) }
first_runs ok end p (Some i) h l = let w = h.1 in record { late = h.0; within = omega arith; all = h.3; stops = λ _. h.2 }

-- a `>` that is looked for at one place alone
abbrev pub Closes : List ℕ → ℕ → Result ℕ ScanFault → Type 0
Closes xs p r = MatchResult r (λ c. (c ≡ p) × (byte_at xs p ≡ code ">")) (CloseMissing xs p)

module _ (xs : List ℕ) (n : ℕ) (r : Result ℕ ScanFault) where
  pub slash_closes : byte_at xs n ≡ code "/" → Closes xs (n + 1) r → MatchResult r (TagEnds xs n) (Told (TagFault xs n))
  slash_closes s h = MatchResult-weaker r h good bad
    where
      good : (c : ℕ) → (c ≡ n + 1) × (byte_at xs (n + 1) ≡ code ">") → TagEnds xs n c
      good c (e, b) = subst (TagEnds xs n) (sym e) (slash_tag xs n s (standing xs (n + 1) (code ">") b (omega arith)) b)

      bad : (f : ScanFault) → CloseMissing xs (n + 1) f → Told (TagFault xs n) f
      bad (Byte c) (e, w, b) = subst (TagFault xs n 30) (sym e) (slash_byte s w b)
      bad (End c) (w, e) = subst (TagFault xs n 31) (sym e) (slash_ended s w)
      bad (LongName c) h = absurd h

  pub bracket_closes : (is_white (byte_at xs n) || byte_at xs n == code ">") ≡ true → (p : ℕ) → Longest (λ i. plain (byte_at xs i)) (length xs) n p →
      Closes xs p r → MatchResult r (TagEnds xs n) (Told (TagFault xs n))
  bracket_closes a p l h = MatchResult-weaker r h good bad
    where
      good : (c : ℕ) → (c ≡ p) × (byte_at xs p ≡ code ">") → TagEnds xs n c
      good c (e, b) = subst (TagEnds xs n) (sym e) (bracket_tag xs n p a l (standing xs p (code ">") b (omega arith)) (λ f. omega arith))

      bad : (f : ScanFault) → CloseMissing xs p f → Told (TagFault xs n) f
      bad (Byte c) (e, w, b) = subst (TagFault xs n 30) (sym e) (opened p a l (no_close (byte_at xs p) (l.stops w) b))
      bad (End c) (w, e) = subst (TagFault xs n 31) (sym e) (unclosed a (run_out _ _ n p l w))
      bad (LongName c) h = absurd h

  pub white_closes : (p : ℕ) → Longest (λ i. is_white (byte_at xs i)) (length xs) n p → Closes xs p r → MatchResult r (EndEnds xs n) (Told (EndFault xs n))
  white_closes p l h = MatchResult-weaker r h good bad
    where
      good : (c : ℕ) → (c ≡ p) × (byte_at xs p ≡ code ">") → EndEnds xs n c
      good c (e, b) = subst (EndEnds xs n) (sym e) (record { space = l; closes = b })

      bad : (f : ScanFault) → CloseMissing xs p f → Told (EndFault xs n) f
      bad (Byte c) (e, w, b) = subst (EndFault xs n 30) (sym e) (byte_behind p l w b)
      bad (End c) (w, e) = subst (EndFault xs n 31) (sym e) (ended (run_out _ _ n p l w))
      bad (LongName c) h = absurd h
