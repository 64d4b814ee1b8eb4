-- What stands at a place of a listing: the markup that begins there, the complete markup, and what is wrong with it.
use Rattle.std.specs.Prelude.{◌≡◌, ℕ, ◌+◌, ◌-◌, ◌<◌, ◌≤◌, Bool, true, false, cond, ◌&&◌, ◌||◌, List, [], ◌∷◌, length, ◌==◌, ◌≢◌, codes}
use Prim.Native.Char.{code}
use Rattle.labels.specs.Spelling.{byte_at, is_white, starts_name, Longest, Named, Spelled, name_limit}
use Rattle.xml.specs.Bytes.{plain, apart, Stands}
use Rattle.xml.specs.declared.markup.Markup.{Markup}
use Rattle.xml.specs.declared.markup.Markup.TheVariants.{Nothing, Text, EndTag, Comment, Declaration, Instruction, StartTag, Cut, Stray}

-- The next bytes tell which markup begins.
abbrev pub two_dashes : List ℕ → Bool
two_dashes [] = false
two_dashes (a ∷ []) = false
two_dashes (a ∷ b ∷ bs) = a == code "-" && b == code "-"

abbrev pub behind : List ℕ → Markup
behind [] = Cut
behind (b ∷ bs) =
    cond (b == code "/") EndTag
    (cond (b == code "!") (cond (two_dashes bs) Comment Declaration)
    (cond (b == code "?") Instruction
    (cond (starts_name b) StartTag Stray)))

abbrev pub markup : List ℕ → Markup
markup [] = Nothing
markup (b ∷ bs) = cond (b == code "<") (behind bs) Text

-- The rest of a comment from b on: up to the first `--`, behind which `>` stands
pub record CommentEnds (xs : List ℕ) (b q : ℕ) : Type 0 where
  pub dashes : ℕ
  pub first : Longest (apart xs (code "-") (code "-")) (length xs) b dashes
  pub closes : Stands xs (codes "-->") dashes
  pub ends : q ≡ dashes + 3

-- A comment from p to q, where `<!--` stands at p
abbrev pub IsComment : List ℕ → ℕ → ℕ → Type 0
IsComment xs p q = CommentEnds xs (p + 4) q

-- The rest of an instruction from b on: up to the first `?>`
pub record InstructionEnds (xs : List ℕ) (b q : ℕ) : Type 0 where
  pub close : ℕ
  pub first : Longest (apart xs (code "?") (code ">")) (length xs) b close
  pub closes : Stands xs (codes "?>") close
  pub ends : q ≡ close + 2

-- An instruction from p to q, where `<?` stands at p
abbrev pub IsInstruction : List ℕ → ℕ → ℕ → Type 0
IsInstruction xs p q = InstructionEnds xs (p + 2) q

-- The rest of a start tag whose name ends at n: white space, `/` or `>`, and the first `>`, at c, with no `<` before it.
-- Only `>` may follow a `/` right after the name.
pub record TagEnds (xs : List ℕ) (n c : ℕ) : Type 0 where
  pub after : (is_white (byte_at xs n) || (byte_at xs n == code "/" || byte_at xs n == code ">")) ≡ true
  pub slash : byte_at xs n ≡ code "/" → c ≡ n + 1
  pub rest : Longest (λ i. plain (byte_at xs i)) (length xs) n c
  pub closes : byte_at xs c ≡ code ">"

-- A start tag from p to q, where `<` stands at p, with the name from p + 1 to n. The element is empty where `/` stands right before the `>`.
pub record IsStart (xs : List ℕ) (p n q : ℕ) (empty : Bool) : Type 0 where
  pub name : Spelled xs (p + 1) n
  pub close : ℕ
  pub tag : TagEnds xs n close
  pub ends : q ≡ close + 1
  pub slash : empty ≡ (byte_at xs (close - 1) == code "/")

-- The rest of an end tag whose name ends at n: white space if any, and `>` at c
pub record EndEnds (xs : List ℕ) (n c : ℕ) : Type 0 where
  pub space : Longest (λ i. is_white (byte_at xs i)) (length xs) n c
  pub closes : byte_at xs c ≡ code ">"

-- An end tag from p to q, where `</` stands at p, with the name from p + 2 to n
pub record IsEnd (xs : List ℕ) (p n q : ℕ) : Type 0 where
  pub name : Spelled xs (p + 2) n
  pub close : ℕ
  pub tag : EndEnds xs n close
  pub ends : q ≡ close + 1

-- What is wrong with a name at p, with its number and place
pub data NameFault (xs : List ℕ) (p : ℕ) : ℕ → ℕ → Type 0 where
  ended : length xs ≤ p → NameFault xs p 31 (length xs)
  no_start : p < length xs → starts_name (byte_at xs p) ≡ false → NameFault xs p 30 p
  long : (q : ℕ) → Named xs p q → p + name_limit < q → NameFault xs p 32 p

-- What is wrong with the rest of a comment from b on
pub data CommentFault (xs : List ℕ) (b : ℕ) : ℕ → ℕ → Type 0 where
  ended : (d : ℕ) → Longest (apart xs (code "-") (code "-")) (length xs) b d → length xs ≤ d + 2 → CommentFault xs b 31 (length xs)
  byte_behind : (d : ℕ) → Longest (apart xs (code "-") (code "-")) (length xs) b d → d + 2 < length xs → (byte_at xs (d + 2) ≢ code ">") → CommentFault xs b 30 (d + 2)

-- What is wrong with the rest of an instruction from b on
pub data InstructionFault (xs : List ℕ) (b : ℕ) : ℕ → ℕ → Type 0 where
  ended : Longest (apart xs (code "?") (code ">")) (length xs) b (length xs) → InstructionFault xs b 31 (length xs)

-- What is wrong with the rest of a start tag whose name ends at n
pub data TagFault (xs : List ℕ) (n : ℕ) : ℕ → ℕ → Type 0 where
  ended : length xs ≤ n → TagFault xs n 31 (length xs)
  byte_behind : n < length xs → (is_white (byte_at xs n) || (byte_at xs n == code "/" || byte_at xs n == code ">")) ≡ false → TagFault xs n 30 n
  slash_ended : byte_at xs n ≡ code "/" → length xs ≤ n + 1 → TagFault xs n 31 (length xs)
  slash_byte : byte_at xs n ≡ code "/" → n + 1 < length xs → (byte_at xs (n + 1) ≢ code ">") → TagFault xs n 30 (n + 1)
  unclosed : (is_white (byte_at xs n) || byte_at xs n == code ">") ≡ true → Longest (λ i. plain (byte_at xs i)) (length xs) n (length xs) → TagFault xs n 31 (length xs)
  opened : (c : ℕ) → (is_white (byte_at xs n) || byte_at xs n == code ">") ≡ true → Longest (λ i. plain (byte_at xs i)) (length xs) n c →
      byte_at xs c ≡ code "<" → TagFault xs n 30 c

-- What is wrong with the rest of an end tag whose name ends at n
pub data EndFault (xs : List ℕ) (n : ℕ) : ℕ → ℕ → Type 0 where
  ended : Longest (λ i. is_white (byte_at xs i)) (length xs) n (length xs) → EndFault xs n 31 (length xs)
  byte_behind : (c : ℕ) → Longest (λ i. is_white (byte_at xs i)) (length xs) n c → c < length xs → (byte_at xs c ≢ code ">") → EndFault xs n 30 c
