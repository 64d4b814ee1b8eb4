-- Which rule texts give rule nodes, and which are refused.
use Rattle.std.specs.Prelude.{◌≡◌, ℕ, ◌<◌, ◌⊎◌, List, length}
use Rattle.rules.specs.declared.syntax.Token.{Token}
use Rattle.rules.specs.declared.syntax.ParsedNode.{ParsedNode}
use Rattle.rules.specs.Limits.{text_limit}
use Rattle.rules.specs.Lexing.{Lexes}
use Rattle.rules.specs.Tokens.{TokensGive, TokensRefused}

-- bs is no text of 1 to 1,024 bytes
abbrev pub Unfit : List ℕ → Type 0
Unfit bs = (length bs ≡ 0) ⊎ (text_limit < length bs)

-- the rule text bs gives the rule nodes ns
pub data TextGives (bs : List ℕ) (ns : List ParsedNode) : Type 0 where
  gives : {ts : List Token} → (Unfit bs → ⊥) → Lexes 0 bs ts → TokensGive ts ns → TextGives bs ns

-- the rule text bs is refused with a number at a place
pub data TextRefused (bs : List ℕ) : ℕ × ℕ → Type 0 where
  unfit : Unfit bs → TextRefused bs (10, 0)
  refused : {ts : List Token} {k p : ℕ} → (Unfit bs → ⊥) → Lexes 0 bs ts → TokensRefused ts k p → TextRefused bs (k, p)
