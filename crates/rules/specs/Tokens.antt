-- What is wrong with a token, and which lists of tokens are accepted or refused.
use Rattle.std.specs.Prelude.{◌≡◌, ℕ, ◌-◌, ◌<◌, ◌≤◌, Bool, true, false, List, [], ◌∷◌, ◌++◌}
use Rattle.std.specs.List.{count_by}
use Rattle.rules.specs.declared.syntax.Kind.{Kind}
use Rattle.rules.specs.declared.syntax.Kind.TheVariants.{Open, Close, Star, Name}
use Rattle.rules.specs.declared.syntax.Token.{Token}
use Rattle.rules.specs.declared.syntax.ParsedNode.{ParsedNode}
use Rattle.labels.specs.Spelling.{name_limit}
use Rattle.rules.specs.Limits.{node_limit, bracket_limit}
use Rattle.rules.specs.Grammar.{Test, Text, Begins}

abbrev pub is_test : Kind → Bool
is_test Name = true
is_test Star = true
is_test _ = false

abbrev pub is_open : Kind → Bool
is_open Open = true
is_open _ = false

abbrev pub is_close : Kind → Bool
is_close Close = true
is_close _ = false

-- how many of the tokens are of a kind
abbrev pub count : (Kind → Bool) → List Token → ℕ
count of ts = count_by (λ t. of t.kind) ts

-- how many brackets are open behind the tokens
abbrev pub open_brackets : List Token → ℕ
open_brackets ts = count is_open ts - count is_close ts

-- what is wrong with the token t behind the tokens `before`
pub data Offends (before : List Token) (t : Token) : ℕ → Type 0 where
  not_allowed : (Begins (before ++ (t ∷ [])) → ⊥) → Offends before t 11
  many_tests : Test t → node_limit ≤ count is_test before → Offends before t 13
  long_name : t.kind ≡ Name → name_limit < t.len → Offends before t 12
  deep_bracket : t.kind ≡ Open → bracket_limit ≤ open_brackets before → Offends before t 14

-- nothing is wrong with any of the tokens
abbrev pub Clear : List Token → Type 0
Clear ts = (a : List Token) (t : Token) (b : List Token) (k : ℕ) → ts ≡ a ++ (t ∷ b) → Offends a t k → ⊥

-- the order of the refusals at one place: 11, 13, 12, 14
pub data ComesBefore : ℕ → ℕ → Type 0 where
  same : {k : ℕ} → ComesBefore k k
  not_allowed_first : {k : ℕ} → ComesBefore 11 k
  many_before_long : ComesBefore 13 12
  many_before_deep : ComesBefore 13 14
  long_before_deep : ComesBefore 12 14

-- the tokens are a rule text of which nothing offends, and give the rule nodes
pub record TokensGive (ts : List Token) (ns : List ParsedNode) : Type 0 where
  pub formed : Text ts ns
  pub clear : Clear ts

-- The first token that offends, and the first of what is wrong with it. The tokens before it begin some rule text.
pub record TokensRefused (ts : List Token) (k p : ℕ) : Type 0 where
  pub before : List Token
  pub at : Token
  pub rest : List Token
  pub splits : ts ≡ before ++ (at ∷ rest)
  pub place : at.place ≡ p
  pub begun : Begins before
  pub clear : Clear before
  pub offends : Offends before at k
  pub foremost : (j : ℕ) → Offends before at j → ComesBefore k j
