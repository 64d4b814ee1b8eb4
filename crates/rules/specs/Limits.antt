-- The limits of rules and rule texts. That of a name stands with the spelling of names.
use Rattle.std.specs.Prelude.{ℕ}

-- the rule nodes of a rule, and so the tests of a rule text
abbrev pub node_limit : ℕ
node_limit = 64

-- the bytes of a rule text
abbrev pub text_limit : ℕ
text_limit = 1024

-- the brackets that are open at one place of a rule text
abbrev pub bracket_limit : ℕ
bracket_limit = 16
