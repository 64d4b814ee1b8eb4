-- The words of a name, for the contract of a private function.
use Rattle.std.specs.Prelude.{ℕ, cond, nat_lt}
use Rattle.labels.specs.declared.name.Name.{Name}

-- the word with the byte at the place i
abbrev pub word_with : Name → ℕ → ℕ
word_with n i = cond (nat_lt i 8) n.first (cond (nat_lt i 16) n.second (cond (nat_lt i 24) n.third n.fourth))
