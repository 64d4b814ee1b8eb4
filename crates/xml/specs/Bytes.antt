-- The tests on bytes that only listings have.
use Rattle.std.specs.Prelude.{◌≡◌, ℕ, ◌+◌, Bool, not, ◌&&◌, ◌||◌, List, [], ◌∷◌, ◌==◌}
use Prim.Native.Char.{code}
use Rattle.labels.specs.Spelling.{byte_at}

-- neither `<` nor `>`
abbrev pub plain : ℕ → Bool
plain b = not (b == code "<" || b == code ">")

-- no markup begins with it
abbrev pub text : ℕ → Bool
text b = not (b == code "<")

-- the bytes a and b do not stand at i and behind it
abbrev pub apart : List ℕ → ℕ → ℕ → ℕ → Bool
apart xs a b i = not (byte_at xs i == a && byte_at xs (i + 1) == b)

-- the word stands at the place
abbrev pub Stands : List ℕ → List ℕ → ℕ → Type 0
Stands xs [] p = Unit {0}
Stands xs (b ∷ bs) p = (byte_at xs p ≡ b) × Stands xs bs (p + 1)
