-- Why there is no name at a place.
use Rattle.std.specs.Prelude.{◌≡◌, ℕ, ◌+◌, ◌<◌, false, List}
use Rattle.labels.specs.Spelling.{byte_at, starts_name, Named, name_limit}
use Rattle.labels.specs.declared.spelling.NoName.{NoName}
use Rattle.labels.specs.declared.spelling.NoName.TheVariants.{Missing, TooLong}

-- no name begins at p, or it ends at q and is too long
abbrev pub Unended : List ℕ → ℕ → NoName → Type 0
Unended bs p Missing = starts_name (byte_at bs p) ≡ false
Unended bs p (TooLong q) = Named bs p q × (p + name_limit < q)
