-- The bytes that a reader has left, where they are known.
use Rattle.std.proofs.Common.{Option, Some, None, ◌≡◌, ℕ, List, [], ◌++◌, take, ap, ◌∙◌}
use Rattle.std.specs.Prelude.{IfSome}
use Rattle.std.specs.Option.{option_map}

-- what is read to the end of a limited reader, behind nothing, is what the limit leaves of the bytes
pub read_limited : (known : Option (List ℕ)) (n : ℕ) (start read : List ℕ) → start ≡ [] → IfSome (option_map (take n) known) (λ xs. read ≡ start ++ xs)
    → IfSome known (λ input. read ≡ take n input)
read_limited None n start read e _ = tt
read_limited (Some xs) n start read e h = h ∙ ap (λ s. s ++ take n xs) e
