-- The bytes of the tests of a rule text; of a test that is any, the byte `*`, which no label is compared with.
use Rattle.std.specs.Prelude.{ℕ, List, map}
use Rattle.rules.specs.declared.syntax.ParsedNode.{ParsedNode}
use Rattle.rules.specs.Expression.{token_bytes}

-- by the numbers of its rule nodes
abbrev pub test_names : List ℕ → List ParsedNode → List (List ℕ)
test_names bs ns = map (λ n. token_bytes bs n.test) ns
