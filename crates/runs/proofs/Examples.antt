-- The examples, by the machine that reads rule texts and the test of whether a rule occurs. Assumes nothing.
use Rattle.std.proofs.Common.{◌≡◌, ℕ, ◌<◌, Bool, ◌&&◌, ◌||◌, ltb, leb, true, List, [], ◌++◌, length, bytes_eq, Decides, refl, arith, ltb-true, leb-true}
use Rattle.std.specs.List.{slice_get}
use Rattle.std.proofs.lemmas.List.{length-map}
use Rattle.std.proofs.lemmas.Bool.{and_parts}
use Rattle.std.proofs.lemmas.Bool.Decides.{Decides-or}
use Rattle.rules.specs.declared.syntax.ParsedNode.{ParsedNode}
use Rattle.rules.specs.declared.node.RuleNode.{RuleNode}
use Rattle.rules.specs.Limits.{text_limit}
use Rattle.rules.specs.Rule.{any_of}
use Rattle.rules.specs.Embedding.{Meets}
use Rattle.rules.specs.RuleNodes.{plain, plain_nodes}
use Rattle.rules.specs.Texts.{TextGives}
use Rattle.rules.specs.Machine.{Answer, accepts, start, lex, run}
use Rattle.rules.proofs.Answering.{fit, accepting}
use Rattle.rules.proofs.Formed.{given_some, given_ordered}
use Rattle.runs.specs.declared.call.Call.{Call}
use Rattle.runs.specs.Model.{Model, empty}
use Rattle.runs.specs.Examples.{GivesNumbers, WorkedTrees}
use Rattle.rules.specs.TestNames.{test_names}
use Rattle.runs.proofs.OccursTest.{holds, holds_decides, after_all, all_accepted, plays}

-- the label l meets the test of rule node x
abbrev meets_test : List RuleNode → List (List ℕ) → List ℕ → ℕ → Bool
meets_test rule labels l x = any_of rule x || holds (slice_get labels x) (λ w. bytes_eq l w)

meets_decides : (rule : List RuleNode) (labels : List (List ℕ)) (l : List ℕ) (x : ℕ)
    → Decides (meets_test rule labels l x) (Meets bytes_eq rule labels l x)
meets_decides rule labels l x =
    Decides-or _ _ (λ e. e, λ e. e) (holds_decides (slice_get labels x) _ (λ w. bytes_eq l w ≡ true) (λ w. (λ e. e, λ e. e)))

-- the rule nodes that the machine reads
abbrev accepted_nodes : Answer → List ParsedNode
accepted_nodes (accepts ns) = ns
accepted_nodes _ = []

module _ (text : List ℕ) (calls : List (Call (List ℕ))) (numbers : List ℕ) where
  abbrev parsed : List ParsedNode
  parsed = accepted_nodes (run (lex 0 0 text) start)

  abbrev rule : List RuleNode
  rule = plain_nodes parsed

  abbrev labels : List (List ℕ)
  labels = test_names text parsed

  abbrev test : List ℕ → ℕ → Bool
  test = meets_test rule labels

  abbrev end : Model (List ℕ)
  end = after_all rule test empty calls

  reports : (ltb 0 (length text) && leb (length text) text_limit) ≡ true → run (lex 0 0 text) start ≡ accepts parsed
      → all_accepted rule test empty calls ≡ true → end.path ≡ [] → end.handed ++ end.waiting ≡ numbers → GivesNumbers text calls numbers
  reports fits reads plays_on closed gives =
      let f = and_parts _ _ fits in
      let long : 0 < length text = ltb-true _ _ f.0 in
      let g : TextGives text parsed = accepting text parsed (fit text (λ z. omega arith) (leb-true _ _ f.1)) reads in
      let some : 0 < length rule = omega (arith, given_some g, length-map parsed plain) in
      let p = plays rule test (Meets bytes_eq rule labels) (given_ordered g) some (meets_decides rule labels) empty calls plays_on in
      (parsed, g, p.0, end, p.1, p.2, closed, gives)

pub worked : WorkedTrees
worked = record {
  nested = reports _ _ _ refl refl refl refl refl;
  shared = reports _ _ _ refl refl refl refl refl;
  one_branch = reports _ _ _ refl refl refl refl refl;
  either_branch = reports _ _ _ refl refl refl refl refl;
  not_child = reports _ _ _ refl refl refl refl refl;
  descends = reports _ _ _ refl refl refl refl refl;
  proper = reports _ _ _ refl refl refl refl refl;
  inner = reports _ _ _ refl refl refl refl refl;
  dropped_child = reports _ _ _ refl refl refl refl refl;
}
