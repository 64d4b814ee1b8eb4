use Rattle.std.proofs.Common.{rules, tests, ap, sym, subst, ◌∙◌, ◌≡◌, ℕ, ◌+◌, Bool, List, true, false, drop, length}
use Rattle.std.specs.Option.{unwrap_or}
use Rattle.std.proofs.lemmas.Iterator.{IsFirst-from_position, YieldsList-from_slice}
use Rattle.labels.specs.Spelling.{LongestBy}
use Rattle.labels.proofs.SpellingLaws.{run_from_first}
use Rattle.labels.proofs.spelling.run_end.Goals as goal

pub returns-clause-within : goal.returns-clause-within
returns-clause-within g c h =
    let R : ℕ → Bool → Type 0 = λ x b. goal.F-post g c.args.passes x b in
    let bs : List ℕ = c.args.bytes.now in
    let rest : c.iter.result.rest.now ≡ drop c.args.from c.args.bytes.now = c.iter.ensures.rest ∙ c.rest-rest.ensures in
    let first = IsFirst-from_position _ _ _ (λ x. R x false) (λ x. R x true) c.position.ensures.ran (YieldsList-from_slice (drop c.args.from bs) rest) (λ x q k. search (rules, tests)) (λ x q k. search (rules, tests)) in
    let len : length c.iter.result.rest.now ≡ length (drop c.args.from c.args.bytes.now) = ap length rest in
    let q : c.args.from + c.unwrap_or.result ≡ c.args.from + unwrap_or c.position.result (length (drop c.args.from c.args.bytes.now)) = cc in
    subst (λ (k : ℕ). LongestBy R bs c.args.from k) (sym q) (run_from_first R bs c.args.from h c.position.result first)
