-- The rule nodes of a text form a rule.
use Rattle.std.proofs.Common.{◌≡◌, ℕ, ◌<◌, List, [], length, get_or, Some, sym, ap, subst, arith}
use Rattle.std.specs.List.{slice_get}
use Rattle.std.proofs.lemmas.List.{length-map}
use Rattle.rules.specs.declared.node.Edge.TheVariants.{Child}
use Rattle.rules.specs.declared.node.RuleNode.{RuleNode}
use Rattle.rules.specs.declared.syntax.Token.{Token}
use Rattle.rules.specs.declared.syntax.ParsedNode.{ParsedNode}
use Rattle.rules.specs.Grammar.{node, Step, step, Text, text}
use Rattle.rules.specs.Rule.{is_child, Rooted, Ordered}
use Rattle.rules.specs.RuleNodes.{plain, plain_nodes}
use Rattle.rules.specs.Texts.{TextGives, gives}
use Rattle.rules.proofs.Order.{gives_ordered}
use Rattle.std.proofs.lemmas.Option.{slice_get_within, get_or_from_slice_get}
use Rattle.rules.proofs.Selects.{step_node}
use Rattle.rules.proofs.Listed.{some_at, rule_at}

step_first : {ns : List ParsedNode} {ts rest : List Token} → Step 0 Child [] ts ns rest → (t : Token) × (slice_get ns 0 ≡ Some (node 0 Child t))
step_first (step {t = t} test ps) = (t, step_node 0 Child t [] ps)

text_first : {ts : List Token} {ns : List ParsedNode} → Text ts ns → (t : Token) × (slice_get ns 0 ≡ Some (node 0 Child t))
text_first (text a s b) = step_first s

gives_first : {bs : List ℕ} {ns : List ParsedNode} → TextGives bs ns → (t : Token) × (slice_get ns 0 ≡ Some (node 0 Child t))
gives_first (gives f l a) = text_first a.formed

pub given_some : {bs : List ℕ} {ns : List ParsedNode} → TextGives bs ns → 0 < length ns
given_some {bs} {ns} g = let r = gives_first g in slice_get_within ns 0 (node 0 Child r.0) r.1

pub given_rooted : {bs : List ℕ} {ns : List ParsedNode} → TextGives bs ns → Rooted (plain_nodes ns)
given_rooted {bs} {ns} g =
    let r = gives_first g in
    let e : get_or (plain_nodes ns) 0 _ ≡ plain (node 0 Child r.0) = rule_at ns 0 (node 0 Child r.0) r.1 in
    (ap (λ (n : RuleNode). n.parent) e, ap (λ (n : RuleNode). is_child n.edge) e)

pub given_ordered : {bs : List ℕ} {ns : List ParsedNode} → TextGives bs ns → Ordered (plain_nodes ns)
given_ordered {bs} {ns} g x pos l =
    let inside : x < length ns = omega (arith, length-map ns plain) in
    let r = some_at ns x inside in
    let low : r.0.parent < x = subst (λ (n : ParsedNode). n.parent < x) (get_or_from_slice_get ns x r.0 r.0 r.1) (gives_ordered bs ns g x r.0 pos inside) in
    subst (λ (n : RuleNode). n.parent < x) (sym (rule_at ns x r.0 r.1)) low
