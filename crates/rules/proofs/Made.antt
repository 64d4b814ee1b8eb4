-- The rule nodes of a text, made one after another.
use Rattle.std.proofs.Common.{◌≡◌, ℕ, ◌+◌, ◌<◌, ◌≤◌, List, [], ◌∷◌, ◌++◌, length, get_or, take, set, sym, ap, ◌∙◌, arith}
use Rattle.std.proofs.lemmas.List.{take_all, take_more, take_more_set, map-append}
use Rattle.rules.specs.declared.node.RuleNode.{RuleNode}
use Rattle.rules.specs.declared.syntax.ParsedNode.{ParsedNode}
use Rattle.rules.specs.RuleNodes.{plain, plain_nodes}

pub make_more : (made : List RuleNode) (ns : List ParsedNode) (i : ℕ) (d : ParsedNode) (n : RuleNode) → i < length ns → i < length made
    → n ≡ plain (get_or ns i d) → take i made ≡ plain_nodes (take i ns)
    → take (i + 1) (set made i n) ≡ plain_nodes (take (i + 1) ns)
make_more made ns i d n l m e h =
    take_more_set made i n m
    ∙ ap (λ (n : RuleNode). take i made ++ n ∷ []) e
    ∙ ap (λ (xs : List RuleNode). xs ++ plain (get_or ns i d) ∷ []) h
    ∙ sym (map-append plain (take i ns) (get_or ns i d ∷ []))
    ∙ ap plain_nodes (sym (take_more ns i d l))

-- all of them
pub make_all : (made : List RuleNode) (ns : List ParsedNode) (i : ℕ) → length ns ≤ i → i ≤ length ns → take i made ≡ plain_nodes (take i ns)
    → take (length ns) made ≡ plain_nodes ns
make_all made ns i l k h =
    let e : length ns ≡ i = omega arith in
    ap (λ (n : ℕ). take n made) e ∙ h ∙ ap plain_nodes (take_all i ns l)
