-- What reading a rule text leaves in the rule and in the list of names.
use Rattle.std.specs.Prelude.{◌≡◌, ℕ, ◌<◌, ◌≤◌, Bool, List, [], ◌∷◌, length, ◌≢◌}
use Rattle.rules.specs.declared.syntax.Kind.TheVariants.{Name}
use Rattle.rules.specs.declared.syntax.ParsedNode.{ParsedNode}
use Rattle.rules.specs.declared.refusal.TextRefusal.{TextRefusal}
use Rattle.rules.specs.declared.rule.Rule.{Rule}
use Rattle.rules.specs.RuleNodes.{rule_nodes, plain_nodes}
use Rattle.rules.specs.XPath.{LocationPath}
use Rattle.rules.specs.Expression.{token_bytes, TextStandsFor, SelectsAlike}
use Rattle.rules.specs.Refusals.{number_and_place}
use Rattle.labels.specs.Exact.{Sole}
use Rattle.rules.specs.Texts.{TextGives, TextRefused}
use Rattle.rules.specs.Limits.{node_limit}

-- each named rule node of ns has its name in the list at its number; the other entries are as before
pub data NamesIn {N : Type 0} (spelled : N → List ℕ) (bs : List ℕ) : List ParsedNode → List N → List N → Type 0 where
  behind : {xs : List N} → NamesIn spelled bs [] xs xs
  named : {n : ParsedNode} {ns : List ParsedNode} {x y : N} {xs ys : List N}
      → n.test.kind ≡ Name
      → spelled y ≡ token_bytes bs n.test
      → NamesIn spelled bs ns xs ys
      → NamesIn spelled bs (n ∷ ns) (x ∷ xs) (y ∷ ys)
  unnamed : {n : ParsedNode} {ns : List ParsedNode} {x : N} {xs ys : List N}
      → (n.test.kind ≢ Name)
      → NamesIn spelled bs ns xs ys
      → NamesIn spelled bs (n ∷ ns) (x ∷ xs) (x ∷ ys)

-- Reading the text bs with so many entries for names gives the rule nodes ns.
pub record ReadingGives (bs : List ℕ) (entries : ℕ) (ns : List ParsedNode) : Type 0 where
  pub enough : node_limit ≤ entries
  pub given : TextGives bs ns

-- It is refused with a number at a place: first for too few entries, then for the text.
pub data ReadingRefused (bs : List ℕ) (entries : ℕ) : ℕ × ℕ → Type 0 where
  short_list : entries < node_limit → ReadingRefused bs entries (17, 0)
  by_text : {x : ℕ × ℕ} → node_limit ≤ entries → TextRefused bs x → ReadingRefused bs entries x

-- The text gives these rule nodes and no others, and there is no reason to refuse it.
abbrev pub OnlyGives : List ℕ → ℕ → List ParsedNode → Type 0
OnlyGives bs entries ns = Sole (ReadingGives bs entries) (ReadingRefused bs entries) ns

-- There is this reason to refuse the text and no other, and it gives no rule nodes.
abbrev pub OnlyRefused : List ℕ → ℕ → TextRefusal → Type 0
OnlyRefused bs entries f = Sole (ReadingRefused bs entries) (ReadingGives bs entries) (number_and_place f)

-- The text gives the rule, and the list has the names of its named rule nodes at their numbers and in all other entries
-- what it had. As an expression of XPath 1.0 the text selects the nodes at which the rule occurs.
pub record ReadInto {N : Type 0} (same : N → N → Bool) (spelled : N → List ℕ) (alike : List ℕ → List ℕ → Bool)
    (bs : List ℕ) (rule : Rule) (before after : List N) : Type 0 where
  pub nodes : List ParsedNode
  pub accepted : OnlyGives bs (length before) nodes
  pub rule_is : rule_nodes rule ≡ plain_nodes nodes
  pub names : NamesIn spelled bs nodes before after
  pub expression : LocationPath
  pub stands : TextStandsFor bs expression
  pub selects : SelectsAlike same spelled alike bs (rule_nodes rule) after

-- a refusal alters nothing
pub record Unread {N : Type 0} (bs : List ℕ) (f : TextRefusal)
    (rule rule' : Rule) (before after : List N) : Type 0 where
  pub refused : OnlyRefused bs (length before) f
  pub rule_same : rule' ≡ rule
  pub names_same : after ≡ before
