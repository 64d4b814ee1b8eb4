-- A label meets a test of a rule text just where its spelling meets the bytes of that test.
use Rattle.std.proofs.Common.{◌≡◌, ℕ, zero, suc, ◌<◌, Bool, true, ◌↔◌, List, [], ◌∷◌, ◌++◌, length, take, Some, Option, sym, refl, ap, ◌∙◌, inl, inr, ⊎_elim, arith}
use Rattle.rules.specs.declared.syntax.Kind.TheVariants.{Star, Name}
use Rattle.rules.specs.declared.syntax.Token.{Token}
use Rattle.rules.specs.declared.node.Edge.{Edge}
use Rattle.rules.specs.declared.syntax.ParsedNode.{ParsedNode}
use Rattle.rules.specs.Grammar.{Test, name, star, node, Step, step, Predicates, none, predicate, Path, child, descendant, Further, last, further, Text, text}
use Rattle.rules.specs.Embedding.{Meets}
use Rattle.rules.specs.Expression.{token_bytes, TextStandsFor, SelectsAlike}
use Rattle.rules.specs.XPath.{LocationPath}
use Rattle.rules.specs.RuleNodes.{is_star, plain_nodes}
use Rattle.rules.specs.TestNames.{test_names}
use Rattle.rules.specs.Texts.{TextGives, gives}
use Rattle.rules.specs.ReadText.{NamesIn, behind, named, unnamed}
use Rattle.rules.proofs.Listed.{text_selects_alike}

-- the test of each is a name or `*`
abbrev Tests : List ParsedNode → Type 0
Tests [] = Unit {0}
Tests (n ∷ ns) = Test n.test × Tests ns

tests_push : (ns : List ParsedNode) (p : ℕ) (e : Edge) (t : Token) → Test t → Tests ns → Tests (ns ++ (node p e t ∷ []))
tests_push [] p e t d h = (d, tt)
tests_push (n ∷ ns) p e t d h = (h.0, tests_push ns p e t d h.1)

mutual
  step_tests : {p : ℕ} {e : Edge} {ns ms : List ParsedNode} {ts rest : List Token} → Step p e ns ts ms rest → Tests ns → Tests ms
  step_tests (step {p = p} {e = e} {t = t} {ns = ns} d ps) h = predicates_tests ps (tests_push ns p e t d h)

  predicates_tests : {n : ℕ} {ns ms : List ParsedNode} {ts rest : List Token} → Predicates n ns ts ms rest → Tests ns → Tests ms
  predicates_tests none h = h
  predicates_tests (predicate o p c ps) h = predicates_tests ps (path_tests p h)

  path_tests : {n : ℕ} {ns ms : List ParsedNode} {ts rest : List Token} → Path n ns ts ms rest → Tests ns → Tests ms
  path_tests (child s f) h = further_tests f (step_tests s h)
  path_tests (descendant d dd s f) h = further_tests f (step_tests s h)

  further_tests : {n : ℕ} {ns ms : List ParsedNode} {ts rest : List Token} → Further n ns ts ms rest → Tests ns → Tests ms
  further_tests last h = h
  further_tests (further b s f) h = further_tests f (step_tests s h)

text_tests : {ts : List Token} {ns : List ParsedNode} → Text ts ns → Tests ns
text_tests (text a s b) = step_tests s tt

given_tests : {bs : List ℕ} {ns : List ParsedNode} → TextGives bs ns → Tests ns
given_tests (gives f l a) = text_tests a.formed

-- a test that is no name is `*`
any_test : (t : Token) → Test t → (t.kind ≡ Name → ⊥) → is_star t.kind ≡ true
any_test t (name k) q = absurd (q k)
any_test t (star k) q = ap is_star k

module _ {N : Type 0} (same : N → N → Bool) (spelled : N → List ℕ) (alike : List ℕ → List ℕ → Bool)
    (tied : (a b : N) → same a b ≡ alike (spelled a) (spelled b)) (bs : List ℕ) where
  -- l is equal to the label y, or its spelling to the bytes b
  abbrev ByLabel : N → N → Type 0
  ByLabel l y = (w : N) × (◌≡◌ {A = Option N} (Some y) (Some w)) × (same l w ≡ true)

  abbrev ByBytes : N → List ℕ → Type 0
  ByBytes l b = (w : List ℕ) × (◌≡◌ {A = Option (List ℕ)} (Some b) (Some w)) × (alike (spelled l) w ≡ true)

  to_bytes : (l y : N) (b : List ℕ) → spelled y ≡ b → ByLabel l y → ByBytes l b
  to_bytes l y b e (w, listed, equal) =
      let z : y ≡ w = cc in
      (b, refl, ap (alike (spelled l)) (sym e ∙ ap spelled z) ∙ sym (tied l w) ∙ equal)

  to_label : (l y : N) (b : List ℕ) → spelled y ≡ b → ByBytes l b → ByLabel l y
  to_label l y b e (w, listed, equal) =
      let z : b ≡ w = cc in
      (y, refl, tied l y ∙ ap (alike (spelled l)) (e ∙ z) ∙ equal)

  tests_alike : {ns : List ParsedNode} {before after : List N} → NamesIn spelled bs ns before after → Tests ns
      → (l : N) (x : ℕ) → x < length (plain_nodes ns)
      → Meets same (plain_nodes ns) (take (length (plain_nodes ns)) after) l x ↔ Meets alike (plain_nodes ns) (test_names bs ns) (spelled l) x
  tests_alike behind h l x less = absurd (omega arith)
  tests_alike (named {n = n} {y = y} q e d) h l zero less = (
    λ m. ⊎_elim inl (λ k. inr (to_bytes l y (token_bytes bs n.test) e k)) m,
    λ m. ⊎_elim inl (λ k. inr (to_label l y (token_bytes bs n.test) e k)) m,
  )
  tests_alike (unnamed {n = n} q d) h l zero less =
      let any : is_star n.test.kind ≡ true = any_test n.test h.0 q in (λ m. inl any, λ m. inl any)
  tests_alike (named q e d) h l (suc x) less = tests_alike d h.1 l x (omega arith)
  tests_alike (unnamed q d) h l (suc x) less = tests_alike d h.1 l x (omega arith)

  -- where the list of labels has the names of the text, each label meets the same tests as its spelling does
  pub same_tests : (ns : List ParsedNode) (before after : List N) → TextGives bs ns → NamesIn spelled bs ns before after
      → (l : N) (x : ℕ) → x < length (plain_nodes ns)
      → Meets same (plain_nodes ns) (take (length (plain_nodes ns)) after) l x ↔ Meets alike (plain_nodes ns) (test_names bs ns) (spelled l) x
  same_tests ns before after given names = tests_alike names (given_tests given)

-- the bytes are their own spelling
bytes_in : (bs : List ℕ) (ns : List ParsedNode) → Tests ns → NamesIn (λ w. w) bs ns (test_names bs ns) (test_names bs ns)
bytes_in bs [] h = behind
bytes_in bs (n ∷ ns) (name k, h) = named k refl (bytes_in bs ns h)
bytes_in bs (n ∷ ns) (star k, h) = unnamed (λ q. let z : Star ≡ Name = sym k ∙ q in cc) (bytes_in bs ns h)

-- a rule text stands for an expression, which selects the nodes at which the rule occurs with the bytes of its tests for labels
pub selects_by_bytes : (alike : List ℕ → List ℕ → Bool) (bs : List ℕ) (ns : List ParsedNode) → TextGives bs ns
    → ((p : LocationPath) × TextStandsFor bs p) × SelectsAlike alike (λ w. w) alike bs (plain_nodes ns) (test_names bs ns)
selects_by_bytes alike bs ns given =
    text_selects_alike (List ℕ) alike (λ w. w) alike (λ a b. refl) bs ns (test_names bs ns) (test_names bs ns) given
    (bytes_in bs ns (given_tests given))
