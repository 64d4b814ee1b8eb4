-- The examples, by the machine. Assumes nothing.
use Rattle.std.proofs.Common.{codes, refl, inl, arith}
use Rattle.rules.specs.declared.refusal.TextRefusal.TheVariants.{NotAllowed}
use Rattle.rules.specs.Grammar.{name, text, step, predicate, none, descendant, last}
use Rattle.rules.specs.Expression.{stands_for}
use Rattle.rules.specs.Texts.{unfit}
use Rattle.rules.specs.Examples.{WorkedTexts}
use Rattle.rules.proofs.Words.{lexes}
use Rattle.rules.proofs.Answering.{fit, accepting, turns_away}

pub worked : WorkedTexts
worked = record {
  two_predicates = accepting _ _ (fit (codes "//a[b/c][ .//* ]") (λ e. omega arith) (omega arith)) refl;
  longest_name = accepting _ _ (fit (codes "//a[b.//c]") (λ e. omega arith) (omega arith)) refl;
  plain_words = accepting _ _ (fit (codes "//or[div][text]") (λ e. omega arith) (omega arith)) refl;
  meaning = stands_for (lexes (codes "//a[.//b]"))
      (text refl (step (name refl) (predicate refl (descendant refl refl (step (name refl) none) last) refl none)) refl);
  empty = unfit (inl refl);
  single_slash = turns_away _ (NotAllowed 0) (fit (codes "/a") (λ e. omega arith) (omega arith)) refl;
  two_slashes = turns_away _ (NotAllowed 0) (fit (codes "/ /a") (λ e. omega arith) (omega arith)) refl;
  no_slash = turns_away _ (NotAllowed 0) (fit (codes "a") (λ e. omega arith) (omega arith)) refl;
  stray = turns_away _ (NotAllowed 3) (fit (codes "//a$") (λ e. omega arith) (omega arith)) refl;
  step_behind = turns_away _ (NotAllowed 3) (fit (codes "//a/b") (λ e. omega arith) (omega arith)) refl;
  closed = turns_away _ (NotAllowed 3) (fit (codes "//a]") (λ e. omega arith) (omega arith)) refl;
  second_name = turns_away _ (NotAllowed 4) (fit (codes "//a b") (λ e. omega arith) (omega arith)) refl;
  double_slash_inside = turns_away _ (NotAllowed 4) (fit (codes "//a[//b]") (λ e. omega arith) (omega arith)) refl;
  dot_and_slash = turns_away _ (NotAllowed 5) (fit (codes "//a[./b]") (λ e. omega arith) (omega arith)) refl;
  two_dots = turns_away _ (NotAllowed 5) (fit (codes "//a[..//b]") (λ e. omega arith) (omega arith)) refl;
  unclosed = turns_away _ (NotAllowed 5) (fit (codes "//a[b") (λ e. omega arith) (omega arith)) refl;
}
