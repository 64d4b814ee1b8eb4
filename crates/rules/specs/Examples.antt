-- Examples of rule texts, as the definitions judge them.
use Rattle.std.specs.Prelude.{[], ◌∷◌, codes}
use Rattle.rules.specs.declared.syntax.Kind.TheVariants.{Star, Name}
use Rattle.rules.specs.declared.node.Edge.TheVariants.{Child, Descendant}
use Rattle.rules.specs.Lexing.{a_token}
use Rattle.rules.specs.Grammar.{node}
use Rattle.rules.specs.XPath as xpath
use Rattle.rules.specs.XPath.{only, first}
use Rattle.rules.specs.Expression.{here, anywhere, TextStandsFor}
use Rattle.rules.specs.Texts.{TextGives, TextRefused}

pub record WorkedTexts : Type 0 where
  -- the root a, its child b with a child c, and a second child b with a descendant of any name
  pub two_predicates : TextGives (codes "//a[b/c][ .//* ]")
      (node 0 Child (a_token Name 2 1) ∷ node 0 Child (a_token Name 4 1) ∷ node 1 Child (a_token Name 6 1) ∷ node 0 Descendant (a_token Star 13 1) ∷ [])
  -- the name `b.`, and not `b` and a dot
  pub longest_name : TextGives (codes "//a[b.//c]")
      (node 0 Child (a_token Name 2 1) ∷ node 0 Child (a_token Name 4 2) ∷ node 1 Descendant (a_token Name 8 1) ∷ [])
  -- words of XPath are names like others
  pub plain_words : TextGives (codes "//or[div][text]")
      (node 0 Child (a_token Name 2 2) ∷ node 0 Child (a_token Name 5 3) ∷ node 0 Child (a_token Name 10 4) ∷ [])
  -- //child::a[self::node()//child::b]
  pub meaning : TextStandsFor (codes "//a[.//b]")
      (first anywhere (only (xpath.step xpath.child (xpath.name (codes "a"))
      (xpath.also (first here (first anywhere (only (xpath.step xpath.child (xpath.name (codes "b")) xpath.none)))) xpath.none))))
  pub empty : TextRefused [] (10, 0)
  pub single_slash : TextRefused (codes "/a") (11, 0)
  pub two_slashes : TextRefused (codes "/ /a") (11, 0)
  pub no_slash : TextRefused (codes "a") (11, 0)
  pub stray : TextRefused (codes "//a$") (11, 3)
  pub step_behind : TextRefused (codes "//a/b") (11, 3)
  pub closed : TextRefused (codes "//a]") (11, 3)
  pub second_name : TextRefused (codes "//a b") (11, 4)
  pub double_slash_inside : TextRefused (codes "//a[//b]") (11, 4)
  pub dot_and_slash : TextRefused (codes "//a[./b]") (11, 5)
  pub two_dots : TextRefused (codes "//a[..//b]") (11, 5)
  pub unclosed : TextRefused (codes "//a[b") (11, 5)
