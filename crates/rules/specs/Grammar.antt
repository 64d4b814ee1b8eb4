-- The grammar of rule texts: which lists of tokens are rule texts, and which rule nodes they give.
use Rattle.std.specs.Prelude.{◌≡◌, ℕ, List, [], ◌∷◌, ◌++◌, length}
use Rattle.rules.specs.declared.syntax.Kind.TheVariants.{DoubleSlash, Slash, Dot, Open, Close, Star, Name, End}
use Rattle.rules.specs.declared.syntax.Token.{Token}
use Rattle.rules.specs.declared.node.Edge.{Edge}
use Rattle.rules.specs.declared.node.Edge.TheVariants.{Child, Descendant}
use Rattle.rules.specs.declared.syntax.ParsedNode.{ParsedNode}

-- a test is a name or `*`
pub data Test : Token → Type 0 where
  name : {t : Token} → t.kind ≡ Name → Test t
  star : {t : Token} → t.kind ≡ Star → Test t

-- what stands between two steps, and the edge that it means
pub data Between : Token → Edge → Type 0 where
  slash : {t : Token} → t.kind ≡ Slash → Between t Child
  double_slash : {t : Token} → t.kind ≡ DoubleSlash → Between t Descendant

abbrev pub node : ℕ → Edge → Token → ParsedNode
node parent edge t = record { parent = parent; edge = edge; test = t }

-- Each relation says that such a part stands at the front of the tokens ts, with rest behind it;
-- the rule nodes before it are ns, and with its own, numbered in the order of their tests, ms.
mutual
  -- a step under the rule node `parent`
  pub data Step : ℕ → Edge → List ParsedNode → List Token → List ParsedNode → List Token → Type 0 where
    step : {p : ℕ} {e : Edge} {t : Token} {ns ms : List ParsedNode} {ts rest : List Token}
        → Test t
        → Predicates (length ns) (ns ++ (node p e t ∷ [])) ts ms rest
        → Step p e ns (t ∷ ts) ms rest

  -- predicates, if any, of the step n
  pub data Predicates : ℕ → List ParsedNode → List Token → List ParsedNode → List Token → Type 0 where
    none : {n : ℕ} {ns : List ParsedNode} {ts : List Token} → Predicates n ns ts ns ts
    predicate : {n : ℕ} {o c : Token} {ns ks ms : List ParsedNode} {ts us rest : List Token}
        → o.kind ≡ Open
        → Path n ns ts ks (c ∷ us)
        → c.kind ≡ Close
        → Predicates n ks us ms rest
        → Predicates n ns (o ∷ ts) ms rest

  -- a path in a predicate of the step n
  pub data Path : ℕ → List ParsedNode → List Token → List ParsedNode → List Token → Type 0 where
    child : {n : ℕ} {ns ks ms : List ParsedNode} {ts us rest : List Token}
        → Step n Child ns ts ks us
        → Further (length ns) ks us ms rest
        → Path n ns ts ms rest
    descendant : {n : ℕ} {d s : Token} {ns ks ms : List ParsedNode} {ts us rest : List Token}
        → d.kind ≡ Dot
        → s.kind ≡ DoubleSlash
        → Step n Descendant ns ts ks us
        → Further (length ns) ks us ms rest
        → Path n ns (d ∷ s ∷ ts) ms rest

  -- further steps, if any, behind the step n of a path
  pub data Further : ℕ → List ParsedNode → List Token → List ParsedNode → List Token → Type 0 where
    last : {n : ℕ} {ns : List ParsedNode} {ts : List Token} → Further n ns ts ns ts
    further : {n : ℕ} {e : Edge} {s : Token} {ns ks ms : List ParsedNode} {ts us rest : List Token}
        → Between s e
        → Step n e ns ts ks us
        → Further (length ns) ks us ms rest
        → Further n ns (s ∷ ts) ms rest

-- a rule text, of which the end is the last token
pub data Text : List Token → List ParsedNode → Type 0 where
  text : {s e : Token} {ns : List ParsedNode} {ts : List Token}
      → s.kind ≡ DoubleSlash
      → Step 0 Child [] ts ns (e ∷ [])
      → e.kind ≡ End
      → Text (s ∷ ts) ns

-- the tokens ts begin some rule text
abbrev pub Begins : List Token → Type 0
Begins ts = (rest : List Token) × (ns : List ParsedNode) × Text (ts ++ rest) ns
