-- The nodes of a source, read event by event.
use Rattle.std.proofs.Common.{◌≡◌, ℕ, suc, ◌-◌, List, [], ◌∷◌, ◌++◌, length, reverse, slice_get, Some, Option, refl, sym, ap, ap₂, ◌∙◌, subst, append_assoc, arith}
use Rattle.std.proofs.Math.Seq.{get_or-append_seam}
use Rattle.std.proofs.lemmas.List.{reverse-append, reverse-reverse, length_push, map-append}
use Rattle.std.proofs.lemmas.Option.{slice_get-get_or}
use Rattle.labels.specs.declared.name.Name.{Name}
use Rattle.sources.specs.declared.event.Event.{Event}
use Rattle.sources.specs.declared.event.Event.TheVariants.{Open}
use Rattle.sources.specs.Nodes.{innermost, nodes_from}
use Rattle.rules.specs.Embedding.{Nodes}
use Rattle.compare.specs.declared.node.Node.{Node}
use Rattle.compare.specs.Paths.{entries}

pub last_of : {X : Type 0} (xs : List X) (x : X) → slice_get (xs ++ x ∷ []) (length (xs ++ x ∷ []) - 1) ≡ Some x
last_of xs x =
    let e : length (xs ++ x ∷ []) - 1 ≡ length xs = omega (arith, length_push xs x) in
    ap (slice_get (xs ++ x ∷ [])) e
    ∙ slice_get-get_or (xs ++ x ∷ []) (length xs) x (omega (arith, length_push xs x))
    ∙ ap (λ z. Some z) (get_or-append_seam xs x [] x)

-- the node that was opened last is the innermost
last_back : (vs : List ℕ) → slice_get (reverse vs) (length (reverse vs) - 1) ≡ innermost vs
last_back [] = refl
last_back (v ∷ vs) =
    subst (λ ws. slice_get ws (length ws - 1) ≡ Some v) (sym (reverse-append (v ∷ []) vs)) (last_of (reverse vs) v)

last_innermost : (vs : List ℕ) → slice_get vs (length vs - 1) ≡ innermost (reverse vs)
last_innermost vs = subst (λ ws. slice_get ws (length ws - 1) ≡ innermost (reverse vs)) (reverse-reverse vs) (last_back (reverse vs))

-- a node is opened
pub opened : (ns ns' : List Node) (path path' : List ℕ) (p : Option ℕ) (name : Name) (es : List (Event Name))
    → ns' ≡ ns ++ record { parent = p; name = name } ∷ [] → path' ≡ path ++ length ns ∷ [] → p ≡ slice_get path (length path - 1)
    → entries ns' ++ nodes_from (length ns') (reverse path') es ≡ entries ns ++ nodes_from (length ns) (reverse path) (Open name ∷ es)
opened ns ns' path path' p name es e f q =
    let n = length ns in
    let counted : length ns' ≡ suc n = ap length e ∙ length_push ns _ ∙ omega arith in
    let turned : reverse path' ≡ n ∷ reverse path = ap reverse f ∙ reverse-append path (n ∷ []) in
    let more : entries ns' ≡ entries ns ++ (p, name) ∷ [] = ap entries e ∙ map-append (λ m. (m.parent, m.name)) ns _ in
    ap₂ (λ (xs ys : Nodes Name). xs ++ ys) more (ap₂ (λ (k : ℕ) (vs : List ℕ). nodes_from k vs es) counted turned)
    ∙ append_assoc (entries ns) ((p, name) ∷ []) (nodes_from (suc n) (n ∷ reverse path) es)
    ∙ ap (λ (o : Option ℕ). entries ns ++ (o, name) ∷ nodes_from (suc n) (n ∷ reverse path) es) (q ∙ last_innermost path)
