-- A listing is done exactly when it is a document.
use Rattle.std.proofs.Common.{◌≡◌, ℕ, suc, ◌+◌, ◌<◌, ◌≤◌, Bool, true, false, List, [], ◌∷◌, ◌++◌, length, drop, None, Option, sym, refl, ap, ◌∙◌, subst, arith, length-drop}
use Prim.Native.Char.{code}
use Rattle.std.proofs.lemmas.List.{append_assoc, append-nil, drop_all}
use Rattle.std.proofs.lemmas.Bool.{both_ways}
use Rattle.sources.specs.declared.event.Event.{Event}
use Rattle.sources.specs.declared.event.Event.TheVariants.{Open, Close}
use Rattle.sources.specs.Events.{MeansOnly}
use Rattle.sources.specs.Forest.{Forest, events_of, nodes_of, post_order}
use Rattle.sources.specs.Forest.Forest.{none, tree}
use Rattle.sources.specs.Nodes.{nodes, closing_order}
use Rattle.sources.proofs.ForestNodes.{forest_nodes, forest_order}
use Rattle.labels.specs.Spelling.{part}
use Rattle.xml.specs.Markup.{markup, IsStart, IsEnd}
use Rattle.xml.specs.Shapes.{reaches, markup_none}
use Rattle.xml.specs.Reading.{depth_limit, Room, Finds, Reads}
use Rattle.xml.specs.Reading.Found.{finishes, opens, closes}
use Rattle.xml.specs.Reading.Finds.{finish, text as text_found, comment as comment_found, instruction as instruction_found, start as start_found, end_tag as end_found}
use Rattle.xml.specs.Reading.Reads.{done, refused, skipped, opened, opened_empty, closed}
use Rattle.xml.specs.Documents.{StartsAt, Misc, Production, Derives, DocumentFrom, Document, DoneAsDocument}
use Rattle.xml.specs.Documents.Misc.{nothing as no_misc, space, comment as comment_misc, instruction as instruction_misc}
use Rattle.xml.specs.Documents.Production.{element, content}
use Rattle.xml.specs.Documents.Derives.{empty_tag, tags, nothing, text, comment, instruction, child}
use Rattle.xml.specs.declared.markup.Markup.{Markup}
use Rattle.xml.specs.declared.markup.Markup.TheVariants.{Nothing, Text, EndTag, Comment, Instruction, StartTag}
use Rattle.xml.specs.declared.fault.XmlFault.{XmlFault}
use Rattle.xml.proofs.Between.{found, Skipped, skips_from, skipped_misc}
use Rattle.xml.proofs.Between.Skipped.{by_text, by_comment, by_instruction}
use Rattle.xml.specs.ScanLaws.{standing, comment_within, instruction_within}
use Rattle.xml.proofs.Once.{once}

-- the events of a tree and of those behind it
tree_events : (w : List ℕ) (inside trees : Forest (List ℕ)) (ds : List (Event (List ℕ))) →
    events_of (tree w inside none) ++ (events_of trees ++ ds) ≡ events_of (tree w inside trees) ++ ds
tree_events w inside trees ds =
    let apart = append_assoc (events_of inside) (Close ∷ []) (events_of trees ++ ds) in
    ap (λ x. Open w ∷ x) (apart ∙ sym (append_assoc (events_of inside) (Close ∷ events_of trees) ds))

-- from the grammar to the reading
module _ (xs : List ℕ) where
  misc_reads : (p q : ℕ) (rooted : Bool) (es : List (Event (List ℕ))) (end : Option XmlFault) →
      Misc xs p q → Reads xs q [] rooted es end → Reads xs p [] rooted es end
  misc_reads p q rooted es end no_misc d = d
  misc_reads p q rooted es end (space b w o) d =
      skipped (found xs p [] rooted Text _ (sym b) (text_found (λ _. w))) (misc_reads (p + 1) q rooted es end o d)
  misc_reads p q rooted es end (comment_misc {r = r} b c o) d =
      skipped (found xs p [] rooted Comment _ (sym b) (comment_found c)) (misc_reads r q rooted es end o d)
  misc_reads p q rooted es end (instruction_misc {r = r} b c o) d =
      skipped (found xs p [] rooted Instruction _ (sym b) (instruction_found c)) (misc_reads r q rooted es end o d)

  abbrev Fit : Production → List (List ℕ) → Bool → Type 0
  Fit element names rooted = names ≡ [] → rooted ≡ false
  Fit content names rooted = (names ≡ [] → ⊥) × (rooted ≡ true)

  not_nil : (w : List ℕ) (ns : List (List ℕ)) → w ∷ ns ≡ [] → ⊥
  not_nil w ns e = let z : ◌≡◌ {A = ℕ} 0 1 = cc in omega arith

  is_reads : (s : Production) (k p q : ℕ) (trees : Forest (List ℕ)) → Derives xs s k p q trees →
      (names : List (List ℕ)) (rooted : Bool) (ds : List (Event (List ℕ))) (end : Option XmlFault) → length names ≡ k → Fit s names rooted →
      Reads xs q names true ds end → Reads xs p names rooted (events_of trees ++ ds) end
  is_reads s k p q trees (empty_tag {n = n} h b i) names rooted ds end l f d =
      opened_empty (found xs p names rooted StartTag _ (sym b) (start_found (record { alone = f; few = omega arith }) i)) d
  is_reads s k p q trees (tags {n = n} {r = r} {s = t} {m = m} {inside = inside} h b i c g j same) names rooted ds end l f d =
      let w = part xs (p + 1) n in
      let e = append_assoc (events_of inside) (Close ∷ []) ds in
      let shut : Reads xs t (w ∷ names) true (Close ∷ ds) end = closed (found xs t (w ∷ names) true EndTag _ (sym g) (end_found same j)) d in
      let all = is_reads content (suc k) r t inside c (w ∷ names) true (Close ∷ ds) end (ap suc l) (not_nil w names, refl) shut in
      opened (found xs p names rooted StartTag _ (sym b) (start_found (record { alone = f; few = omega arith }) i))
      (subst (λ x. Reads xs r (w ∷ names) true x end) (sym e) all)
  is_reads s k p q trees nothing names rooted ds end l f d = subst (λ r. Reads xs p names r ds end) (sym f.1) d
  is_reads s k p q trees (text b c) names rooted ds end l f d =
      skipped (found xs p names rooted Text _ (sym b) (text_found (λ e. absurd (f.0 e)))) (is_reads content k (p + 1) q trees c names rooted ds end l f d)
  is_reads s k p q trees (comment {r = r} b i c) names rooted ds end l f d =
      skipped (found xs p names rooted Comment _ (sym b) (comment_found i)) (is_reads content k r q trees c names rooted ds end l f d)
  is_reads s k p q trees (instruction {r = r} b i c) names rooted ds end l f d =
      skipped (found xs p names rooted Instruction _ (sym b) (instruction_found i)) (is_reads content k r q trees c names rooted ds end l f d)
  is_reads s k p q trees (child {r = r} {w = w} {inside = inside} {behind = others} a c) names rooted ds end l f d =
      subst (λ x. Reads xs p names rooted x end) (tree_events w inside others ds)
      (is_reads element k p r (tree w inside none) a names rooted (events_of others ++ ds) end l (λ e. absurd (f.0 e))
      (is_reads content k r q others c names true ds end l (f.0, refl) d))

-- from the reading to the grammar
pub skips_within : (xs : List ℕ) (p q : ℕ) (names : List (List ℕ)) → Skipped xs p q names → q ≤ length xs
skips_within xs p q names (by_text b e h) = omega (arith, reaches xs p Text b (omega arith))
skips_within xs p q names (by_comment b d) = comment_within xs p q d
skips_within xs p q names (by_instruction b d) = instruction_within xs p q d

pub opens_from : (xs : List ℕ) (p : ℕ) (names : List (List ℕ)) (rooted : Bool) (k : Markup) (n q : ℕ) (e : Bool) →
    StartsAt xs p k → Finds xs p names rooted k (opens n q e) → StartsAt xs p StartTag × Room names rooted × IsStart xs p n q e
opens_from xs p names rooted k n q e b (start_found r i) = (b, r, i)

pub start_within : (xs : List ℕ) (p n q : ℕ) (e : Bool) → IsStart xs p n q e → q ≤ length xs
start_within xs p n q e i = let g = i.ends in omega (arith, standing xs i.close (code ">") i.tag.closes (omega arith))

pub end_within : (xs : List ℕ) (p n q : ℕ) → IsEnd xs p n q → q ≤ length xs
end_within xs p n q i = let g = i.ends in omega (arith, standing xs i.close (code ">") i.tag.closes (omega arith))

pub closes_from : (xs : List ℕ) (p : ℕ) (w : List ℕ) (names : List (List ℕ)) (rooted : Bool) (k : Markup) (q : ℕ) →
    StartsAt xs p k → Finds xs p (w ∷ names) rooted k (closes q) → StartsAt xs p EndTag × ((n : ℕ) × (part xs (p + 2) n ≡ w) × IsEnd xs p n q)
closes_from xs p w names rooted k q b (end_found {n = n} i d) = (b, (n, i, d))

finish_from : (xs : List ℕ) (p : ℕ) (names : List (List ℕ)) (rooted : Bool) (k : Markup) → StartsAt xs p k → Finds xs p names rooted k finishes →
    StartsAt xs p Nothing × (names ≡ []) × (rooted ≡ true)
finish_from xs p names rooted k b (finish a r) = (b, a, r)

-- content up to the end tag of each open element, and then Misc
abbrev Tails : List ℕ → List (List ℕ) → ℕ → List (Event (List ℕ)) → Type 0
Tails xs [] p es = (es ≡ []) × Misc xs p (length xs)
Tails xs (w ∷ ns) p es =
    (s : ℕ) × (m : ℕ) × (q : ℕ) × (trees : Forest (List ℕ)) × (cs : List (Event (List ℕ))) ×
    Derives xs content (suc (length ns)) p s trees × StartsAt xs s EndTag × IsEnd xs s m q ×
    (part xs (s + 2) m ≡ w) × Tails xs ns q cs × (es ≡ events_of trees ++ (Close ∷ cs))

tails_skip : (xs : List ℕ) (p q : ℕ) (names : List (List ℕ)) (es : List (Event (List ℕ))) →
    Skipped xs p q names → Tails xs names q es → Tails xs names p es
tails_skip xs p q [] es s t = (t.0, skipped_misc xs p q (length xs) s t.1)
tails_skip xs p q (w ∷ ns) es (by_text b e h) (s, m, r, trees, cs, c, g, i, same, on, eq) =
    (s, m, r, trees, cs, text b (subst (λ x. Derives xs content (suc (length ns)) x s trees) e c), g, i, same, on, eq)
tails_skip xs p q (w ∷ ns) es (by_comment b d) (s, m, r, trees, cs, c, g, i, same, on, eq) = (s, m, r, trees, cs, comment b d c, g, i, same, on, eq)
tails_skip xs p q (w ∷ ns) es (by_instruction b d) (s, m, r, trees, cs, c, g, i, same, on, eq) = (s, m, r, trees, cs, instruction b d c, g, i, same, on, eq)

-- an element in front
tails_child : (xs : List ℕ) (p q : ℕ) (w v : List ℕ) (ns : List (List ℕ)) (inside : Forest (List ℕ)) (es : List (Event (List ℕ))) →
    Derives xs element (suc (length ns)) p q (tree v inside none) → Tails xs (w ∷ ns) q es → Tails xs (w ∷ ns) p (events_of (tree v inside none) ++ es)
tails_child xs p q w v ns inside es a (s, m, r, trees, cs, c, g, i, same, on, eq) =
    (s, m, r, tree v inside trees, cs, child a c, g, i, same, on, ap (λ x. events_of (tree v inside none) ++ x) eq ∙ tree_events v inside trees (Close ∷ cs))

tails_open : (xs : List ℕ) (p n q : ℕ) (names : List (List ℕ)) (es : List (Event (List ℕ))) →
    StartsAt xs p StartTag → length names < depth_limit → IsStart xs p n q false → (names ≡ [] → ⊥) →
    Tails xs (part xs (p + 1) n ∷ names) q es → Tails xs names p (Open (part xs (p + 1) n) ∷ es)
tails_open xs p n q [] es b few i ne t = absurd (ne refl)
tails_open xs p n q (w ∷ ns) es b few i ne (s, m, r, inside, cs, c, g, j, same, on, eq) =
    let v = part xs (p + 1) n in
    subst (λ x. Tails xs (w ∷ ns) p x) (ap (λ x. Open v ∷ x) (append_assoc (events_of inside) (Close ∷ []) cs ∙ sym eq))
    (tails_child xs p r w v ns inside cs (tags few b i c g j same) on)

tails_empty : (xs : List ℕ) (p n q : ℕ) (names : List (List ℕ)) (es : List (Event (List ℕ))) →
    StartsAt xs p StartTag → length names < depth_limit → IsStart xs p n q true → (names ≡ [] → ⊥) →
    Tails xs names q es → Tails xs names p (Open (part xs (p + 1) n) ∷ Close ∷ es)
tails_empty xs p n q [] es b few i ne t = absurd (ne refl)
tails_empty xs p n q (w ∷ ns) es b few i ne t = tails_child xs p q w (part xs (p + 1) n) ns none es (empty_tag few b i) t

end_tails : (xs : List ℕ) (p : ℕ) (names : List (List ℕ)) → names ≡ [] → StartsAt xs p Nothing → p ≤ length xs → Tails xs names p []
end_tails xs p [] e b h =
    let z = markup_none (drop p xs) b in
    let same : p ≡ length xs = omega (arith, length-drop p xs) in
    (refl, subst (λ x. Misc xs p x) same no_misc)
end_tails xs p (n ∷ ns) e b h = let z : ◌≡◌ {A = ℕ} 0 1 = cc in absurd (omega arith)

tails : (xs : List ℕ) (p : ℕ) (names : List (List ℕ)) (rooted : Bool) (es : List (Event (List ℕ))) (end : Option XmlFault) →
    Reads xs p names rooted es end → end ≡ None → rooted ≡ true → p ≤ length xs → Tails xs names p es
tails xs p names rooted es end (done f) e r h = let a = finish_from xs p names rooted _ refl f in end_tails xs p names a.1 a.0 h
tails xs p names rooted es end (refused g f) e r h = let z : ◌≡◌ {A = ℕ} 0 1 = cc in absurd (omega arith)
tails xs p names rooted es end (skipped {q = q} f d) e r h =
    let s = skips_from xs p names rooted _ q refl f in
    tails_skip xs p q names es s (tails xs q names rooted es end d e r (skips_within xs p q names s))
tails xs p names rooted es end (opened {n = n} {q = q} {es = ds} f d) e r h =
    let s = opens_from xs p names rooted _ n q false refl f in
    let t = tails xs q (part xs (p + 1) n ∷ names) true ds end d e refl (start_within xs p n q false s.2) in
    tails_open xs p n q names ds s.0 s.1.few s.2 (λ nil. both_ways _ (s.1.alone nil) r) t
tails xs p names rooted es end (opened_empty {n = n} {q = q} {es = ds} f d) e r h =
    let s = opens_from xs p names rooted _ n q true refl f in
    let t = tails xs q names true ds end d e refl (start_within xs p n q true s.2) in
    tails_empty xs p n q names ds s.0 s.1.few s.2 (λ nil. both_ways _ (s.1.alone nil) r) t
tails xs p names rooted es end (closed {q = q} {w = w} {names = ns} {es = ds} f d) e r h =
    let s = closes_from xs p w ns rooted _ q refl f in
    let i = s.1.2 in
    let t = tails xs q ns rooted ds end d e r (end_within xs p s.1.0 q i) in
    (p, s.1.0, q, none, ds, nothing, s.0, i, s.1.1, t, refl)

-- a document with these events
abbrev DocumentWith : List ℕ → ℕ → List (Event (List ℕ)) → Type 0
DocumentWith xs p es = (trees : Forest (List ℕ)) × DocumentFrom xs p trees × (es ≡ events_of trees)

document_skip : (xs : List ℕ) (p q : ℕ) (es : List (Event (List ℕ))) → Skipped xs p q [] → DocumentWith xs q es → DocumentWith xs p es
document_skip xs p q es s (trees, d, eq) =
    (trees, record { start = d.start; stop = d.stop; before = skipped_misc xs p q d.start s d.before; root = d.root; behind = d.behind }, eq)

pub told : (xs : List ℕ) (p : ℕ) (names : List (List ℕ)) (rooted : Bool) (es : List (Event (List ℕ))) (end : Option XmlFault) →
    Reads xs p names rooted es end → end ≡ None → names ≡ [] → rooted ≡ false → p ≤ length xs → DocumentWith xs p es
told xs p names rooted es end (done f) e nil r h = absurd (both_ways _ r (finish_from xs p names rooted _ refl f).2)
told xs p names rooted es end (refused g f) e nil r h = let z : ◌≡◌ {A = ℕ} 0 1 = cc in absurd (omega arith)
told xs p names rooted es end (skipped {q = q} f d) e nil r h =
    let s = skips_from xs p names rooted _ q refl f in
    document_skip xs p q es (subst (Skipped xs p q) nil s) (told xs q names rooted es end d e nil r (skips_within xs p q names s))
told xs p names rooted es end (opened {n = n} {q = q} {es = ds} f d) e nil r h =
    let s = opens_from xs p names rooted _ n q false refl f in
    let w = part xs (p + 1) n in
    root_open (subst (λ x. Tails xs (w ∷ x) q ds) nil (tails xs q (w ∷ names) true ds end d e refl (start_within xs p n q false s.2))) s.0 s.2
  where
    root_open : Tails xs (part xs (p + 1) n ∷ []) q ds → StartsAt xs p StartTag → IsStart xs p n q false → DocumentWith xs p (Open (part xs (p + 1) n) ∷ ds)
    root_open (s, m, t, inside, cs, c, g, i, same, on, eq) b j =
        let w = part xs (p + 1) n in
        let all : Open w ∷ ds ≡ events_of (tree w inside none) = ap (λ x. Open w ∷ x) (eq ∙ ap (λ x. events_of inside ++ (Close ∷ x)) on.0) in
        (tree w inside none, record { start = p; stop = t; before = no_misc; root = tags (omega arith) b j c g i same; behind = on.1 }, all)
told xs p names rooted es end (opened_empty {n = n} {q = q} {es = ds} f d) e nil r h =
    let s = opens_from xs p names rooted _ n q true refl f in
    let t : Tails xs [] q ds = subst (λ x. Tails xs x q ds) nil (tails xs q names true ds end d e refl (start_within xs p n q true s.2)) in
    let w = part xs (p + 1) n in
    (tree w none none, record { start = p; stop = q; before = no_misc; root = empty_tag (omega arith) s.0 s.2; behind = t.1 }, ap (λ x. Open w ∷ Close ∷ x) t.0)
told xs p names rooted es end (closed f d) e nil r h = let z : ◌≡◌ {A = ℕ} 0 1 = cc in absurd (omega arith)

pub reads_from : (xs : List ℕ) (p : ℕ) (trees : Forest (List ℕ)) → DocumentFrom xs p trees → Reads xs p [] false (events_of trees) None
reads_from xs p trees d =
    let shut : Nothing ≡ markup (drop (length xs) xs) = sym (ap markup (drop_all (length xs) xs (omega arith))) in
    let last : Reads xs (length xs) [] true [] None = done (found xs (length xs) [] true Nothing _ shut (finish refl refl)) in
    let after = misc_reads xs d.stop (length xs) true [] None d.behind last in
    let root = is_reads xs element 0 d.start d.stop trees d.root [] false [] None refl (λ _. refl) after in
    misc_reads xs p d.start false (events_of trees) None d.before (subst (λ x. Reads xs d.start [] false x None) (append-nil (events_of trees)) root)

-- what is promised of a meaning
module _ (xs : List ℕ) (es : List (Event (List ℕ))) (end : Option XmlFault) (d : Reads xs 0 [] false es end) where
  pub only_meaning : MeansOnly (Reads xs 0 [] false) es end
  only_meaning = record { means = d; only = λ ds to r. once xs 0 [] false ds to r es end d }

  pub done_document : DoneAsDocument xs es end
  done_document = record { only_documents = only; all_documents = all }
    where
      only : end ≡ None → (trees : Forest (List ℕ)) × Document xs trees × (es ≡ events_of trees)
          × (nodes es ≡ nodes_of None 0 trees) × (closing_order es ≡ post_order 0 trees)
      only e =
          let (trees, g, eq) = told xs 0 [] false es end d e refl refl (omega arith) in
          (trees, g, eq, ap nodes eq ∙ forest_nodes trees, ap closing_order eq ∙ forest_order trees)

      all : (trees : Forest (List ℕ)) → Document xs trees → (end ≡ None) × (es ≡ events_of trees)
      all trees g = let o = once xs 0 [] false es end d (events_of trees) None (reads_from xs 0 trees g) in (o.1, o.0)
