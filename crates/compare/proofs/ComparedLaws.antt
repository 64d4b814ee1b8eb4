-- Two listings, compared by what a rule selects from them.
use Rattle.std.proofs.Common.{◌≡◌, ℕ, ◌<◌, min, Bool, true, false, List, [], length, map, take, Some, None, Ok, Err, Option, Decides, refl, sym, ap, ◌∙◌, subst, arith, ◌≢◌}
use Rattle.std.specs.List.{slice_get}
use Rattle.std.specs.Str.{bytes_eq}
use Rattle.std.specs.Cmp.{IsEquivalence}
use Rattle.std.proofs.lemmas.Cmp.{nat_list_eq_equiv}
use Rattle.std.proofs.lemmas.Slice.Eq.{bytes_eq-Decides}
use Rattle.rules.specs.declared.syntax.ParsedNode.{ParsedNode}
use Rattle.std.proofs.lemmas.List.{length-map, take_min}
use Rattle.labels.specs.Names.{bytes_of}
use Rattle.labels.specs.declared.name.Name.{Name}
use Rattle.rules.specs.Embedding.{Nodes, ParentsFirst}
use Rattle.rules.specs.RuleNodes.{rule_nodes, plain_nodes}
use Rattle.rules.specs.TestNames.{test_names}
use Rattle.runs.specs.Picks.{In, Once}
use Rattle.sources.specs.declared.event.Event.{Event}
use Rattle.sources.specs.Events.{MeansOnly}
use Rattle.sources.specs.Nodes.{nodes}
use Rattle.selection.specs.Answers.{Answer}
use Rattle.selection.specs.Selection.{Selection}
use Rattle.selection.specs.Pairing.{partner, Pairing, SameReport}
use Rattle.selection.proofs.ClosingOrder.{parents_first}
use Rattle.selection.proofs.Mapped.{relabelled, there, back, nodes_from_map}
use Rattle.selection.proofs.Pairs.{paired_alike, reported_within, reported_once}
use Rattle.xml.specs.Reading.{Reads}
use Rattle.xml.specs.Means.{xml_events, xml_ending, xml_spelled, spelled}
use Rattle.xml.specs.declared.fault.XmlFault.{XmlFault}
use Rattle.xml.specs.declared.reader.Xml.{Xml}
use Rattle.reports.specs.declared.question.Question.{Question}
use Rattle.reports.specs.declared.refusal.Refusal.{Refusal}
use Rattle.reports.specs.Parts.{Splits}
use Rattle.reports.specs.Reports.{QuestionOf, SelectedBy}
use Rattle.reports.proofs.ReportLaws.{selected_by, concludes_ok}
use Rattle.compare.specs.declared.node.Node.{Node}
use Rattle.compare.specs.declared.side.Side.{Side}
use Rattle.compare.specs.Paths.{entries, Agree}
use Rattle.compare.specs.Compared.{spelled_entries, SideOf, Agreement, Compared}
use Rattle.compare.proofs.Paired.{paired_agree}

-- the nodes of a reader are those of its listing
pub table_of : (listing : List ℕ) (s : Xml) (ns : List Node) → MeansOnly (Reads listing 0 [] false) (xml_spelled s) (xml_ending s)
    → map spelled (xml_events s) ≡ xml_spelled s → entries ns ≡ nodes (xml_events s)
    → (es : List (Event (List ℕ))) (end : Option XmlFault) → Reads listing 0 [] false es end → spelled_entries ns ≡ nodes es
table_of listing s ns meaning back_is table es end reads =
    ap (map (relabelled bytes_of)) table
    ∙ sym (nodes_from_map bytes_of spelled (λ l. refl) refl 0 [] (xml_events s))
    ∙ ap nodes back_is ∙ sym (ap nodes (meaning.only es end reads).0)

-- when the selections are judged
module _ (first second : Side) (ones twos : List ℕ) where
  pub judged_by : (u w : Unit {0}) (b : Bool) (table₁ table₂ : List Node) (k₁ k₂ : ℕ) → first.report.verdict ≡ Ok u → second.report.verdict ≡ Ok w
      → table₁ ≡ first.nodes.items → table₂ ≡ second.nodes.items → k₁ ≡ min first.report.reported (length ones) → k₂ ≡ min second.report.reported (length twos)
      → Decides b (Agree (entries table₁) (take k₁ ones) (entries table₂) (take k₂ twos)) → Agreement first ones second twos (Some b)
  judged_by u w b table₁ table₂ k₁ k₂ v₁ v₂ t₁ t₂ e₁ e₂ d =
      let f₁ : take k₁ ones ≡ take first.report.reported ones = ap (λ (k : ℕ). take k ones) e₁ ∙ take_min first.report.reported ones in
      let f₂ : take k₂ twos ≡ take second.report.reported twos = ap (λ (k : ℕ). take k twos) e₂ ∙ take_min second.report.reported twos in
      Agreement.judged b v₁ v₂ (rw (t₁, f₁, t₂, f₂) at d)

  pub first_refused : (r : Refusal) → first.report.verdict ≡ Err r → Agreement first ones second twos None
  first_refused r e = Agreement.unjudged (λ v w. let z : Err r ≡ Ok tt = sym e ∙ v in let y : ⊥ = cc in y)

  pub second_refused : (r : Refusal) → second.report.verdict ≡ Err r → Agreement first ones second twos None
  second_refused r e = Agreement.unjudged (λ v w. let z : Err r ≡ Ok tt = sym e ∙ w in let y : ⊥ = cc in y)

-- the equality of bytes
bytes_same : (a b : List ℕ) → bytes_eq a b ≡ true → a ≡ b
bytes_same a b = (bytes_eq-Decides a b).0

bytes_equivalence : IsEquivalence bytes_eq
bytes_equivalence = nat_list_eq_equiv

-- nodes with names, of which those of a listing are the bytes
pub ordered : (ns : Nodes Name) (xs : List (Event (List ℕ))) → map (relabelled bytes_of) ns ≡ nodes xs → ParentsFirst ns
ordered ns xs e v u a h = parents_first xs v u (bytes_of a) (ap (λ (ks : Nodes (List ℕ)). slice_get ks v) (sym e) ∙ there bytes_of ns v (Some u) a h)

pub count : (ns : Nodes Name) (xs : List (Event (List ℕ))) → map (relabelled bytes_of) ns ≡ nodes xs → length ns ≡ length (nodes xs)
count ns xs e = sym (length-map ns (relabelled bytes_of)) ∙ ap length e

-- of two listings
module _ (one two : Nodes Name) (es ds : List (Event (List ℕ)))
    (nodes₁ : map (relabelled bytes_of) one ≡ nodes es) (nodes₂ : map (relabelled bytes_of) two ≡ nodes ds) where
  abbrev same_bytes : Name → Name → Bool
  same_bytes a b = bytes_eq (bytes_of a) (bytes_of b)

  pairing : (f g : ℕ → ℕ) → Pairing bytes_eq (nodes es) (nodes ds) f g → Pairing same_bytes one two f g
  pairing f g p =
      let c₁ = count one es nodes₁ in
      let c₂ = count two ds nodes₂ in
      record {
        there = λ v h. let k : f v < length (nodes ds) = p.there v (omega arith) in omega arith;
        back = λ w h. let k : g w < length (nodes es) = p.back w (omega arith) in omega arith;
        there_back = λ v h. p.there_back v (omega arith);
        back_there = λ w h. p.back_there w (omega arith);
        kept = λ v q a h.
            let k = p.kept v q (bytes_of a) (ap (λ (ks : Nodes (List ℕ)). slice_get ks v) (sym nodes₁) ∙ there bytes_of one v q a h) in
            let r = back bytes_of two (f v) (partner f q) k.0 (ap (λ (ks : Nodes (List ℕ)). slice_get ks (f v)) nodes₂ ∙ k.1) in
            (r.0, r.1, subst (λ w. bytes_eq (bytes_of a) w ≡ true) (sym r.2) k.2);
      }

  agrees : (f g : ℕ → ℕ) → Pairing bytes_eq (nodes es) (nodes ds) f g → (ones twos : List ℕ) → SameReport f (length (nodes es)) ones twos
      → ((u : ℕ) → In u ones → u < length (nodes es)) → ((w : ℕ) → In w twos → w < length (nodes ds)) → Once ones → Once twos → Agree one ones two twos
  agrees f g p ones twos r low₁ low₂ once₁ once₂ =
      let c₁ = count one es nodes₁ in
      let c₂ = count two ds nodes₂ in
      let R : ℕ → Type 0 = λ k. SameReport f k ones twos in
      paired_agree same_bytes (λ a b e. bytes_same (bytes_of a) (bytes_of b) e) one two f g (pairing f g p) (ordered one es nodes₁) (ordered two ds nodes₂)
      ones twos (subst R (sym c₁) r)
      (λ u i. let l : u < length (nodes es) = low₁ u i in omega arith)
      (λ w i. let l : w < length (nodes ds) = low₂ w i in omega arith) once₁ once₂

module _ (line : List ℕ) (tests : List ParsedNode) (one two before₁ before₂ after₁ after₂ : List ℕ) (first second : Side)
    (by₁ : SelectedBy line tests one before₁ first.report after₁) (nodes₁ : spelled_entries first.nodes.items ≡ nodes by₁.events)
    (by₂ : SelectedBy line tests two before₂ second.report after₂) (nodes₂ : spelled_entries second.nodes.items ≡ nodes by₂.events) where
  pub paired : (answer : Option Bool) → Agreement first after₁ second after₂ answer → (f g : ℕ → ℕ) → Pairing bytes_eq (nodes by₁.events) (nodes by₂.events) f g
      → answer ≢ Some false
  paired answer (Agreement.unjudged n) f g p e = cc
  paired answer (Agreement.judged b v₁ v₂ d) f g p e =
      let a₁ = concludes_ok (length one) by₁.concludes v₁ in
      let a₂ = concludes_ok (length two) by₂.concludes v₂ in
      let r = paired_alike bytes_eq bytes_equivalence (plain_nodes tests) (test_names line tests) by₁.events by₂.events by₁.ending by₂.ending before₁ after₁ before₂ after₂
      by₁.left by₂.left by₁.answer by₂.answer by₁.selection by₂.selection f g p first.report.reported second.report.reported a₁ a₂ in
      let g₁ = agrees (entries first.nodes.items) (entries second.nodes.items) by₁.events by₂.events nodes₁ nodes₂ f g p (take first.report.reported after₁) (take second.report.reported after₂) r.1
      (reported_within bytes_eq bytes_equivalence (plain_nodes tests) (test_names line tests) by₁.events by₁.ending before₁ after₁ by₁.left by₁.answer by₁.selection first.report.reported a₁)
      (reported_within bytes_eq bytes_equivalence (plain_nodes tests) (test_names line tests) by₂.events by₂.ending before₂ after₂ by₂.left by₂.answer by₂.selection second.report.reported a₂)
      (reported_once bytes_eq bytes_equivalence (plain_nodes tests) (test_names line tests) by₁.events by₁.ending before₁ after₁ by₁.left by₁.answer by₁.selection first.report.reported a₁)
      (reported_once bytes_eq bytes_equivalence (plain_nodes tests) (test_names line tests) by₂.events by₂.ending before₂ after₂ by₂.left by₂.answer by₂.selection second.report.reported a₂) in
      let t : b ≡ true = d.1 g₁ in
      let z : b ≡ false = cc in
      let y : true ≡ false = sym t ∙ z in
      let x : ⊥ = cc in x

-- the whole, by its parts
module _ (same : Name → Name → Bool) (tied : (a b : Name) → same a b ≡ bytes_eq (bytes_of a) (bytes_of b)) (bs : List ℕ) (q : Question) (asked : QuestionOf bs q)
    (labels : List Name) (tests : labels ≡ take (length (rule_nodes q.rule)) q.names) (one two : List ℕ) (split : Splits 0 q.rest.now one two) (s₁ s₂ : Xml)
    (meaning₁ : MeansOnly (Reads one 0 [] false) (xml_spelled s₁) (xml_ending s₁)) (back₁ : map spelled (xml_events s₁) ≡ xml_spelled s₁)
    (meaning₂ : MeansOnly (Reads two 0 [] false) (xml_spelled s₂) (xml_ending s₂)) (back₂ : map spelled (xml_events s₂) ≡ xml_spelled s₂) where
  pub compared : (before₁ after₁ before₂ after₂ : List ℕ) (a₁ a₂ : Answer XmlFault) (left₁ left₂ : List (Event Name)) (first second : Side) (agreement : Option Bool)
      → Selection same (rule_nodes q.rule) labels (xml_events s₁) (xml_ending s₁) before₁ a₁ after₁ left₁
      → Selection same (rule_nodes q.rule) labels (xml_events s₂) (xml_ending s₂) before₂ a₂ after₂ left₂
      → SideOf one a₁ first → SideOf two a₂ second → Agreement first after₁ second after₂ agreement
      → Compared bs before₁ before₂ (record { first = first; second = second; agreement = agreement }) after₁ after₂
  compared before₁ after₁ before₂ after₂ a₁ a₂ left₁ left₂ first second agreement sel₁ sel₂ side₁ side₂ judged =
      let by₁ = selected_by same tied bs q asked one s₁ labels before₁ after₁ a₁ left₁ first.report meaning₁ back₁ tests sel₁ side₁.concludes in
      let by₂ = selected_by same tied bs q asked two s₂ labels before₂ after₂ a₂ left₂ second.report meaning₂ back₂ tests sel₂ side₂.concludes in
      let nodes₁ = side₁.table by₁.events by₁.ending by₁.reads in
      let nodes₂ = side₂.table by₂.events by₂.ending by₂.reads in
      record {
        line = asked.line;
        tests = asked.nodes;
        rest = q.rest.now;
        asks = asked.asks;
        one = one;
        two = two;
        split = split;
        first = by₁;
        first_nodes = nodes₁;
        second = by₂;
        second_nodes = nodes₂;
        agreement = judged;
        paired = paired asked.line asked.nodes one two before₁ before₂ after₁ after₂ first second by₁ nodes₁ by₂ nodes₂ agreement judged;
      }

pub ruleset agreement_laws = (judged_by, first_refused, second_refused)
