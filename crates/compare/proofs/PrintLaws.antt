-- What is printed.
use Rattle.std.proofs.Common.{◌≡◌, ℕ, zero, suc, ◌+◌, ◌<◌, ◌≤◌, Bool, List, [], ◌∷◌, ◌++◌, length, get_or, take, codes, refl, sym, ap, ◌∙◌, subst, inl, inr, append_assoc, append-nil, arith}
use Rattle.std.proofs.lemmas.List.{take_all}
use Rattle.labels.specs.declared.name.Name.{Name}
use Rattle.rules.specs.Embedding.{Nodes}
use Rattle.runs.specs.Picks.{In}
use Rattle.reports.specs.Printed.{report_text}
use Rattle.compare.specs.declared.node.Node.{Node}
use Rattle.compare.specs.declared.side.Side.{Side}
use Rattle.compare.specs.declared.comparison.Comparison.{Comparison}
use Rattle.compare.specs.Paths.{entries, PathText, Pushed, HasPath, HavePaths}
use Rattle.compare.specs.Printed.{PathLines, SideText, ComparisonText, verdict_line}
use Rattle.compare.specs.Adding.{LineAdded, LinesAdded, SideAdded}
use Rattle.compare.proofs.AgreeLaws.{come}

module _ (nodes : Nodes Name) where
  -- one more line
  line_more : (vs : List ℕ) (v : ℕ) (text path : List ℕ) → PathLines nodes vs text → PathText nodes v path
      → PathLines nodes (vs ++ v ∷ []) (text ++ path ++ codes "\n")
  line_more [] v _ path PathLines.none p =
      subst (PathLines nodes (v ∷ [])) (append-nil (path ++ codes "\n")) (PathLines.line p PathLines.none)
  line_more (u ∷ us) v _ path (PathLines.line {path = q} {text = t} k l) p =
      let e : q ++ codes "\n" ++ (t ++ path ++ codes "\n") ≡ q ++ codes "\n" ++ t ++ path ++ codes "\n" = simp append_assoc in
      subst (PathLines nodes (u ∷ us ++ v ∷ [])) e (PathLines.line k (line_more us v t path l p))

  in_at : (vs : List ℕ) (i : ℕ) → i < length vs → In (get_or vs i 0) vs
  in_at [] i l = absurd (omega arith)
  in_at (v ∷ vs) zero l = inl refl
  in_at (v ∷ vs) (suc i) l = inr (in_at vs i (omega arith))

  pub no_lines : (before : List ℕ) → LinesAdded nodes [] before before
  no_lines before = LinesAdded.lines_added PathLines.none (sym (append-nil before))

  module _ (numbers before : List ℕ) where
    pub all_lines : (i : ℕ) (text : List ℕ) → LinesAdded nodes (take i numbers) before text → length numbers ≤ i
        → LinesAdded nodes numbers before text
    all_lines i text a l = subst (λ vs. LinesAdded nodes vs before text) (take_all i numbers l) a

    pub next_line : (i : ℕ) (text after : List ℕ) → LinesAdded nodes (take i numbers) before text → i < length numbers
        → LineAdded nodes (get_or numbers i 0) text after → LinesAdded nodes (take (i + 1) numbers) before after
    next_line i text after (LinesAdded.lines_added {lines = t} lines e) l (LineAdded.line_added {path = path} p f) =
        let all : after ≡ before ++ (t ++ path ++ codes "\n") = f ∙ ap (λ xs. xs ++ path ++ codes "\n") e ∙ simp append_assoc in
        LinesAdded.lines_added
        (subst (λ vs. PathLines nodes vs (t ++ path ++ codes "\n")) (sym (come numbers i l)) (line_more (take i numbers) (get_or numbers i 0) t path lines p))
        all

    pub has_path_at : (i : ℕ) → HavePaths nodes numbers → i < length numbers → HasPath nodes (get_or numbers i 0)
    has_path_at i have l = have.each (get_or numbers i 0) (in_at numbers i l)

pub line_added : (nodes : Nodes Name) (v : ℕ) (before pushed after : List ℕ) (whole : Bool) → HasPath nodes v → Pushed nodes v before whole pushed
    → after ≡ pushed ++ 10 ∷ [] → LineAdded nodes v before after
line_added nodes v before pushed after whole has (Pushed.pushed {t = path} p f) g = LineAdded.line_added p (g ∙ ap (λ xs. xs ++ codes "\n") f)
line_added nodes v before pushed after whole has (Pushed.no_path none f) g = absurd (none has.text has.path)

pub ruleset lines_laws = (no_lines, all_lines, next_line, has_path_at)

-- a side
pub side_added : (side : Side) (numbers reported : List ℕ) (ns : List Node) (before paths after : List ℕ) → LinesAdded (entries ns) reported before paths
    → ns ≡ side.nodes.items → reported ≡ take side.report.reported numbers → after ≡ paths ++ (report_text side.report ++ codes "\n")
    → SideAdded side numbers before after
side_added side numbers reported ns before paths after (LinesAdded.lines_added {lines = t} lines f) e m h =
    SideAdded.side_added
    (SideText.side_text (rw (e, m) at lines))
    (h ∙ ap (λ xs. xs ++ (report_text side.report ++ codes "\n")) f ∙ simp append_assoc)

-- both sides
pub both_texts : (c : Comparison) (ones twos first second whole verdict : List ℕ) → SideAdded c.first ones [] first
    → SideAdded c.second twos first second → verdict ≡ verdict_line c.agreement → whole ≡ second ++ verdict → ComparisonText c ones twos whole
both_texts c ones twos first second whole verdict (SideAdded.side_added {text = s} a e) (SideAdded.side_added {text = t} b f) g h =
    let all : whole ≡ s ++ t ++ verdict_line c.agreement =
    h ∙ ap (λ xs. second ++ xs) g ∙ ap (λ xs. xs ++ verdict_line c.agreement) (f ∙ ap (λ xs. xs ++ t) e) in
    subst (ComparisonText c ones twos) (sym all) (ComparisonText.both a b)
