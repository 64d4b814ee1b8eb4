-- An input is reported in one way.
use Rattle.std.proofs.Common.{Option, Ok, Err, ◌≡◌, ℕ, ◌+◌, ◌<◌, ◌≤◌, ◌⊎◌, cond, eqb, false, List, [], ◌++◌, length, take, drop, sym, refl, ap, ◌∙◌, subst, inl, inr, arith, length-drop}
use Rattle.std.specs.Str.{bytes_eq}
use Rattle.std.proofs.lemmas.Bool.{cases_lt}
use Rattle.rules.specs.declared.refusal.TextRefusal.{TextRefusal}
use Rattle.rules.specs.declared.refusal.TextRefusal.TheVariants as unread
use Rattle.rules.specs.declared.syntax.ParsedNode.{ParsedNode}
use Rattle.rules.specs.Refusals as text
use Rattle.rules.specs.RuleNodes.{plain_nodes}
use Rattle.rules.specs.TestNames.{test_names}
use Rattle.rules.specs.Texts.{TextGives, TextRefused}
use Rattle.rules.proofs.Answering.{gives_same, never_both, turned_same}
use Rattle.runs.specs.declared.refusal.Refusal.TheVariants as run
use Rattle.sources.specs.declared.event.Event.{Event}
use Rattle.sources.specs.Forest.{Forest}
use Rattle.selection.specs.Answers.{Answer, number}
use Rattle.selection.specs.Selection.{Selects}
use Rattle.selection.specs.declared.refusal.Refusal.{Refusal as SelectRefusal}
use Rattle.selection.specs.declared.refusal.Refusal.TheVariants as selecting
use Rattle.xml.specs.Documents.{Document}
use Rattle.xml.specs.declared.fault.XmlFault.{XmlFault}
use Rattle.xml.proofs.Once.{once}
use Rattle.xml.proofs.Grammar.{done_document}
use Rattle.reports.specs.declared.refusal.Refusal.{Refusal}
use Rattle.reports.specs.declared.refusal.Refusal.TheVariants as refusal
use Rattle.reports.specs.declared.report.Report.{Report}
use Rattle.reports.specs.Parts.{FirstAt, Splits}
use Rattle.reports.specs.Refusals.{input_limit, numbers_limit}
use Rattle.reports.specs.Elements.{WithRoom}
use Rattle.reports.specs.Reports.{Bad, Asks, Concludes, SelectedBy, Reports, OnlyReports}
use Rattle.reports.proofs.Fitting.{listing_unrefused, whole_or_fault}

-- a byte is first at one place
one_place : (b : ℕ) (bs : List ℕ) (m n : ℕ) → FirstAt b bs m → FirstAt b bs n → m ≤ n
one_place b bs m n f g = go (cases_lt n m)
  where
    go : ((n < m) ⊎ (m ≤ n)) → m ≤ n
    go (inl h) = let w = f.within in absurd (f.first n h (g.here (omega arith)))
    go (inr h) = h

-- bytes have one first part, and one second
pub one_split : {b : ℕ} {bs l₁ r₁ l₂ r₂ : List ℕ} → Splits b bs l₁ r₁ → Splits b bs l₂ r₂ → (l₂ ≡ l₁) × (r₂ ≡ r₁)
one_split {b} {bs} s t =
    let m = one_place b bs s.at t.at s.first_at t.first_at in
    let n = one_place b bs t.at s.at t.first_at s.first_at in
    let e : t.at ≡ s.at = omega arith in (
      t.first_is ∙ ap (λ k. take k bs) e ∙ sym s.first_is,
      t.second_is ∙ ap (λ k. drop (k + 1) bs) e ∙ sym s.second_is,
    )

-- a refusal of a text by its number and place
text_refusal : ℕ × ℕ → TextRefusal
text_refusal x =
    cond (eqb x.0 10) unread.Length (cond (eqb x.0 11) (unread.NotAllowed x.1) (cond (eqb x.0 12) (unread.LongName x.1)
    (cond (eqb x.0 13) (unread.ManyTests x.1) (cond (eqb x.0 14) (unread.DeepBracket x.1) unread.ShortList))))

text_refusal_is : (f : TextRefusal) → text_refusal (text.number_and_place f) ≡ f
unfolding text_refusal
text_refusal_is unread.ShortList = refl
text_refusal_is unread.Length = refl
text_refusal_is (unread.NotAllowed p) = refl
text_refusal_is (unread.LongName p) = refl
text_refusal_is (unread.ManyTests p) = refl
text_refusal_is (unread.DeepBracket p) = refl

pub text_refusal_same : (f g : TextRefusal) → text.number_and_place f ≡ text.number_and_place g → f ≡ g
text_refusal_same f g e = sym (text_refusal_is f) ∙ ap text_refusal e ∙ text_refusal_is g

-- a refusal of a selection by its number
select_refusal : ℕ → SelectRefusal
select_refusal k =
    cond (eqb k 20) (selecting.Run run.NothingOpen) (cond (eqb k 21) (selecting.Run run.WaitingFull)
    (cond (eqb k 22) (selecting.Run run.TooDeep) (cond (eqb k 23) (selecting.Run run.TooMany) selecting.ListFull)))

select_refusal_is : (r : SelectRefusal) → select_refusal (number r) ≡ r
unfolding select_refusal
select_refusal_is (selecting.Run run.NothingOpen) = refl
select_refusal_is (selecting.Run run.WaitingFull) = refl
select_refusal_is (selecting.Run run.TooDeep) = refl
select_refusal_is (selecting.Run run.TooMany) = refl
select_refusal_is selecting.ListFull = refl

pub select_refusal_same : (r s : SelectRefusal) → number r ≡ number s → r ≡ s
select_refusal_same r s e = sym (select_refusal_is r) ∙ ap select_refusal e ∙ select_refusal_is s

-- a bad input is refused with one reason
pub bad_same : (bs : List ℕ) {r s : Refusal} → Bad bs r → Bad bs s → s ≡ r
bad_same bs (Bad.too_long h) (Bad.too_long k) = refl
bad_same bs (Bad.too_long h) (Bad.bad_rule g k b w) = absurd (omega arith)
bad_same bs (Bad.bad_rule f h a v) (Bad.too_long k) = absurd (omega arith)
bad_same bs (Bad.bad_rule f h a v) (Bad.bad_rule g k b w) =
    let l = (one_split a b).0 in
    let e = turned_same (subst (λ (xs : List ℕ). TextRefused xs (text.number_and_place g)) l w) v in
    ap refusal.Rule (text_refusal_same g f e)

-- and asks nothing
pub bad_or_asks : (bs line rest : List ℕ) (ns : List ParsedNode) {r : Refusal} → Bad bs r → Asks bs line ns rest → ⊥
bad_or_asks bs line rest ns (Bad.too_long h) a = let f = a.fits in omega arith
bad_or_asks bs line rest ns (Bad.bad_rule f h s v) a =
    let l = (one_split s a.split).0 in
    never_both (subst (λ (xs : List ℕ). TextGives xs ns) l a.gives) v

-- a selection that ended so is reported in one way
pub concludes_same : (n : ℕ) (a b : Answer XmlFault) {r s : Report} → b ≡ a → Concludes n a r → Concludes n b s → s ≡ r
concludes_same n a b e (Concludes.finished c) (Concludes.finished d) = cc
concludes_same n a b e (Concludes.finished c) (Concludes.fault g o d) = let z : ⊥ = cc in absurd z
concludes_same n a b e (Concludes.finished c) (Concludes.refusal q k o d p) = let z : ⊥ = cc in absurd z
concludes_same n a b e (Concludes.fault f o c) (Concludes.finished d) = let z : ⊥ = cc in absurd z
concludes_same n a b e (Concludes.fault f o c) (Concludes.fault g m d) = cc
concludes_same n a b e (Concludes.fault f o c) (Concludes.refusal q k m d p) = let z : ⊥ = cc in absurd z
concludes_same n a b e (Concludes.refusal q k o c p) (Concludes.finished d) = let z : ⊥ = cc in absurd z
concludes_same n a b e (Concludes.refusal q k o c p) (Concludes.fault g m d) = let z : ⊥ = cc in absurd z
concludes_same n a b e (Concludes.refusal q k o c p) (Concludes.refusal w j m d v) =
    let y : number w ≡ number q = cc in
    let z : w ≡ q = select_refusal_same w q y in
    cc

-- a rule is selected from a listing in one way
pub selected_same : (line listing before : List ℕ) (ns : List ParsedNode) {r₁ r₂ : Report} {a₁ a₂ : List ℕ}
    → SelectedBy line ns listing before r₁ a₁ → SelectedBy line ns listing before r₂ a₂ → (r₂ ≡ r₁) × (a₂ ≡ a₁)
selected_same line listing before ns s t =
    let S : List (Event (List ℕ)) → Option XmlFault → Type 0 = λ es end.
    Selects bytes_eq (plain_nodes ns) (test_names line ns) (length before) es end t.answer t.selection.reported t.left in
    let e = once listing 0 [] false t.events t.ending t.reads s.events s.ending s.reads in
    let moved : S s.events s.ending = subst (λ es. S es s.ending) e.0 (subst (S t.events) e.1 t.selection.selects) in
    let o = s.selection.only t.answer t.selection.reported t.left moved in (
      concludes_same (length listing) s.answer t.answer o.0 s.concludes t.concludes,
      t.selection.filled.list ∙ ap (λ (xs : List ℕ). xs ++ drop (length xs) before) o.1 ∙ sym s.selection.filled.list,
    )

-- an input is reported in one way
pub one_report : (bs before : List ℕ) {r₁ r₂ : Report} {a₁ a₂ : List ℕ} → Reports bs before r₁ a₁ → Reports bs before r₂ a₂
    → (r₂ ≡ r₁) × (a₂ ≡ a₁)
one_report bs before (Reports.bad r b) (Reports.bad q c) = let e = bad_same bs b c in (cc, refl)
one_report bs before (Reports.bad r b) (Reports.selected {line = line} {listing = listing} {ns = ns} a s) =
    absurd (bad_or_asks bs line listing ns b a)
one_report bs before (Reports.selected {line = line} {listing = listing} {ns = ns} a s) (Reports.bad r b) =
    absurd (bad_or_asks bs line listing ns b a)
one_report bs before (Reports.selected {line = l₁} {listing = x₁} {after = f₁} {ns = n₁} {report = q₁} a s)
    (Reports.selected {line = l₂} {listing = x₂} {after = f₂} {ns = n₂} {report = q₂} b t) =
    let e = one_split a.split b.split in
    let n : n₂ ≡ n₁ = gives_same (subst (λ (xs : List ℕ). TextGives xs n₂) e.0 b.gives) a.gives in
    let moved : SelectedBy l₁ n₁ x₁ before q₂ f₂ =
    subst (λ xs. SelectedBy xs n₁ x₁ before q₂ f₂) e.0 (subst (λ ns. SelectedBy l₂ ns x₁ before q₂ f₂) n
    (subst (λ xs. SelectedBy l₂ n₂ xs before q₂ f₂) e.1 t)) in
    selected_same l₁ x₁ before n₁ s moved

-- so a report is the only one
pub only_report : (bs before after : List ℕ) (report : Report) → Reports bs before report after → OnlyReports bs before report after
only_report bs before after report h = OnlyReports.only h (λ r a k. one_report bs before h k)

pub bad_only : (bs before : List ℕ) (r : Refusal) (report : Report) → report ≡ record { reported = 0; verdict = Err r } → Bad bs r
    → OnlyReports bs before report before
bad_only bs before r report e b = rw e (only_report bs before before _ (Reports.bad r b))

-- Where the listing of an input is a document, and the list has room for a number to every four bytes of an input, the selection finishes.
pub finishes : (bs before after : List ℕ) (report : Report) → Reports bs before report after
    → (line listing : List ℕ) (ns : List ParsedNode) (trees : Forest (List ℕ)) → Asks bs line ns listing → Document listing trees
    → numbers_limit ≤ length before → report.verdict ≡ Ok tt
finishes bs before after report (Reports.bad r b) line listing ns trees asks doc wide = absurd (bad_or_asks bs line listing ns b asks)
finishes bs before after report (Reports.selected {line = l} {listing = xs} {ns = ms} a s) line listing ns trees asks doc wide =
    let e : listing ≡ xs = (one_split a.split asks.split).1 in
    let d = (done_document xs s.events s.ending s.reads).all_documents trees (subst (λ ys. Document ys trees) e doc) in
    let f = a.fits in
    let second = a.split.second_is in
    let short : length xs ≤ input_limit = omega (arith, ap length second, length-drop (a.split.at + 1) bs) in
    whole_or_fault l ms xs before after report s short wide d.0

-- The report of a selection that was not refused has no such refusal.
not_refused : (n : ℕ) {a : Answer XmlFault} {report : Report} → Concludes n a report → ((k o c : ℕ) → a ≡ Answer.refused k o c → ⊥)
    → (r : SelectRefusal) (m : ℕ) → report.verdict ≡ Err (refusal.Selection r m) → ⊥
not_refused n (Concludes.finished count) never r m e = let z : ⊥ = cc in z
not_refused n (Concludes.fault f o count) never r m e = let z : ⊥ = cc in z
not_refused n (Concludes.refusal s k o count q) never r m e = never k o count refl

bad_other : (bs : List ℕ) {x : Refusal} → Bad bs x → (r : SelectRefusal) (m : ℕ) → x ≡ refusal.Selection r m → ⊥
bad_other bs (Bad.too_long l) r m e = let z : ⊥ = cc in z
bad_other bs (Bad.bad_rule f l s t) r m e = let z : ⊥ = cc in z

unrefused : (bs before after : List ℕ) (report : Report) → Reports bs before report after → numbers_limit ≤ length before
    → (r : SelectRefusal) (m : ℕ) → report.verdict ≡ Err (refusal.Selection r m) → ⊥
unrefused bs before after report (Reports.bad x b) wide r m e = let z : x ≡ refusal.Selection r m = cc in bad_other bs b r m z
unrefused bs before after report (Reports.selected {line = l} {listing = xs} {ns = ms} a s) wide r m e =
    let f = a.fits in
    let second = a.split.second_is in
    let short : length xs ≤ input_limit = omega (arith, ap length second, length-drop (a.split.at + 1) bs) in
    not_refused (length xs) s.concludes (listing_unrefused l ms xs before after report s short wide) r m e

pub with_room : (bs before after : List ℕ) (report : Report) → Reports bs before report after → numbers_limit ≤ length before → WithRoom bs report
with_room bs before after report r wide =
    WithRoom.with_room (unrefused bs before after report r wide) (λ line listing ns trees asks doc. finishes bs before after report r line listing ns trees asks doc wide)

pub bad_room : (bs before : List ℕ) (r : Refusal) (report : Report) → report ≡ record { reported = 0; verdict = Err r } → Bad bs r
    → numbers_limit ≤ length before → WithRoom bs report
bad_room bs before r report e b wide = with_room bs before before report (let P : Report → Type 0 = λ x. Reports bs before x before in subst P (sym e) (Reports.bad r b)) wide

pub ruleset bad_laws = (bad_only, bad_room)
