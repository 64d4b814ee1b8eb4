-- Records and the rule nodes that they write.
use Rattle.std.proofs.Common.{◌≡◌, ℕ, zero, suc, ◌+◌, ◌-◌, ◌*◌, ◌/◌, ◌%◌, ◌<◌, ◌≤◌, Bool, true, false, eqb, List, [], length, get_or, take, drop, set, Some, None, Decides, Option, Result, Ok, Err, sym, refl, ap, ◌∙◌, subst, inl, inr, arith, below_more}
use denote.Enum.Bare.{sameb}
use Rattle.std.specs.Simd.{first_chunks}
use Rattle.std.specs.Result.{result_ok}
use Rattle.labels.specs.Spelling.{part}
use Rattle.std.proofs.lemmas.List.{same_lists, length-take-le, drop-drop, get_or-take, get_or-set_same, get_or-set_other}
use Rattle.std.proofs.lemmas.Option.{slice_get-get_or}
use Rattle.std.proofs.lemmas.Bool.{cases_lt, eqb-true, false≢true}
use Rattle.rules.specs.declared.node.Edge.{Edge}
use Rattle.rules.specs.declared.node.Edge.TheVariants.{Child, Descendant}
use Rattle.rules.specs.contracts.node.Edge.{the_type}
use Rattle.rules.specs.declared.node.RuleNode.{RuleNode}
use Rattle.rules.specs.declared.records.UnknownEdge.{UnknownEdge}
use Rattle.rules.specs.Limits.{node_limit}
use Rattle.rules.specs.Rule.{blank, is_child, Rooted, Ordered}
use Rattle.std.proofs.lemmas.Option.{slice_get_within}
use Rattle.labels.specs.Exact.{Sole}
use Rattle.rules.proofs.Sole.{sole}
use Rattle.rules.specs.Records.{EdgeByte, child, descendant, EdgeFrom, AnyByte, named, any, Hangs, root, under, Writes, writes, RecordWrites, RecordAt, Whole, Recorded, RecordReason, size, bad}

any_number : {a : ℕ} {b : Bool} → AnyByte a b → a < 2
any_number named = omega arith
any_number any = omega arith

pub no_any : (a : ℕ) → (a ≡ 0 → ⊥) → (a ≡ 1 → ⊥) → (b : Bool) → AnyByte a b → ⊥
no_any a z o b h = let l = any_number h in elim (cases_lt a 1) [ inl i ↦ z (omega arith) | inr i ↦ o (omega arith) ]

edge_same : {e : ℕ} {x y : Edge} → EdgeByte e x → EdgeByte e y → x ≡ y
edge_same child child = refl
edge_same descendant descendant = refl

any_same : {a : ℕ} {x y : Bool} → AnyByte a x → AnyByte a y → x ≡ y
any_same named named = refl
any_same any any = refl

-- where a rule node other than the root hangs
pub hangs_under : {i p : ℕ} {edge : Edge} → 0 < i → Hangs i p edge → p < i
hangs_under l root = absurd (omega arith)
hangs_under l (under h) = h

-- where the root hangs
hangs_root : {p : ℕ} {edge : Edge} → Hangs 0 p edge → (p ≡ 0) × (edge ≡ Child)
hangs_root root = (refl, refl)
hangs_root (under h) = absurd (omega arith)

-- rule node 0 hangs nowhere but at itself, by a child edge
pub root_hangs : (i p : ℕ) (edge : Edge) (b : Bool) → i ≤ 0 → p ≡ 0 → b ≡ sameb the_type edge Child → Decides b (Hangs i p edge)
root_hangs i p Child b l q e =
    let z : 0 ≡ i = omega arith in ((λ _. subst (λ (j : ℕ). Hangs j p Child) z (subst (λ (j : ℕ). Hangs 0 j Child) (sym q) root)), λ _. e)
root_hangs i p Descendant b l q e =
    let z : i ≡ 0 = omega arith in (
      (λ t. absurd (false≢true (sym e ∙ t))),
      λ h. let d : Descendant ≡ Child = (hangs_root (subst (λ (j : ℕ). Hangs j p Descendant) z h)).1 in cc,
    )

-- what a rule node that is written says of its bytes
pub record Parts (i p e a : ℕ) (n : RuleNode) : Type 0 where
  pub parent : n.parent ≡ p
  pub edge : EdgeByte e n.edge
  pub any : AnyByte a n.any
  pub hangs : Hangs i p n.edge

pub parts : {i p e a : ℕ} {n : RuleNode} → Writes i p e a n → Parts i p e a n
parts (writes e a h) = record { parent = refl; edge = e; any = a; hangs = h }

node_same : {i p e a : ℕ} {n m : RuleNode} → Writes i p e a n → Writes i p e a m → n ≡ m
node_same {n = n} {m = m} x y =
    let k = parts x in
    let l = parts y in
    let p : n.parent ≡ m.parent = k.parent ∙ sym l.parent in
    λ j. record { parent = p j; edge = edge_same k.edge l.edge j; any = any_same k.any l.any j }

-- the whole records of bytes are so many
whole_same : {bs : List ℕ} {k j : ℕ} → Whole bs k → Whole bs j → k ≡ j
whole_same x y = let p = x.long in let q = y.long in omega arith

each_same : {bs : List ℕ} {ns ms : List RuleNode} → Recorded bs ns → Recorded bs ms → ns ≡ ms
each_same {bs} {ns} {ms} x y =
    let l : length ns ≡ length ms = whole_same x.whole y.whole in
    same_lists ns ms l (λ i d h. node_same (x.each i (get_or ns i d) (slice_get-get_or ns i d h)) (y.each i (get_or ms i d) (slice_get-get_or ms i d (omega arith))))

recorded_or_not : {bs : List ℕ} {ns : List RuleNode} {x : ℕ × Option ℕ} → Recorded bs ns → RecordReason bs x → ⊥
recorded_or_not {ns = ns} r (size h) = h (length ns) r.whole
recorded_or_not {ns = ns} r (bad {i = i} w l before h) =
    let e = whole_same w r.whole in
    let at : i < length ns = omega arith in
    h _ (r.each i (get_or ns i blank) (slice_get-get_or ns i blank at))

reason_same : {bs : List ℕ} {x y : ℕ × Option ℕ} → RecordReason bs x → RecordReason bs y → x ≡ y
reason_same (size h) (size g) = refl
reason_same (size h) (bad w l before g) = absurd (h _ w)
reason_same (bad w l before h) (size g) = absurd (g _ w)
reason_same (bad {i = i} w l before h) (bad {i = j} v m behind g) =
    elim (cases_lt i j) [
      | inl a ↦ absurd (h (behind i a).0 (behind i a).1)
      | inr a ↦
          elim (cases_lt j i) [
            | inl b ↦ absurd (g (before j b).0 (before j b).1)
            | inr b ↦ let e : i ≡ j = omega arith in ap (λ (k : ℕ). (16, Some k)) e
          ]
    ]

pub set_sole : {bs : List ℕ} {ns : List RuleNode} → Recorded bs ns → Sole (Recorded bs) (RecordReason bs) ns
set_sole r = sole (λ y z. each_same) (λ y z. recorded_or_not) r

pub unset_sole : {bs : List ℕ} {x : ℕ × Option ℕ} → RecordReason bs x → Sole (RecordReason bs) (Recorded bs) x
unset_sole r = sole (λ y z. reason_same) (λ y z q g. recorded_or_not g q) r

-- nothing is written without a place to hang
unwritten_place : {i p e a : ℕ} {edge : Edge} → EdgeByte e edge → (Hangs i p edge → ⊥) → (n : RuleNode) → Writes i p e a n → ⊥
unwritten_place {i} {p} {edge = edge} b h n w = h (subst (λ (x : Edge). Hangs i p x) (edge_same (parts w).edge b) (parts w).hangs)

-- the edge that a byte was turned into
pub edge_from : (b : ℕ) (r : Result Edge UnknownEdge) (edge : Edge) → EdgeFrom b r → Some edge ≡ result_ok r → EdgeByte b edge
edge_from b (Ok x) edge h e = let q : x ≡ edge = cc in subst (EdgeByte b) q h
edge_from b (Err f) edge h e = absurd (none_some e)
  where
    none_some : Some edge ≡ None → ⊥
    none_some q = cc

pub written : {i p q e a : ℕ} {edge : Edge} {any : Bool} → EdgeByte e edge → AnyByte a any → q ≡ p → Hangs i q edge → Writes i p e a (record { parent = q; edge = edge; any = any })
written {i} {p} {q} {e} {a} {edge} {any} b m eq h = subst (λ (x : ℕ). Writes i x e a (record { parent = q; edge = edge; any = any })) eq (writes b m h)

pub refused_place : {i p q e a : ℕ} {edge : Edge} → EdgeByte e edge → q ≡ p → (Hangs i q edge → false ≡ true) → (n : RuleNode) → Writes i p e a n → ⊥
refused_place {i} {edge = edge} b eq h = unwritten_place b (λ g. false≢true (h (subst (λ (x : ℕ). Hangs i x edge) (sym eq) g)))

-- the length of the bytes tells how many records they are
pub whole : (bs : List ℕ) (k r : ℕ) → k ≡ length bs / 3 → r ≡ length bs % 3 → true ≡ eqb r 0 → (k ≡ 0 → ⊥) → k ≤ node_limit → Whole bs k
whole bs k r d m e some few =
    let none : r ≡ 0 = eqb-true r 0 (sym e) in
    record {
      long = omega arith;
      some = elim (cases_lt 0 k) [ inl l ↦ l | inr l ↦ absurd (some (omega arith)) ];
      few = few;
    }

-- the bytes of chunk i are those of record i
chunk_at : (bs : List ℕ) (k i : ℕ) → i < k → get_or (first_chunks 3 k bs) i [] ≡ take 3 (drop (3 * i) bs)
chunk_at bs zero i h = absurd (omega arith)
chunk_at bs (suc k) zero h = refl
chunk_at bs (suc k) (suc i) h =
    let there : 3 + 3 * i ≡ 3 * suc i = omega arith in
    chunk_at (drop 3 bs) k i (omega arith) ∙ ap (take 3) (drop-drop (3 * i) 3 bs ∙ ap (λ (n : ℕ). drop n bs) (omega arith))

-- chunks of three bytes are the records
module _ (bs : List ℕ) (chunks : List (List ℕ)) (are : chunks ≡ first_chunks 3 (length bs / 3) bs) (i : ℕ) (n : RuleNode) (h : i < length bs / 3) where
  chunk_is : get_or chunks i [] ≡ part bs (3 * i) (3 * i + 3)
  chunk_is =
      let three : 3 ≡ 3 * i + 3 - 3 * i = omega arith in
      ap (λ (c : List (List ℕ)). get_or c i []) are ∙ chunk_at bs _ i h ∙ ap (λ (m : ℕ). take m (drop (3 * i) bs)) three

  record_at : RecordWrites i (get_or chunks i []) n → RecordAt bs i n
  record_at w = subst (λ (xs : List ℕ). RecordWrites i xs n) chunk_is w

  at_record : RecordAt bs i n → RecordWrites i (get_or chunks i []) n
  at_record w = subst (λ (xs : List ℕ). RecordWrites i xs n) (sym chunk_is) w

-- the rule nodes of the first k places are those of the records
recorded : (bs : List ℕ) (nodes : List RuleNode) (k : ℕ) → Whole bs k → length nodes ≡ node_limit
    → ((j : ℕ) → j < k → RecordAt bs j (get_or nodes j blank)) → Recorded bs (take k nodes)
recorded bs nodes k w room each =
    let few = w.few in
    let long : length (take k nodes) ≡ k = length-take-le k nodes (omega arith) in
    record {
      whole = subst (λ (n : ℕ). Whole bs n) (sym long) w;
      each = λ i n e.
          let l : i < k = omega (arith, slice_get_within (take k nodes) i n e) in
          let here : Some n ≡ Some (get_or nodes i blank) = sym e ∙ slice_get-get_or (take k nodes) i blank (omega arith) ∙ ap (λ (x : RuleNode). Some x) (get_or-take k nodes i blank l) in
          subst (λ (x : RuleNode). RecordAt bs i x) (sym (let h = here in cc)) (each i l);
    }

at : {bs : List ℕ} {ns : List RuleNode} → Recorded bs ns → (i : ℕ) → i < length ns → RecordAt bs i (get_or ns i blank)
at {ns = ns} r i l = r.each i (get_or ns i blank) (slice_get-get_or ns i blank l)

pub recorded_rooted : {bs : List ℕ} {ns : List RuleNode} → Recorded bs ns → Rooted ns
recorded_rooted {ns = ns} r =
    let p = parts (at r 0 r.whole.some) in
    let h = hangs_root p.hangs in
    (p.parent ∙ h.0, ap is_child h.1)

pub recorded_ordered : {bs : List ℕ} {ns : List RuleNode} → Recorded bs ns → Ordered ns
recorded_ordered {ns = ns} r x l within =
    let p = parts (at r x within) in
    let h = hangs_under l p.hangs in
    let e = p.parent in
    omega arith

pub all_recorded : (bs : List ℕ) (chunks : List (List ℕ)) (nodes : List RuleNode) (i : ℕ) → Whole bs (length chunks) → chunks ≡ first_chunks 3 (length bs / 3) bs
    → length chunks ≡ length bs / 3 → length nodes ≡ node_limit → length chunks ≤ i
    → ((j : ℕ) → j < i → RecordWrites j (get_or chunks j []) (get_or nodes j blank)) → Recorded bs (take (length chunks) nodes)
all_recorded bs chunks nodes i w are long room all each =
    recorded bs nodes (length chunks) w room (λ j h. record_at bs chunks are j (get_or nodes j blank) (omega arith) (each j (omega arith)))

-- one record more
pub record_more : (chunks : List (List ℕ)) (nodes : List RuleNode) (i : ℕ) (n : RuleNode) → i < length nodes → RecordWrites i (get_or chunks i []) n
    → ((j : ℕ) → j < i → RecordWrites j (get_or chunks j []) (get_or nodes j blank)) → (j : ℕ) → j < i + 1 → RecordWrites j (get_or chunks j []) (get_or (set nodes i n) j blank)
record_more chunks nodes i n within here each =
    below_more (λ j. RecordWrites j (get_or chunks j []) (get_or (set nodes i n) j blank)) i
    (λ j h. subst (λ (x : RuleNode). RecordWrites j (get_or chunks j []) x) (sym (get_or-set_other nodes i j n blank (λ e. omega arith))) (each j h))
    (subst (λ (x : RuleNode). RecordWrites i (get_or chunks i []) x) (sym (get_or-set_same nodes i n blank within)) here)

-- the records before a bad one write rule nodes
pub first_bad : (bs : List ℕ) (chunks : List (List ℕ)) (nodes : List RuleNode) (i : ℕ) → Whole bs (length chunks) → chunks ≡ first_chunks 3 (length bs / 3) bs
    → length chunks ≡ length bs / 3 → i < length chunks
    → ((j : ℕ) → j < i → RecordWrites j (get_or chunks j []) (get_or nodes j blank)) → ((n : RuleNode) → RecordWrites i (get_or chunks i []) n → ⊥) → RecordReason bs (16, Some i)
first_bad bs chunks nodes i w are long h each none =
    bad w h (λ j l. (get_or nodes j blank, record_at bs chunks are j (get_or nodes j blank) (omega arith) (each j l))) (λ n r. none n (at_record bs chunks are i n (omega arith) r))
