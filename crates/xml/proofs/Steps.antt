-- How a reader's meaning goes on.
use Rattle.std.proofs.Common.{◌≡◌, ℕ, suc, ◌+◌, ◌-◌, ◌<◌, Bool, true, false, not, eqb, List, [], ◌∷◌, ◌++◌, map, reverse, length, take, drop, slice_get, Some, None, Decides, IsSome, Option, Bor, sym, refl, ap, ◌∙◌, subst, inl, inr, arith, drop-cons}
use Rattle.std.specs.Option.{option_to_list}
use Rattle.sources.specs.declared.event.Event.{Event}
use Rattle.sources.specs.declared.event.Event.TheVariants.{Open as Opening, Close as Closing}
use Rattle.sources.specs.Events.{rest}
use Rattle.xml.specs.declared.tags.Tag.{Tag}
use Rattle.xml.specs.declared.tags.Tag.TheVariants.{Open, Empty, Close}
use Rattle.xml.specs.declared.reader.Tags.{Tags}
use Rattle.labels.specs.Spelling.{part, Spelled}
use Rattle.labels.specs.NameOf.{name_of}
use Rattle.xml.specs.Faults.{number, place}
use Rattle.xml.specs.Reading.{depth_limit, Finds, FindsAt, Reads, Room, Innermost}
use Rattle.xml.specs.Reading.Finds.{start, end_tag}
use Rattle.xml.specs.Reading.Found.{finishes, opens, closes, refuses}
use Rattle.xml.specs.Reading.Reads.{done, refused, skipped, opened, opened_empty, closed}
use Rattle.xml.specs.Total.{reading}
use Rattle.std.proofs.lemmas.List.{length-reverse, length-map, map-append, reverse-append, take-append-drop, drop_all}
use Rattle.std.proofs.lemmas.Option.{slice_get_within, get_or_from_slice_get}
use Rattle.std.proofs.lemmas.Slice.Eq.{slice_eq-Decides}
use Rattle.std.proofs.lemmas.Bool.Decides.{Decides-eqb}
use Rattle.std.specs.Str.{bytes_eq}
use Rattle.std.proofs.lemmas.Bool.{cases_Bool, both_ways, ne_eqb}
use Rattle.xml.specs.Means.{labelled, open_names, tags_names, tags_meaning}
use Rattle.xml.specs.FaultLaws.{start_named, start_rested}
use Rattle.xml.specs.Inner.{some, StartFault, Tagged, Passes, tags_ending, handed, Gives, Refuses, RootNamed, RootFails}
use Rattle.xml.specs.Inner.StartFault.{in_name, in_rest}
use Rattle.xml.specs.Inner.Passes.{here, on}
use Rattle.labels.specs.declared.name.Name.{Name}
use Rattle.xml.specs.declared.fault.XmlFault.{XmlFault}
use Rattle.xml.specs.declared.scan.Opening.{Opening as Start}
use Rattle.xml.specs.declared.markup.Markup.TheVariants.{StartTag, EndTag}
use Rattle.xml.specs.Markup.{markup, EndEnds, IsStart}
use Rattle.xml.specs.Documents.{StartsAt}
use Rattle.xml.specs.Documents.Misc.{nothing as no_misc}
use Rattle.xml.proofs.Once.{once}
use Rattle.xml.proofs.Between.{found, passes_misc}

-- what a tag leaves of a meaning
pub record Moves (es : List (Event (List ℕ))) (end : Option XmlFault) (ds : List (Event (List ℕ))) (to : Option XmlFault) (t : Tag) : Type 0 where
  pub events : map labelled es ≡ handed (Some t) ++ map labelled ds
  pub ending : to ≡ end

module _ (xs : List ℕ) (p : ℕ) (names : List (List ℕ)) (rooted : Bool) where
  pub means : (es : List (Event (List ℕ))) (end : Option XmlFault) → Reads xs p names rooted es end →
      ((reading xs p names rooted).events ≡ es) × ((reading xs p names rooted).ending ≡ end)
  means es end d = let m = reading xs p names rooted in once xs p names rooted m.events m.ending m.reads es end d

  pub opens_moves : (n q : ℕ) (ns : List (List ℕ)) (l : Name) → ns ≡ part xs (p + 1) n ∷ names → l ≡ name_of (part xs (p + 1) n) →
      FindsAt xs p names rooted (opens n q false) →
      Moves (reading xs p names rooted).events (reading xs p names rooted).ending (reading xs q ns true).events (reading xs q ns true).ending (Open l)
  opens_moves n q ns l e f d =
      let t = reading xs q ns true in
      let m = means (Opening (part xs (p + 1) n) ∷ t.events) t.ending (opened d (subst (λ k. Reads xs q k true t.events t.ending) e t.reads)) in
      record { events = rw (m.0, f); ending = sym m.1 }

  pub empty_moves : (n q : ℕ) (l : Name) → l ≡ name_of (part xs (p + 1) n) → FindsAt xs p names rooted (opens n q true) →
      Moves (reading xs p names rooted).events (reading xs p names rooted).ending (reading xs q names true).events (reading xs q names true).ending (Empty l)
  empty_moves n q l f d =
      let t = reading xs q names true in
      let m = means (Opening (part xs (p + 1) n) ∷ Closing ∷ t.events) t.ending (opened_empty d t.reads) in
      record { events = rw (m.0, f); ending = sym m.1 }

  pub closes_moves : (q : ℕ) (w : List ℕ) (ns : List (List ℕ)) → names ≡ w ∷ ns → FindsAt xs p names rooted (closes q) →
      Moves (reading xs p names rooted).events (reading xs p names rooted).ending (reading xs q ns rooted).events (reading xs q ns rooted).ending Close
  closes_moves q w ns e d =
      let t = reading xs q ns rooted in
      let c : Reads xs p (w ∷ ns) rooted (Closing ∷ t.events) t.ending = closed (subst (λ k. FindsAt xs p k rooted (closes q)) e d) t.reads in
      let m = means (Closing ∷ t.events) t.ending (subst (λ k. Reads xs p k rooted (Closing ∷ t.events) t.ending) (sym e) c) in
      record { events = rw m.0; ending = sym m.1 }

  -- an element's opening is the first event
  pub opens_first : (n q : ℕ) (e : Bool) → FindsAt xs p names rooted (opens n q e) →
      (others : List (Event (List ℕ))) × ((reading xs p names rooted).events ≡ Opening (part xs (p + 1) n) ∷ others)
  opens_first n q false d = let t = reading xs q (part xs (p + 1) n ∷ names) true in (t.events, (means _ _ (opened d t.reads)).0)
  opens_first n q true d = let t = reading xs q names true in (Closing ∷ t.events, (means _ _ (opened_empty d t.reads)).0)

passes_read : (xs : List ℕ) (inside : Bool) (p q : ℕ) (names : List (List ℕ)) (rooted : Bool) (es : List (Event (List ℕ))) (end : Option XmlFault) →
    Passes xs inside p q → some names ≡ inside → Reads xs q names rooted es end → Reads xs p names rooted es end
passes_read xs inside p q names rooted es end here i d = d
passes_read xs inside p q names rooted es end (on {q = m} go by) i d = passes_read xs inside p m names rooted es end go i (skipped (by names rooted i) d)

-- what goes by leaves the meaning
pub passes_same : (xs : List ℕ) (inside : Bool) (p q : ℕ) (names : List (List ℕ)) (rooted : Bool) → Passes xs inside p q → some names ≡ inside →
    ((reading xs p names rooted).events ≡ (reading xs q names rooted).events) × ((reading xs p names rooted).ending ≡ (reading xs q names rooted).ending)
passes_same xs inside p q names rooted d i =
    let t = reading xs q names rooted in
    means xs p names rooted t.events t.ending (passes_read xs inside p q names rooted t.events t.ending d i t.reads)

pub none_open : (names : List (Bor (List ℕ))) → length names ≡ 0 → open_names names ≡ []
none_open [] h = refl
none_open (n ∷ ns) h = absurd (omega arith)

pub length_names : (names : List (Bor (List ℕ))) → length (open_names names) ≡ length names
length_names names = length-reverse (map (λ n. n.now) names) ∙ length-map names (λ n. n.now)

pub push_names : (names : List (Bor (List ℕ))) (n : Bor (List ℕ)) → open_names (names ++ n ∷ []) ≡ n.now ∷ open_names names
push_names names n = ap reverse (map-append (λ m. m.now) names (n ∷ [])) ∙ reverse-append (map (λ m. m.now) names) (n.now ∷ [])

-- what a pop leaves
pub pop_names : (names rest : List (Bor (List ℕ))) (r : Option (Bor (List ℕ))) → names ≡ rest ++ option_to_list r → IsSome r →
    (w : List ℕ) × (open_names names ≡ w ∷ open_names rest)
pop_names names rest None e h = absurd (both_ways false refl h)
pop_names names rest (Some n) e h = (n.now, ap open_names e ∙ push_names rest n)

-- the last name is the innermost
pub last_innermost : (names : List (Bor (List ℕ))) (n : Bor (List ℕ)) (w : List ℕ) (b : Bool) → Some n ≡ slice_get names (length names - 1) → b ≡ bytes_eq n.now w →
    Decides b (Innermost (open_names names) w)
last_innermost names n w b e f =
    let i = length names - 1 in
    let h : i < length names = slice_get_within names i n (sym e) in
    let behind : drop (suc i) names ≡ [] = drop_all (suc i) names (omega arith) in
    let split : names ≡ take i names ++ n ∷ [] =
    sym (take-append-drop i names) ∙ ap (λ t. take i names ++ t) (drop-cons names i n h ∙ (λ k. get_or_from_slice_get names i n n (sym e) k ∷ behind k)) in
    let d = slice_eq-Decides Decides-eqb n.now w b f in
    subst (λ ns. Decides b (Innermost ns w)) (sym (ap open_names split ∙ push_names (take i names) n)) (λ t. sym (d.0 t), λ q. d.1 (sym q))

-- two readers whose meanings are known
pub moves_give : (s t : Tags) (x : Tag) → t.rooted ≡ true → Moves (tags_meaning s).events (tags_ending s) (tags_meaning t).events (tags_ending t) x →
    Gives s t (Some x)
moves_give s t x b m = record { events = m.events; ending = m.ending; done = λ e. let z : ◌≡◌ {A = ℕ} 0 1 = cc in absurd (omega arith); rooted = b }

pub done_gives : (s : Tags) → FindsAt s.input.now s.place (tags_names s) s.rooted finishes → Gives s s None
done_gives s d =
    let m = means s.input.now s.place (tags_names s) s.rooted [] None (done d) in
    record { events = refl; ending = refl; done = λ _. (ap (map labelled) m.0, m.1); rooted = refl }

pub fault_refuses : (s : Tags) (f : XmlFault) → FindsAt s.input.now s.place (tags_names s) s.rooted (refuses (number f) (place f)) → Refuses s s f
fault_refuses s f d =
    let m = means s.input.now s.place (tags_names s) s.rooted [] (Some f) (refused f d) in
    let n = ap (map labelled) m.0 in
    record { none = n; ends = m.1; left = n; ending = refl; rooted = refl }

pub room : (names : List (Bor (List ℕ))) (rooted : Bool) → length names < depth_limit → (length names ≡ 0 → rooted ≡ false) → Room (open_names names) rooted
room names rooted h g =
    let l = length_names names in
    record { alone = λ e. let z : length (open_names names) ≡ 0 = ap length e in g (omega arith); few = omega arith }

-- a start tag that may open an element
pub start_at : (xs : List ℕ) (p : ℕ) (names : List (List ℕ)) (rooted : Bool) (t : Start) (e : Bool) → markup (drop p xs) ≡ StartTag → Room names rooted →
    (d : Tagged xs (p + 1) t) → t.empty ≡ e → FindsAt xs p names rooted (opens d.stop t.end e)
start_at xs p names rooted t e b r d f =
    found xs p names rooted StartTag _ (sym b) (start r (record { name = d.spelled; close = d.close; tag = d.rest; ends = d.ends; slash = sym f ∙ d.slash }))

-- a start tag with a fault
pub start_fault : {xs : List ℕ} {p k at : ℕ} {names : List (List ℕ)} {rooted : Bool} → Room names rooted → StartFault xs (p + 1) k at →
    Finds xs p names rooted StartTag (refuses k at)
start_fault r (in_name d) = start_named r d
start_fault r (in_rest n s d) = start_rested n r s d

-- an end tag that closes the innermost element
pub end_at : (xs : List ℕ) (p : ℕ) (names : List (List ℕ)) (rooted : Bool) (n q : ℕ) → markup (drop p xs) ≡ EndTag → Innermost names (part xs (p + 2) n) →
    Spelled xs (p + 2) n → EndEnds xs n q → FindsAt xs p names rooted (closes (q + 1))
end_at xs p names rooted n q b i s t = found xs p names rooted EndTag _ (sym b) (end_tag i (record { name = s; close = q; tag = t; ends = refl }))

pub some_open : (names : List (List ℕ)) → some names ≡ not (eqb (length names) 0)
some_open [] = refl
some_open (n ∷ ns) = sym (ap not (ne_eqb (length (n ∷ ns)) 0 (λ e. omega arith)))

pub root_room : Room [] false
root_room = record { alone = λ _. refl; few = omega arith }

pub root_fails : (xs : List ℕ) (p q : ℕ) (f : XmlFault) → Passes xs false p q → FindsAt xs q [] false (refuses (number f) (place f)) → RootFails xs p f
root_fails xs p q f d g =
    let s = passes_same xs false p q [] false d refl in
    let m = means xs q [] false [] (Some f) (refused f g) in
    record { none = s.0 ∙ m.0; ends = s.1 ∙ m.1 }

pub root_named : (xs : List ℕ) (p q n r : ℕ) (e : Bool) (w : List ℕ) → w ≡ part xs (q + 1) n → Passes xs false p q →
    StartsAt xs q StartTag → IsStart xs q n r e → RootNamed xs p w
root_named xs p q n r e w c d b i =
    let s = passes_same xs false p q [] false d refl in
    let o = opens_first xs q [] false n r e (found xs q [] false StartTag _ (sym b) (start root_room i)) in
    record {
      at = q;
      before = passes_misc xs p q q d no_misc;
      begins = b;
      stop = n;
      name = i.name;
      cut = c;
      others = o.0;
      first = s.0 ∙ o.1 ∙ ap (λ x. Opening x ∷ o.0) (sym c);
    }

pub begun_open : (s : Tags) → 0 < length (tags_names s) → s.rooted ≡ true
begun_open s d =
    elim (cases_Bool s.rooted) [ inl r ↦ r | inr r ↦ let z : length (tags_names s) ≡ 0 = ap (λ ns. length (open_names ns)) (s.fresh r) in absurd (omega arith) ]
