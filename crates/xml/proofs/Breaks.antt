-- Where a listing is refused.
use Rattle.std.proofs.Common.{◌≡◌, ℕ, ◌+◌, ◌≤◌, Bool, true, false, List, [], ◌∷◌, ◌++◌, length, take, drop, Some, None, Option, sym, refl, ap, ◌∙◌, subst, arith}
use Rattle.std.proofs.lemmas.List.{length-take-le}
use Rattle.std.proofs.Math.Seq.{drop-append_seam}
use Rattle.sources.specs.declared.event.Event.{Event}
use Rattle.sources.specs.declared.event.Event.TheVariants.{Open, Close}
use Rattle.sources.specs.Forest.{events_of}
use Rattle.labels.specs.Spelling.{part, is_white}
use Rattle.xml.specs.Faults.{number, place}
use Rattle.xml.specs.Markup.{markup, NameFault}
use Rattle.xml.specs.Markup.NameFault.{ended as name_ended, no_start, long}
use Rattle.xml.specs.Markup.CommentFault.{ended as comment_ended, byte_behind}
use Rattle.xml.specs.Markup.InstructionFault.{ended as instruction_ended}
use Rattle.xml.specs.Reading.{Wrong, Finds, FindsAt, Reads}
use Rattle.xml.specs.Reading.Wrong.{unfinished, bare_text, bad_comment, bad_instruction, no_comment, cut_short, no_markup, second_root, too_deep, start_name, start_rest, end_name, other_name, end_rest}
use Rattle.xml.specs.Reading.Found.{skips, opens, closes, refuses}
use Rattle.xml.specs.Reading.Finds.{text, comment, instruction, start, end_tag, faulty}
use Rattle.xml.specs.Reading.Reads.{done, refused, skipped, opened, opened_empty, closed}
use Rattle.xml.specs.ScanLaws.{end_late, tag_late}
use Rattle.xml.specs.Fronts.{lacking, lacking_events, RefusedAsFront}
use Rattle.xml.specs.declared.markup.Markup.{Markup}
use Rattle.xml.specs.declared.markup.Markup.TheVariants.{Text, EndTag, Comment, Instruction, StartTag}
use Rattle.xml.specs.declared.fault.XmlFault.{XmlFault}
use Rattle.xml.proofs.Once.{after}
use Rattle.xml.proofs.Between.{found, Skipped, skips_from}
use Rattle.xml.proofs.Between.Skipped.{by_text, by_comment, by_instruction}
use Rattle.xml.proofs.Grammar.{skips_within, start_within, end_within, opens_from, closes_from, told, reads_from}
use Rattle.xml.proofs.Alike.{need, Alike, alike, comment_on, instruction_on, start_on, end_on}
use Rattle.xml.proofs.Completes.{AllNames, part_name, lacking_reads}

-- what is wrong at a place is told there or later
module _ (xs : List ℕ) where
  name_behind : (b k at : ℕ) → b ≤ length xs → NameFault xs b k at → b ≤ at
  name_behind b k at l (name_ended h) = l
  name_behind b k at l (no_start h e) = omega arith
  name_behind b k at l (long q m h) = omega arith

  wrong_late : (p : ℕ) (names : List (List ℕ)) (rooted : Bool) (k : Markup) (n at : ℕ) → p ≤ length xs → Wrong xs p names rooted k n at → p ≤ at
  wrong_late p names rooted k n at l (unfinished h) = l
  wrong_late p names rooted k n at l (bare_text e h) = omega arith
  wrong_late p names rooted k n at l (bad_comment (comment_ended d r h)) = l
  wrong_late p names rooted k n at l (bad_comment (byte_behind d r h ne)) = let late = r.late in omega arith
  wrong_late p names rooted k n at l (bad_instruction (instruction_ended r)) = l
  wrong_late p names rooted k n at l no_comment = omega arith
  wrong_late p names rooted k n at l cut_short = l
  wrong_late p names rooted k n at l no_markup = omega arith
  wrong_late p names rooted k n at l (second_root e r) = omega arith
  wrong_late p names rooted k n at l (too_deep d) = omega arith
  wrong_late p names rooted k n at l (start_name (name_ended h)) = l
  wrong_late p names rooted k n at l (start_name (no_start h e)) = omega arith
  wrong_late p names rooted k n at l (start_name (long q m h)) = omega arith
  wrong_late p names rooted k n at l (start_rest {n = m} d f) = let late = d.ends.late in let h = tag_late xs m n at d.ends.within f in omega arith
  wrong_late p names rooted k n at l (end_name (name_ended h)) = l
  wrong_late p names rooted k n at l (end_name (no_start h e)) = omega arith
  wrong_late p names rooted k n at l (end_name (long q m h)) = omega arith
  wrong_late p names rooted k n at l (other_name d ne) = omega arith
  wrong_late p names rooted k n at l (end_rest {n = m} d f) = let late = d.ends.late in let h = end_late xs m n at f in omega arith

  found_wrong : (p : ℕ) (names : List (List ℕ)) (rooted : Bool) (k : Markup) (n at : ℕ) → Finds xs p names rooted k (refuses n at) → Wrong xs p names rooted k n at
  found_wrong p names rooted k n at (faulty w m) = w

-- what is found in a front is found in each listing that begins with it
module _ (xs ys : List ℕ) (p : ℕ) (a : Alike xs ys p) (i : ℕ) (names : List (List ℕ)) (rooted : Bool) where
  skips_on : (q : ℕ) → q ≤ p → Skipped xs i q names → FindsAt ys i names rooted (skips q)
  skips_on q l (by_text b e h) =
      let g : i + 1 ≤ p = omega arith in
      let m : markup (drop i ys) ≡ Text = a.begins i (subst (λ k. i + need k ≤ p) (sym b) g) ∙ b in
      subst (λ x. FindsAt ys i names rooted (skips x)) (sym e) (found ys i names rooted Text _ (sym m) (text (λ nil. ap is_white (a.bytes i (omega arith)) ∙ h nil)))
  skips_on q l (by_comment b d) =
      let late = d.first.late in
      let ends = d.ends in
      let m : markup (drop i ys) ≡ Comment = a.begins i (subst (λ k. i + need k ≤ p) (sym b) (omega arith)) ∙ b in
      found ys i names rooted Comment _ (sym m) (comment (comment_on xs ys p a i q l d))
  skips_on q l (by_instruction b d) =
      let late = d.first.late in
      let ends = d.ends in
      let m : markup (drop i ys) ≡ Instruction = a.begins i (subst (λ k. i + need k ≤ p) (sym b) (omega arith)) ∙ b in
      found ys i names rooted Instruction _ (sym m) (instruction (instruction_on xs ys p a i q l d))

  opens_on : (n q : ℕ) (e : Bool) → q ≤ p → FindsAt xs i names rooted (opens n q e) → FindsAt ys i names rooted (opens n q e)
  opens_on n q e l f =
      let s = opens_from xs i names rooted _ n q e refl f in
      let late = s.2.name.0.ends.late in
      let rest = s.2.tag.rest.late in
      let ends = s.2.ends in
      let m : markup (drop i ys) ≡ StartTag = a.begins i (subst (λ k. i + need k ≤ p) (sym s.0) (omega arith)) ∙ s.0 in
      found ys i names rooted StartTag _ (sym m) (start s.1 (start_on xs ys p a i n q e l s.2))

  -- the name is the same
  opens_part : (n q : ℕ) (e : Bool) → q ≤ p → FindsAt xs i names rooted (opens n q e) → part ys (i + 1) n ≡ part xs (i + 1) n
  opens_part n q e l f =
      let s = opens_from xs i names rooted _ n q e refl f in
      let late = s.2.name.0.ends.late in
      let rest = s.2.tag.rest.late in
      let ends = s.2.ends in
      a.parts (i + 1) n late (omega arith)

module _ (xs ys : List ℕ) (p : ℕ) (a : Alike xs ys p) (i : ℕ) (w : List ℕ) (ns : List (List ℕ)) (rooted : Bool) where
  closes_on : (q : ℕ) → q ≤ p → FindsAt xs i (w ∷ ns) rooted (closes q) → FindsAt ys i (w ∷ ns) rooted (closes q)
  closes_on q l f =
      let s = closes_from xs i w ns rooted _ q refl f in
      let n = s.1.0 in
      let d = s.1.2 in
      let late = d.name.0.ends.late in
      let rest = d.tag.space.late in
      let ends = d.ends in
      let m : markup (drop i ys) ≡ EndTag = a.begins i (subst (λ k. i + need k ≤ p) (sym s.0) (omega arith)) ∙ s.0 in
      found ys i (w ∷ ns) rooted EndTag _ (sym m) (end_tag (a.parts (i + 2) n late (omega arith) ∙ s.1.1) (end_on xs ys p a i n q l d))

-- where the reading stops, and what it is in each listing that begins alike
record Stops (xs : List ℕ) (p : ℕ) (names : List (List ℕ)) (rooted : Bool) (es : List (Event (List ℕ))) (f : XmlFault) : Type 0 where
  stop : ℕ
  inside : List (List ℕ)
  begun : Bool
  late : p ≤ stop
  within : stop ≤ length xs
  fault : FindsAt xs stop inside begun (refuses (number f) (place f))
  all_names : AllNames inside
  goes : (ys : List ℕ) → Alike xs ys stop → (ds : List (Event (List ℕ))) → Reads ys stop inside begun ds None → Reads ys p names rooted (es ++ ds) None
  forces : (ys : List ℕ) → Alike xs ys stop → (ds : List (Event (List ℕ))) → Reads ys p names rooted ds None → (later : List (Event (List ℕ))) × (ds ≡ es ++ later)

module _ (xs : List ℕ) where
  -- behind something that goes by
  stops_skip : (p q : ℕ) (names : List (List ℕ)) (rooted : Bool) (es : List (Event (List ℕ))) (f : XmlFault) → p ≤ q →
      Skipped xs p q names → Stops xs q names rooted es f → Stops xs p names rooted es f
  stops_skip p q names rooted es f l s t = let late = t.late in record {
    stop = t.stop;
    inside = t.inside;
    begun = t.begun;
    late = omega arith;
    within = t.within;
    fault = t.fault;
    all_names = t.all_names;
    goes = λ ys a ds r. skipped (skips_on xs ys t.stop a p names rooted q late s) (t.goes ys a ds r);
    forces = λ ys a ds r. t.forces ys a ds (after ys p names rooted ds None (skips q) (skips_on xs ys t.stop a p names rooted q late s) r);
  }

  stops_open : (p n q : ℕ) (names : List (List ℕ)) (rooted : Bool) (es : List (Event (List ℕ))) (f : XmlFault) → p ≤ q →
      FindsAt xs p names rooted (opens n q false) → Stops xs q (part xs (p + 1) n ∷ names) true es f → Stops xs p names rooted (Open (part xs (p + 1) n) ∷ es) f
  stops_open p n q names rooted es f l d t = let late = t.late in record {
    stop = t.stop;
    inside = t.inside;
    begun = t.begun;
    late = omega arith;
    within = t.within;
    fault = t.fault;
    all_names = t.all_names;
    goes = λ ys a ds r.
        let same = opens_part xs ys t.stop a p names rooted n q false late d in
        let on = t.goes ys a ds r in
        subst (λ w. Reads ys p names rooted (Open w ∷ (es ++ ds)) None) same
        (opened (opens_on xs ys t.stop a p names rooted n q false late d) (subst (λ w. Reads ys q (w ∷ names) true (es ++ ds) None) (sym same) on));
    forces = λ ys a ds r.
        let same = opens_part xs ys t.stop a p names rooted n q false late d in
        let b = after ys p names rooted ds None (opens n q false) (opens_on xs ys t.stop a p names rooted n q false late d) r in
        let k = t.forces ys a b.0 (subst (λ w. Reads ys q (w ∷ names) true b.0 None) same b.2) in
        (k.0, b.1 ∙ (λ i. Open (same i) ∷ k.1 i));
  }

  stops_empty : (p n q : ℕ) (names : List (List ℕ)) (rooted : Bool) (es : List (Event (List ℕ))) (f : XmlFault) → p ≤ q →
      FindsAt xs p names rooted (opens n q true) → Stops xs q names true es f → Stops xs p names rooted (Open (part xs (p + 1) n) ∷ Close ∷ es) f
  stops_empty p n q names rooted es f l d t = let late = t.late in record {
    stop = t.stop;
    inside = t.inside;
    begun = t.begun;
    late = omega arith;
    within = t.within;
    fault = t.fault;
    all_names = t.all_names;
    goes = λ ys a ds r.
        let same = opens_part xs ys t.stop a p names rooted n q true late d in
        subst (λ w. Reads ys p names rooted (Open w ∷ Close ∷ (es ++ ds)) None) same
        (opened_empty (opens_on xs ys t.stop a p names rooted n q true late d) (t.goes ys a ds r));
    forces = λ ys a ds r.
        let same = opens_part xs ys t.stop a p names rooted n q true late d in
        let b = after ys p names rooted ds None (opens n q true) (opens_on xs ys t.stop a p names rooted n q true late d) r in
        let k = t.forces ys a b.0 b.2 in
        (k.0, b.1 ∙ (λ i. Open (same i) ∷ Close ∷ k.1 i));
  }

  stops_close : (p q : ℕ) (w : List ℕ) (ns : List (List ℕ)) (rooted : Bool) (es : List (Event (List ℕ))) (f : XmlFault) → p ≤ q →
      FindsAt xs p (w ∷ ns) rooted (closes q) → Stops xs q ns rooted es f → Stops xs p (w ∷ ns) rooted (Close ∷ es) f
  stops_close p q w ns rooted es f l d t = let late = t.late in record {
    stop = t.stop;
    inside = t.inside;
    begun = t.begun;
    late = omega arith;
    within = t.within;
    fault = t.fault;
    all_names = t.all_names;
    goes = λ ys a ds r. closed (closes_on xs ys t.stop a p w ns rooted q late d) (t.goes ys a ds r);
    forces = λ ys a ds r.
        let b = after ys p (w ∷ ns) rooted ds None (closes q) (closes_on xs ys t.stop a p w ns rooted q late d) r in
        let tail : b.1 ≡ ns = let h = b.3 in cc in
        let k = t.forces ys a b.2 (subst (λ m. Reads ys q m rooted b.2 None) tail b.5) in
        (k.0, b.4 ∙ ap (λ x. Close ∷ x) k.1);
  }

  skips_late : (p q : ℕ) (names : List (List ℕ)) → Skipped xs p q names → p ≤ q
  skips_late p q names (by_text b e h) = omega arith
  skips_late p q names (by_comment b d) = let late = d.first.late in let ends = d.ends in omega arith
  skips_late p q names (by_instruction b d) = let late = d.first.late in let ends = d.ends in omega arith

  stops : (p : ℕ) (names : List (List ℕ)) (rooted : Bool) (es : List (Event (List ℕ))) (end : Option XmlFault) → Reads xs p names rooted es end →
      (f : XmlFault) → end ≡ Some f → p ≤ length xs → AllNames names → Stops xs p names rooted es f
  stops p names rooted es end (done d) f e l all = let z : ◌≡◌ {A = ℕ} 0 1 = cc in absurd (omega arith)
  stops p names rooted es end (refused g d) f e l all =
      let same : g ≡ f = cc in
      record {
        stop = p;
        inside = names;
        begun = rooted;
        late = omega arith;
        within = l;
        fault = subst (λ h. FindsAt xs p names rooted (refuses (number h) (place h))) same d;
        all_names = all;
        goes = λ ys a ds r. r;
        forces = λ ys a ds r. (ds, refl);
      }
  stops p names rooted es end (skipped {q = q} d r) f e l all =
      let s = skips_from xs p names rooted _ q refl d in
      stops_skip p q names rooted es f (skips_late p q names s) s (stops q names rooted es end r f e (skips_within xs p q names s) all)
  stops p names rooted es end (opened {n = n} {q = q} {es = ds} d r) f e l all =
      let s = opens_from xs p names rooted _ n q false refl d in
      let late = s.2.name.0.ends.late in
      let rest = s.2.tag.rest.late in
      let ends = s.2.ends in
      stops_open p n q names rooted ds f (omega arith) d
      (stops q (part xs (p + 1) n ∷ names) true ds end r f e (start_within xs p n q false s.2) (part_name xs (p + 1) n s.2.name, all))
  stops p names rooted es end (opened_empty {n = n} {q = q} {es = ds} d r) f e l all =
      let s = opens_from xs p names rooted _ n q true refl d in
      let late = s.2.name.0.ends.late in
      let rest = s.2.tag.rest.late in
      let ends = s.2.ends in
      stops_empty p n q names rooted ds f (omega arith) d (stops q names true ds end r f e (start_within xs p n q true s.2) all)
  stops p names rooted es end (closed {q = q} {w = w} {names = ns} {es = ds} d r) f e l all =
      let s = closes_from xs p w ns rooted _ q refl d in
      let late = s.1.2.name.0.ends.late in
      let rest = s.1.2.tag.space.late in
      let ends = s.1.2.ends in
      stops_close p q w ns rooted ds f (omega arith) d (stops q ns rooted ds end r f e (end_within xs p s.1.0 q s.1.2) all.1)

  pub refused_front : (es : List (Event (List ℕ))) (end : Option XmlFault) → Reads xs 0 [] false es end → RefusedAsFront xs es end
  refused_front es end d f e =
      let t = stops 0 [] false es end d f e (omega arith) tt in
      let front = take t.stop xs in
      let long : length front ≡ t.stop = length-take-le t.stop xs t.within in
      let whole = front ++ lacking t.begun t.inside in
      let seam : drop t.stop whole ≡ lacking t.begun t.inside = sym (ap (λ k. drop k whole) long) ∙ drop-append_seam front (lacking t.begun t.inside) in
      let reads = t.goes whole (alike xs (lacking t.begun t.inside) t.stop t.within) (lacking_events t.begun t.inside)
      (lacking_reads whole t.begun t.inside t.stop t.all_names seam) in
      let (trees, g, eq) = told whole 0 [] false (es ++ lacking_events t.begun t.inside) None reads refl refl refl (omega arith) in
      record {
        stop = t.stop;
        names = t.inside;
        rooted = t.begun;
        early = wrong_late xs t.stop t.inside t.begun _ (number f) (place f) t.within (found_wrong xs t.stop t.inside t.begun _ (number f) (place f) t.fault);
        fault = t.fault;
        trees = trees;
        document = g;
        events = sym eq;
        all_documents = λ more others h.
            t.forces (front ++ more) (alike xs more t.stop t.within) (events_of others) (reads_from (front ++ more) 0 others h);
      }
