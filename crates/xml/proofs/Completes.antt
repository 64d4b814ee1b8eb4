-- What a front of a document lacks is read behind it.
use Rattle.std.proofs.Common.{◌≡◌, ℕ, ◌+◌, ◌-◌, ◌<◌, ◌≤◌, Bool, true, false, cond, ◌==◌, List, [], ◌∷◌, ◌++◌, map, length, take, drop, None, sym, refl, ap, ◌∙◌, subst, arith, length-drop, codes, append_assoc}
use Prim.Native.Char.{code}
use Rattle.std.proofs.lemmas.List.{get_or_append_left, length-take-le, get_or-take, get_or-drop, drop-drop}
use Rattle.std.proofs.Math.Seq.{take-append_seam, drop-append-add, get_or-append_seam}
use Rattle.sources.specs.declared.event.Event.{Event}
use Rattle.sources.specs.declared.event.Event.TheVariants.{Open, Close}
use Rattle.labels.specs.Spelling.{byte_at, part, is_white, starts_name, continues_name, name_limit, Spelled}
use Rattle.xml.specs.Markup.{markup, IsStart, IsEnd}
use Rattle.xml.specs.Reading.{Reads}
use Rattle.xml.specs.Reading.Finds.{finish, start, end_tag}
use Rattle.xml.specs.Reading.Found.{finishes, opens, closes}
use Rattle.xml.specs.Reading.Reads.{done, opened_empty, closed}
use Rattle.xml.specs.Shapes.{from_place, slash_tag}
use Rattle.xml.specs.ScanLaws.{standing, test_stands, name_long}
use Rattle.xml.specs.Fronts.{end_tags, lacking, lacking_events}
use Rattle.xml.specs.declared.markup.Markup.TheVariants.{Nothing, StartTag, EndTag}
use Rattle.xml.proofs.Between.{found}

-- the bytes are a name's
pub record NameBytes (w : List ℕ) : Type 0 where
  pub begins : starts_name (byte_at w 0) ≡ true
  pub all : (j : ℕ) → j < length w → continues_name (byte_at w j) ≡ true
  pub few : length w ≤ name_limit

abbrev pub AllNames : List (List ℕ) → Type 0
AllNames [] = Unit {0}
AllNames (w ∷ ws) = NameBytes w × AllNames ws

pub part_name : (xs : List ℕ) (p n : ℕ) → Spelled xs p n → NameBytes (part xs p n)
part_name xs p n h =
    let late = h.0.ends.late in
    let within = h.0.ends.within in
    let stands = test_stands xs p starts_name refl h.0.begins in
    let l : length (part xs p n) ≡ n - p = length-take-le (n - p) (drop p xs) (omega (arith, length-drop p xs)) in
    let at : (j : ℕ) → j < n - p → byte_at (part xs p n) j ≡ byte_at xs (p + j) = λ j g. get_or-take (n - p) (drop p xs) j 0 g ∙ get_or-drop p xs j 0 in
    let some : p < n = some_bytes in
    let zero : p + 0 ≡ p = omega arith in
    record {
      begins = ap starts_name (at 0 (omega arith) ∙ ap (byte_at xs) zero) ∙ h.0.begins;
      all = λ j g. ap continues_name (at j (omega arith)) ∙ h.0.ends.all (p + j) (omega arith) (omega arith);
      few = let w = h.1 in omega arith;
    }
  where
    some_bytes : p < n
    some_bytes = name_long xs p n h.0

-- an end tag of the name stands at s, and more behind it
pub record Ended (ys w more : List ℕ) (s : ℕ) : Type 0 where
  pub begins : markup (drop s ys) ≡ EndTag
  pub stop : ℕ
  pub tag : IsEnd ys s stop (stop + 1)
  pub same : part ys (s + 2) stop ≡ w
  pub behind : drop (stop + 1) ys ≡ more

ended : (ys w more : List ℕ) (s : ℕ) → NameBytes w → drop s ys ≡ codes "</" ++ w ++ (code ">" ∷ more) → Ended ys w more s
ended ys w more s name e =
    let bs = w ++ (code ">" ∷ more) in
    let on : drop (s + 2) ys ≡ bs = sym (drop-drop 2 s ys) ∙ ap (drop 2) e in
    let f = from_place ys bs (s + 2) (sym on) in
    let n = s + 2 + length w in
    let at : (j : ℕ) → j < length w → byte_at ys (s + 2 + j) ≡ byte_at w j = λ j g. sym (f.at j) ∙ get_or_append_left w (code ">" ∷ more) 0 j g in
    let shut : byte_at ys n ≡ code ">" = sym (f.at (length w)) ∙ get_or-append_seam w (code ">") more 0 in
    let some = test_stands w 0 starts_name refl name.begins in
    let within = standing ys n (code ">") shut (omega arith) in
    let cut : n - (s + 2) ≡ length w = omega arith in
    let zero : s + 2 + 0 ≡ s + 2 = omega arith in
    record {
      begins = ap markup e;
      stop = n;
      tag = record {
        name = (
          record {
            begins = ap starts_name (sym (ap (byte_at ys) zero) ∙ at 0 some) ∙ name.begins;
            ends = record {
              late = omega arith;
              within = omega arith;
              all = λ i a b.
                  let k : s + 2 + (i - (s + 2)) ≡ i = omega arith in
                  ap continues_name (sym (ap (byte_at ys) k) ∙ at (i - (s + 2)) (omega arith)) ∙ name.all (i - (s + 2)) (omega arith);
              stops = λ _. ap continues_name shut;
            };
          },
          let k = name.few in omega arith,
        );
        close = n;
        tag = record {
          space = record { late = omega arith; within = omega arith; all = λ i a b. absurd (omega arith); stops = λ _. ap is_white shut };
          closes = shut;
        };
        ends = refl;
      };
      same = ap (λ k. take k (drop (s + 2) ys)) cut ∙ ap (take (length w)) on ∙ take-append_seam w (code ">" ∷ more);
      behind =
          let k : s + 2 + (length w + 1) ≡ n + 1 = omega arith in
          sym (ap (λ i. drop i ys) k) ∙ sym (drop-drop (length w + 1) (s + 2) ys) ∙ ap (drop (length w + 1)) on
          ∙ drop-append-add w (code ">" ∷ more) 1;
    }

module _ (ys : List ℕ) (rooted : Bool) where
  -- the end tags of the open elements close them
  closes_all : (names : List (List ℕ)) (last : List ℕ) (ds : List (Event (List ℕ))) (s : ℕ) → AllNames names →
      drop s ys ≡ end_tags names ++ last → ((t : ℕ) → drop t ys ≡ last → Reads ys t [] rooted ds None) →
      Reads ys s names rooted (map (λ w. Close) names ++ ds) None
  closes_all [] last ds s names e on = on s e
  closes_all (w ∷ ws) last ds s names e on =
      let more = end_tags ws ++ last in
      let g = ended ys w more s names.0 (e ∙ ap (λ zs. codes "</" ++ zs) (append_assoc w (code ">" ∷ end_tags ws) last)) in
      let r = closes_all ws last ds (g.stop + 1) names.1 g.behind on in
      closed (found ys s (w ∷ ws) rooted EndTag (closes (g.stop + 1)) (sym g.begins) (end_tag g.same g.tag)) r

-- at the end, or at a root
last_reads : (ys : List ℕ) (rooted : Bool) (t : ℕ) → drop t ys ≡ cond rooted [] (codes "<a/>") →
    Reads ys t [] rooted (cond rooted [] (Open (codes "a") ∷ Close ∷ [])) None
last_reads ys true t e = done (found ys t [] true Nothing finishes (sym (ap markup e)) (finish refl refl))
last_reads ys false t e =
    let f = from_place ys (codes "<a/>") t (sym e) in
    let one : byte_at ys (t + 1) ≡ code "a" = sym (f.at 1) in
    let two : byte_at ys (t + 2) ≡ code "/" = sym (f.at 2) in
    let three : byte_at ys (t + 3) ≡ code ">" = sym (f.at 3) in
    let k : t + 2 + 1 ≡ t + 3 = omega arith in
    let long = standing ys (t + 3) (code ">") three (omega arith) in
    let tag : IsStart ys t (t + 2) (t + 4) true = record {
      name = (
        record {
          begins = ap starts_name one;
          ends = record {
            late = omega arith;
            within = omega arith;
            all = λ i a b. let j : i ≡ t + 1 = omega arith in ap continues_name (ap (byte_at ys) j ∙ one);
            stops = λ _. ap continues_name two;
          };
        },
        omega arith,
      );
      close = t + 2 + 1;
      tag = slash_tag ys (t + 2) two (omega arith) (ap (byte_at ys) k ∙ three);
      ends = omega arith;
      slash = let m : t + 2 + 1 - 1 ≡ t + 2 = omega arith in sym (ap (λ b. b == code "/") (ap (byte_at ys) m ∙ two));
    } in
    let cut : part ys (t + 1) (t + 2) ≡ codes "a" =
    let c : t + 2 - (t + 1) ≡ 1 = omega arith in
    ap (λ i. take i (drop (t + 1) ys)) c ∙ ap (take 1) (sym (drop-drop 1 t ys) ∙ ap (drop 1) e) in
    let none : drop (t + 4) ys ≡ [] = sym (drop-drop 4 t ys) ∙ ap (drop 4) e in
    let last : Reads ys (t + 4) [] true [] None = done (found ys (t + 4) [] true Nothing finishes (sym (ap markup none)) (finish refl refl)) in
    let all : Reads ys t [] false (Open (part ys (t + 1) (t + 2)) ∷ Close ∷ []) None =
    opened_empty (found ys t [] false StartTag (opens (t + 2) (t + 4) true) (sym (ap markup e)) (start (record { alone = λ _. refl; few = omega arith }) tag)) last in
    subst (λ w. Reads ys t [] false (Open w ∷ Close ∷ []) None) cut all

pub lacking_reads : (ys : List ℕ) (rooted : Bool) (names : List (List ℕ)) (s : ℕ) → AllNames names → drop s ys ≡ lacking rooted names →
    Reads ys s names rooted (lacking_events rooted names) None
lacking_reads ys rooted names s all e =
    closes_all ys rooted names (cond rooted [] (codes "<a/>")) (cond rooted [] (Open (codes "a") ∷ Close ∷ [])) s all e (last_reads ys rooted)
