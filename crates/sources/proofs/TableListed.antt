use Rattle.std.proofs.Common.{◌≡◌, ℕ, zero, suc, ◌+◌, ◌-◌, ◌<◌, ◌≤◌, Bool, true, false, ltb, List, [], ◌∷◌, ◌++◌, length, Some, None, Option, sym, refl, ap, ◌∙◌, add-one, arith, ltb-false, ltb-true, lt-ltb}
use Rattle.sources.specs.declared.event.Event.TheVariants.{Open}
use Rattle.sources.specs.Table.{closings, events_from, ending_from, Allowed, as_deep, shallower, Listing}
use Rattle.sources.specs.Table.Listing.{finished, refused, opened}
use Rattle.sources.specs.declared.record.Record.{Record}
use Rattle.sources.specs.declared.fault.TableFault.{TableFault}
use Rattle.sources.specs.declared.event.Event.{Event}

-- the depth before, and those of the open nodes, where so many are open
abbrev before_of : ℕ → Option ℕ
before_of zero = None
before_of (suc l) = Some l

abbrev depths : ℕ → List ℕ
depths zero = []
depths (suc l) = l ∷ depths l

length_depths : (l : ℕ) → length (depths l) ≡ l
length_depths zero = refl
length_depths (suc l) = ap suc (length_depths l)

allowed : (l d : ℕ) → d ≤ l → Allowed (before_of l) d
allowed zero d h = omega arith
allowed (suc l) d h = omega arith

not_allowed : (l d : ℕ) → l < d → Allowed (before_of l) d → ⊥
not_allowed zero d h a = omega arith
not_allowed (suc l) d h a = omega arith

deeper_depths : (d l : ℕ) → as_deep d (depths l) ≡ l - d
deeper_depths d zero = omega arith
deeper_depths d (suc l) = by_test (deeper_depths d l) (ltb l d) refl
  where
    by_test : as_deep d (depths l) ≡ l - d → (b : Bool) → ltb l d ≡ b → as_deep d (depths (suc l)) ≡ suc l - d
    by_test e true t = let h = ltb-true l d t in rw (t, e) (omega arith)
    by_test e false t = let h = ltb-false l d t in rw (t, e) (omega arith)

shallower_all : (d l : ℕ) → l ≤ d → shallower d (depths l) ≡ depths l
shallower_all d zero h = refl
shallower_all d (suc l) h = rw (lt-ltb l d h, shallower_all d l (omega arith))

shallower_depths : (d l : ℕ) → d ≤ l → shallower d (depths l) ≡ depths d
shallower_depths d zero h = let e : d ≡ 0 = omega arith in rw e
shallower_depths d (suc l) h = by_test (shallower_depths d l) (ltb l d) refl
  where
    by_test : (d ≤ l → shallower d (depths l) ≡ depths d) → (b : Bool) → ltb l d ≡ b → shallower d (depths (suc l)) ≡ depths d
    by_test e true t =
        let lt = ltb-true l d t in
        let same : d ≡ suc l = omega arith in
        shallower_all d (suc l) (omega arith) ∙ ap depths (sym same)
    by_test e false t = let le = ltb-false l d t in rw (t, e le)

pub listed : {L : Type 0} (rs : List (Record L)) (n l : ℕ) → Listing n (before_of l) (depths l) rs (events_from l rs) (ending_from n l rs)
listed {L} [] n l =
    let h : Listing {L = L} n (before_of l) (depths l) [] (closings (length (depths l))) None = finished n (before_of l) (depths l) in
    rw (length_depths l) at h
listed {L} (r ∷ rs) n l = by_test (listed rs (n + 1) (suc r.depth)) (ltb l r.depth) refl
  where
    by_test : Listing (n + 1) (Some r.depth) (depths (suc r.depth)) rs (events_from (suc r.depth) rs) (ending_from (n + 1) (suc r.depth) rs) →
        (b : Bool) → ltb l r.depth ≡ b → Listing n (before_of l) (depths l) (r ∷ rs) (events_from l (r ∷ rs)) (ending_from n l (r ∷ rs))
    by_test go true t = rw t (refused n (before_of l) (depths l) r rs (not_allowed l r.depth (ltb-true l r.depth t)))
    by_test go false t =
        let le = ltb-false l r.depth t in
        let es = events_from (suc r.depth) rs in
        let end = ending_from (n + 1) (suc r.depth) rs in
        let on : Listing (n + 1) (Some r.depth) (r.depth ∷ shallower r.depth (depths l)) rs es end = rw (shallower_depths r.depth l le) go in
        let h : Listing n (before_of l) (depths l) (r ∷ rs) (closings (as_deep r.depth (depths l)) ++ Open r.label ∷ es) end =
        opened n (before_of l) (depths l) r rs _ _ (allowed l r.depth le) on in
        let k : Listing n (before_of l) (depths l) (r ∷ rs) (closings (l - r.depth) ++ Open r.label ∷ es) end = rw (deeper_depths r.depth l) at h in
        rw (t, add-one) k

-- records have one meaning
once : {L : Type 0} (n : ℕ) (before : Option ℕ) (nodes : List ℕ) (rs : List (Record L)) (es ds : List (Event L)) (end to : Option TableFault) →
    Listing n before nodes rs es end → Listing n before nodes rs ds to → (ds ≡ es) × (to ≡ end)
once n before nodes rs es ds end to (finished _ _ _) (finished _ _ _) = (refl, refl)
once n before nodes rs es ds end to (refused _ _ _ r rs₁ h) (refused _ _ _ _ _ g) = (refl, refl)
once n before nodes rs es ds end to (refused _ _ _ r rs₁ h) (opened _ _ _ _ _ bs _ a l) = absurd (h a)
once n before nodes rs es ds end to (opened _ _ _ r rs₁ fs _ a l) (refused _ _ _ _ _ g) = absurd (g a)
once n before nodes rs es ds end to (opened _ _ _ r rs₁ fs _ a l) (opened _ _ _ _ _ bs _ b m) =
    let h = once (n + 1) (Some r.depth) (r.depth ∷ shallower r.depth nodes) rs₁ fs bs end to l m in
    (ap (λ x. closings (as_deep r.depth nodes) ++ Open r.label ∷ x) h.0, h.1)

pub only_events : {L : Type 0} (rs : List (Record L)) (ds : List (Event L)) (to : Option TableFault) → Listing 0 None [] rs ds to → ds ≡ events_from 0 rs
only_events rs ds to d = (once 0 None [] rs (events_from 0 rs) ds (ending_from 0 0 rs) to (listed rs 0 0) d).0

pub only_ending : {L : Type 0} (rs : List (Record L)) (ds : List (Event L)) (to : Option TableFault) → Listing 0 None [] rs ds to → to ≡ ending_from 0 0 rs
only_ending rs ds to d = (once 0 None [] rs (events_from 0 rs) ds (ending_from 0 0 rs) to (listed rs 0 0) d).1

-- what a new table means, and nothing else
pub ruleset new_table = (listed, only_events, only_ending)
