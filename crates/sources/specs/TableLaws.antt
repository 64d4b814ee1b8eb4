-- A table that is done closes what it opens.
use Rattle.std.specs.Prelude.{◌≡◌, ℕ, zero, suc, ◌+◌, ◌-◌, ◌≤◌, Bool, true, false, List, [], ◌∷◌, ◌++◌, drop, Some, None, refl}
use Rattle.std.proofs.Common.{ltb, arith, ltb-false}
use Rattle.sources.specs.declared.event.Event.{Event}
use Rattle.sources.specs.declared.event.Event.TheVariants.{Open}
use Rattle.sources.specs.Events.{ClosedFrom}
use Rattle.sources.specs.Table.{closings, events_from, ending_from, table_events, table_ending}
use Rattle.sources.specs.declared.record.Record.{Record}
use Rattle.sources.specs.declared.record.FolderTable.{FolderTable}
use Rattle.sources.specs.declared.fault.TableFault.TheVariants.{WrongDepth}

closed_closings : (L : Type 0) (k level : ℕ) → k ≤ level → ClosedFrom {L = L} k (closings level)
closed_closings L zero zero h = tt
closed_closings L zero (suc l) h = closed_closings L zero l (omega arith)
closed_closings L (suc k) zero h = absurd (omega (arith, h))
closed_closings L (suc k) (suc l) h = closed_closings L k l (omega arith)

closed_after : {L : Type 0} (k m : ℕ) (es : List (Event L)) → ClosedFrom (k - m) es → ClosedFrom k (closings m ++ es)
closed_after k zero es h = let e : k - 0 ≡ k = omega arith in rw e at h
closed_after zero (suc m) es h = let e : 0 - suc m ≡ 0 - m = omega arith in closed_after zero m es (rw e at h)
closed_after (suc k) (suc m) es h = let e : suc k - suc m ≡ k - m = omega arith in closed_after k m es (rw e at h)

closed : {L : Type 0} (rs : List (Record L)) (n k level : ℕ) → k ≤ level → ending_from n level rs ≡ None → ClosedFrom k (events_from level rs)
closed {L} [] n k level h e = closed_closings L k level h
closed {L} (r ∷ rs) n k level h e = by_test (λ k₁ l₁ h₁ e₁. closed rs (n + 1) k₁ l₁ h₁ e₁) (ltb level r.depth) refl
  where
    by_test : ((k₁ l₁ : ℕ) → k₁ ≤ l₁ → ending_from (n + 1) l₁ rs ≡ None → ClosedFrom k₁ (events_from l₁ rs)) →
        (b : Bool) → ltb level r.depth ≡ b → ClosedFrom k (events_from level (r ∷ rs))
    by_test go true t =
        let f : Some (WrongDepth n) ≡ None = rw t at e in
        let z : ◌≡◌ {A = ℕ} 0 1 = cc in
        absurd (omega arith)
    by_test go false t =
        let le : r.depth ≤ level = ltb-false level r.depth t in
        let f : ending_from (n + 1) (r.depth + 1) rs ≡ None = rw t at e in
        let c = go (suc (k - (level - r.depth))) (r.depth + 1) (omega arith) f in
        rw t (closed_after k (level - r.depth) (Open r.label ∷ events_from (r.depth + 1) rs) c)

pub table_nested : {L : Type 0} (s : FolderTable L) → table_ending s ≡ None → ClosedFrom 0 (table_events s)
table_nested s e = closed (drop s.place s.records.now) s.place 0 s.level (omega arith) e
