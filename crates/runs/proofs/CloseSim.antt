-- A closing of the run is one of the reference model.
use Rattle.std.proofs.Common.{◌≡◌, ℕ, ◌<◌, Bool, ◌↔◌, List, [], ◌∷◌, ◌++◌, length, Some, Option, Result, sym, refl, ap, ◌∙◌, subst, inl, inr, ⊎_elim, append-nil, arith}
use lib.Bits.{bit_or}
use Rattle.std.specs.List.{slice_get}
use Rattle.std.proofs.lemmas.Bool.{cases_eq}
use Rattle.std.proofs.lemmas.Option.{same_Some}
use Rattle.rules.specs.declared.node.RuleNode.{RuleNode}
use Rattle.rules.specs.Rule.{Ordered}
use Rattle.rules.specs.Embedding.{Below, direct, deeper, ParentsFirst}
use Rattle.runs.specs.declared.levels.Level.{Level}
use Rattle.runs.specs.declared.refusal.Refusal.{Refusal}
use Rattle.runs.specs.declared.call.Call.TheVariants as call
use Rattle.runs.specs.Bits.{Has}
use Rattle.runs.specs.Words.{Words}
use Rattle.runs.specs.LevelCalls.{Found, Closes, above, joined}
use Rattle.runs.specs.Picks.{In}
use Rattle.runs.specs.Answers.{told_by, closed}
use Rattle.runs.specs.Model.{innermost, KeptChild, MeetsAt, OccursKept, closing, Does}
use Rattle.runs.specs.Stands.{SetModel, FitsAt, ClosedChild, FitsWithin, LevelStands, LevelsStand, Chain, Shows}
use Rattle.runs.proofs.BitLaws.{has_or}
use Rattle.runs.proofs.FitLaws.{found_fits, fits_found}
use Rattle.runs.proofs.EmbedLaws.{fits_embeds, embeds_fits}
use Rattle.runs.proofs.TreeLaws.{with_path, one_parent, chain_less}
use Rattle.runs.proofs.LevelLaws.{level_keep, levels_keep}

-- the tree with other open, closed and waiting nodes
abbrev pub moved : SetModel → List ℕ → List ℕ → List ℕ → SetModel
moved m vs cs ws = record { nodes = m.nodes; path = vs; dropped = m.dropped; closed = cs; waiting = ws; handed = m.handed }

module _ (rule : List RuleNode) (m : SetModel) (v : ℕ) (vs cs ws cs' ws' : List ℕ) (chain : Chain m (v ∷ vs)) (parents : ParentsFirst m.nodes) where
  abbrev m₀ : SetModel
  m₀ = moved m (v ∷ vs) cs ws

  abbrev m₁ : SetModel
  m₁ = moved m vs cs' ws'

  less : (d : ℕ) → In d vs → d < v
  less d i = chain_less m parents v vs chain d i

  -- a child of the innermost node is not open
  not_open : (d : ℕ) → KeptChild m v d → In d (v ∷ vs) → ⊥
  not_open d k (inl e) = let l : v < d = parents d v k.0.0 k.0.1 in omega arith
  not_open d k (inr i) = let l : v < d = parents d v k.0.0 k.0.1 in let g : d < v = less d i in omega arith

  module _ (l : Level) (w : ℕ) (found : Found rule l w) (stands : LevelStands rule m₀ v l) where
    met : (x : ℕ) → Has l.met x ↔ MeetsAt Has m x v
    met x = (
      λ h. (stands.met.0, l.met, stands.met.1, h),
      λ r.
          let s : ◌≡◌ {A = Option (Option ℕ × ℕ)} (Some (r.0, r.1)) (Some (stands.met.0, l.met)) = sym r.2 ∙ stands.met.1 in
          let t : ◌≡◌ {A = Option ℕ × ℕ} (r.0, r.1) (stands.met.0, l.met) = cc in
          let P : ℕ → Type 0 = λ b. Has b x in
          subst P (ap (λ (z : Option ℕ × ℕ). z.1) t) r.3,
    )

    childs : (y : ℕ) → Has l.child y ↔ ((d : ℕ) × KeptChild m v d × FitsAt rule m y d)
    childs y = (
      λ h. let r = (stands.child y).0 h in (r.0, r.1.0, r.2),
      λ r. (stands.child y).1 (r.0, (r.1, not_open r.0 r.1), r.2),
    )

    gather : (y c : ℕ) → Below (KeptChild m) v c → FitsAt rule m y c → (d : ℕ) × ClosedChild m₀ v d × FitsWithin rule m y d
    gather y c (direct k) f = (c, (k, not_open c k), inl f)
    gather y c (deeper {w = d} k b) f = (d, (k, not_open d k), inr (c, b, f))

    belows : (y : ℕ) → Has l.below y ↔ ((c : ℕ) × Below (KeptChild m) v c × FitsAt rule m y c)
    belows y = (
      λ h. let r = (stands.below y).0 h in
          ⊎_elim (λ f. (r.0, direct r.1.0, f)) (λ q. (q.0, deeper r.1.0 q.1, q.2)) r.2,
      λ r. (stands.below y).1 (gather y r.0 r.1 r.2),
    )

    pub word_fits : (x : ℕ) → Has w x → FitsAt rule m x v
    word_fits = found_fits rule (KeptChild m) (MeetsAt Has m) v l w found met childs belows

    pub fits_word : (x : ℕ) → FitsAt rule m x v → Has w x
    fits_word = fits_found rule (KeptChild m) (MeetsAt Has m) v l w found met childs belows

    module _ (u : ℕ) (us : List ℕ) (is : vs ≡ u ∷ us) where
      up : slice_get m.nodes v ≡ Some (Some u, chain.0.0)
      up = chain.0.1 ∙ ap (λ (p : Option ℕ). Some (p, chain.0.0)) (ap innermost is)

      -- v is a closed child of u now
      now_done : ClosedChild m₁ u v
      now_done = (((chain.0.0, up), chain.1), λ i. let g : v < v = less v i in omega arith)

      more_done : (x d : ℕ) → ClosedChild m₀ x d → ClosedChild m₁ x d
      more_done x d k = (k.0, λ i. k.1 (inr i))

      less_done : (x d : ℕ) → (d ≡ v → ⊥) → ClosedChild m₁ x d → ClosedChild m₀ x d
      less_done x d n k = (k.0, ⊎_elim n k.1)

      within_v : (y : ℕ) → FitsWithin rule m y v → Has (bit_or w l.below) y
      within_v y = ⊎_elim
          (λ f. (has_or w l.below y).1 (inl (fits_word y f)))
          (λ q. (has_or w l.below y).1 (inr ((belows y).1 q)))

      v_within : (y : ℕ) → Has (bit_or w l.below) y → FitsWithin rule m y v
      v_within y h = ⊎_elim (λ k. inl (word_fits y k)) (λ k. inr ((belows y).0 k)) ((has_or w l.below y).0 h)

      parent_stands : (p : Level) → LevelStands rule m₀ u p → LevelStands rule m₁ u (joined w l.below p)
      parent_stands p k = record {
        number = k.number;
        met = k.met;
        child = λ y. (
          λ h. ⊎_elim (λ g. let r = (k.child y).0 g in (r.0, more_done u r.0 r.1, r.2)) (λ g. (v, now_done, word_fits y g)) ((has_or p.child w y).0 h),
          λ r. (has_or p.child w y).1 (⊎_elim
              (λ e. let P : ℕ → Type 0 = λ d. FitsAt rule m y d in inr (fits_word y (subst P e r.2)))
              (λ n. inl ((k.child y).1 (r.0, less_done u r.0 n r.1, r.2)))
              (cases_eq r.0 v)),
        );
        below = λ y. (
          λ h. ⊎_elim (λ g. let r = (k.below y).0 g in (r.0, more_done u r.0 r.1, r.2)) (λ g. (v, now_done, v_within y g)) ((has_or p.below (bit_or w l.below) y).0 h),
          λ r. (has_or p.below (bit_or w l.below) y).1 (⊎_elim
              (λ e. let P : ℕ → Type 0 = λ d. FitsWithin rule m y d in inr (within_v y (subst P e r.2)))
              (λ n. inl ((k.below y).1 (r.0, less_done u r.0 n r.1, r.2)))
              (cases_eq r.0 v)),
        );
      }

      -- the levels further out
      outer_stands : (x : ℕ) (p : Level) → x < u → LevelStands rule m₀ x p → LevelStands rule m₁ x p
      outer_stands x p l₁ k =
          level_keep rule m₀ m₁ x p (λ q a e. e)
          (λ d. (
            more_done x d,
            λ q. less_done x d (λ e.
                let f : x ≡ u = same_Some x u (one_parent m.nodes v (Some x) (Some u) q.0.0.0 chain.0.0 (ap (slice_get m.nodes) (sym e) ∙ q.0.0.1) up) in
                let z : ⊥ = omega arith in z) q,
          ))
          (λ d y q. (λ f. f, λ f. f)) (λ d y q. (λ f. f, λ f. f)) k

    pub levels_close : (us : List ℕ) → vs ≡ us → (ps : List Level) → LevelsStand rule m₀ us ps → LevelsStand rule m₁ us (above w l.below ps)
    levels_close [] is [] s = tt
    levels_close [] is (p ∷ ps) s = absurd s
    levels_close (u ∷ us) is [] s = absurd s
    levels_close (u ∷ us) is (p ∷ ps) s =
        let P : List ℕ → Type 0 = λ xs. Chain m xs in (
          parent_stands u us is p s.0,
          levels_keep rule m₀ m₁ us ps (λ x q i k. outer_stands u us is x q (chain_less m parents u us (subst P is chain.2) x i) k) s.1,
        )

module _ (rule : List RuleNode) (ordered : Ordered rule) (some : 0 < length rule) (m : SetModel) where
  occurs : (v : ℕ) → FitsAt rule m 0 v → OccursKept rule Has m v
  occurs v f = fits_embeds rule ordered some (KeptChild m) (MeetsAt Has m) v f

  fitting : (v : ℕ) → OccursKept rule Has m v → FitsAt rule m 0 v
  fitting v o = embeds_fits rule ordered some (KeptChild m) (MeetsAt Has m) v o.0 o.1

  close_at : {s s' : Words} {r : Result Bool Refusal} (vs : List ℕ) → Shows rule s (with_path m vs) → Closes rule s r s'
      → (m' : SetModel) × Does rule Has (with_path m vs) call.Close (told_by closed r) m' × Shows rule s' m'
  close_at [] h (Closes.none e) = (with_path m [], Does.none_to_close refl, h)
  close_at [] h (Closes.full l ps w e found k n) = let P : List Level → Type 0 = LevelsStand rule (with_path m []) [] in absurd (subst P e h.levels)
  close_at [] h (Closes.selects l ps w e found k n) = let P : List Level → Type 0 = LevelsStand rule (with_path m []) [] in absurd (subst P e h.levels)
  close_at [] h (Closes.passes l ps w e found k) = let P : List Level → Type 0 = LevelsStand rule (with_path m []) [] in absurd (subst P e h.levels)
  close_at (v ∷ vs) h (Closes.none e) = let P : List Level → Type 0 = LevelsStand rule (with_path m (v ∷ vs)) (v ∷ vs) in absurd (subst P e h.levels)
  close_at (v ∷ vs) h (Closes.full l ps w e found k n) =
      let P : List Level → Type 0 = LevelsStand rule (with_path m (v ∷ vs)) (v ∷ vs) in
      let q = subst P e h.levels in (
        with_path m (v ∷ vs),
        Does.waiting_full v vs refl (occurs v (word_fits rule m v vs m.closed m.waiting [] [] h.chain h.parents l w found q.0 0 k)) (ap length (sym h.waiting) ∙ n),
        h,
      )
  close_at (v ∷ vs) h (Closes.selects l ps w e found k n) =
      let P : List Level → Type 0 = LevelsStand rule (with_path m (v ∷ vs)) (v ∷ vs) in
      let q = subst P e h.levels in (
        closing m v vs (v ∷ []),
        Does.selects v vs refl (occurs v (word_fits rule m v vs m.closed m.waiting [] [] h.chain h.parents l w found q.0 0 k)) (omega (arith, ap length h.waiting)),
        record {
          opened = h.opened;
          waiting = ap (λ (xs : List ℕ). xs ++ l.number ∷ []) h.waiting ∙ ap (λ (x : ℕ). m.waiting ++ x ∷ []) q.0.number;
          levels = levels_close rule m v vs m.closed m.waiting (m.closed ++ v ∷ []) (m.waiting ++ v ∷ []) h.chain h.parents l w found q.0 vs refl ps q.1;
          chain = h.chain.2;
          parents = h.parents;
          inside = h.inside;
        },
      )
  close_at (v ∷ vs) h (Closes.passes l ps w e found k) =
      let P : List Level → Type 0 = LevelsStand rule (with_path m (v ∷ vs)) (v ∷ vs) in
      let q = subst P e h.levels in (
        closing m v vs [],
        Does.passes v vs refl (λ o. k (fits_word rule m v vs m.closed m.waiting [] [] h.chain h.parents l w found q.0 0 (fitting v o))),
        record {
          opened = h.opened;
          waiting = h.waiting ∙ sym (append-nil m.waiting);
          levels = levels_close rule m v vs m.closed m.waiting (m.closed ++ v ∷ []) (m.waiting ++ []) h.chain h.parents l w found q.0 vs refl ps q.1;
          chain = h.chain.2;
          parents = h.parents;
          inside = h.inside;
        },
      )

  pub close_sim : {s s' : Words} {r : Result Bool Refusal} → Shows rule s m → Closes rule s r s'
      → (m' : SetModel) × Does rule Has m call.Close (told_by closed r) m' × Shows rule s' m'
  close_sim h c = close_at m.path h c
