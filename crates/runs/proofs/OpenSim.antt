-- An opening and a dropping of the run are those of the reference model.
use Rattle.std.proofs.Common.{◌≡◌, ℕ, suc, ◌+◌, ◌<◌, ◌↔◌, List, [], ◌∷◌, length, Ok, Result, sym, refl, ap, ◌∙◌, subst, inl, inr, ⊎_elim, arith}
use Rattle.rules.specs.declared.node.RuleNode.{RuleNode}
use Rattle.rules.specs.Embedding.{ParentsFirst}
use Rattle.std.proofs.lemmas.Option.{slice_get_within}
use Rattle.rules.proofs.Selects.{slice_get_longer}
use Rattle.runs.specs.declared.levels.Level.{Level}
use Rattle.runs.specs.declared.refusal.Refusal.{Refusal}
use Rattle.runs.specs.declared.call.Call.TheVariants as call
use Rattle.runs.specs.Bits.{Has}
use Rattle.runs.specs.Words.{Words}
use Rattle.runs.specs.LevelCalls.{Opens, Drops}
use Rattle.runs.specs.Picks.{In}
use Rattle.runs.specs.Answers.{told_by, opened, dropped}
use Rattle.runs.specs.Model.{innermost, KeptChild, opening, dropping, Does}
use Rattle.runs.specs.Stands.{SetModel, ClosedChild, LevelsStand, Chain, Shows}
use Rattle.runs.proofs.BitLaws.{has_none}
use Rattle.runs.proofs.TreeLaws.{with_path, Off, drop_fw, drop_bw, drop_chain, drop_inside, Off₁, longer, last, within₁, child_on, child_off, open_fw, open_bw, same₁, open_chain, open_parents, open_inside}
use Rattle.runs.proofs.LevelLaws.{level_keep, levels_keep, fits_same, within_same}

-- ---- dropping the innermost open node v
module _ (rule : List RuleNode) (m : SetModel) (v : ℕ) (vs : List ℕ) (chain : Chain m (v ∷ vs)) (parents : ParentsFirst m.nodes) where
  abbrev m₀ : SetModel
  m₀ = with_path m (v ∷ vs)

  abbrev m₁ : SetModel
  m₁ = dropping m v vs

  abbrev fw : (u d : ℕ) → Off m v vs chain parents u → KeptChild m₀ u d → Off m v vs chain parents d × KeptChild m₁ u d
  fw = drop_fw m v vs chain parents

  abbrev bw : (u d : ℕ) → Off m v vs chain parents u → KeptChild m₁ u d → Off m v vs chain parents d × KeptChild m₀ u d
  bw = drop_bw m v vs chain parents

  done_same : (u d : ℕ) → ClosedChild m₀ u d ↔ ClosedChild m₁ u d
  done_same u d = (
    λ k. ((k.0.0, ⊎_elim (λ e. k.1 (inl e)) k.0.1), λ i. k.1 (inr i)),
    λ k. ((k.0.0, λ i. k.0.1 (inr i)), ⊎_elim (λ e. k.0.1 (inl e)) k.1),
  )

  drop_levels : (ls : List Level) → LevelsStand rule m₀ vs ls → LevelsStand rule m₁ vs ls
  drop_levels ls = levels_keep rule m₀ m₁ vs ls (λ u l i.
      level_keep rule m₀ m₁ u l (λ p a e. e) (done_same u)
      (λ d y k. fits_same rule m₀ m₁ (Off m v vs chain parents) fw bw (λ z q. refl) d y k.1)
      (λ d y k. within_same rule m₀ m₁ (Off m v vs chain parents) fw bw (λ z q. refl) d y k.1))

  pub drop_shows : (s : Words) (l : Level) (ps : List Level) → s.stack ≡ l ∷ ps → Shows rule s m₀
      → Shows rule (record { stack = ps; opened = s.opened; waiting = s.waiting }) m₁
  drop_shows s l ps e h =
      let P : List Level → Type 0 = LevelsStand rule m₀ (v ∷ vs) in
      let k = subst P e h.levels in
      record {
        opened = h.opened;
        waiting = h.waiting;
        levels = drop_levels ps k.1;
        chain = drop_chain m v vs chain parents;
        parents = parents;
        inside = drop_inside m v vs chain parents h.inside;
      }

module _ (rule : List RuleNode) (m : SetModel) where
  drop_at : {s s' : Words} {r : Result (Unit {0}) Refusal} (vs : List ℕ) → Shows rule s (with_path m vs) → Drops s r s'
      → (m' : SetModel) × Does rule Has (with_path m vs) call.Drop (told_by (λ _. dropped) r) m' × Shows rule s' m'
  drop_at [] h (Drops.none e) = (with_path m [], Does.none_to_drop refl, h)
  drop_at [] h (Drops.drops l ps e) = let P : List Level → Type 0 = LevelsStand rule (with_path m []) [] in absurd (subst P e h.levels)
  drop_at (v ∷ vs) h (Drops.none e) = let P : List Level → Type 0 = LevelsStand rule (with_path m (v ∷ vs)) (v ∷ vs) in absurd (subst P e h.levels)
  drop_at {s = s} (v ∷ vs) h (Drops.drops l ps e) =
      (dropping m v vs, Does.drops v vs refl, drop_shows rule m v vs h.chain h.parents s l ps e h)

  pub drop_sim : {s s' : Words} {r : Result (Unit {0}) Refusal} → Shows rule s m → Drops s r s'
      → (m' : SetModel) × Does rule Has m call.Drop (told_by (λ _. dropped) r) m' × Shows rule s' m'
  drop_sim h c = drop_at m.path h c

-- ---- opening a node that meets the tests w
module _ (rule : List RuleNode) (m : SetModel) (w : ℕ) (chain : Chain m m.path) (parents : ParentsFirst m.nodes)
    (inside : (d : ℕ) → In d m.dropped → d < length m.nodes) where
  abbrev n : ℕ
  n = length m.nodes

  abbrev o₁ : SetModel
  o₁ = opening m w

  abbrev Old : ℕ → Type 0
  Old = Off₁ m w chain parents inside

  done_same₁ : (u d : ℕ) → ClosedChild m u d ↔ ClosedChild o₁ u d
  done_same₁ u d = (
    λ k. (child_on m w chain parents inside u d k.0, ⊎_elim (λ e. let l = slice_get_within m.nodes d _ k.0.0.1 in let z : ⊥ = omega arith in z) k.1),
    λ k. ⊎_elim (λ l. (child_off m w chain parents inside u d l k.0, λ i. k.1 (inr i))) (λ e. absurd (k.1 (inl e))) (within₁ m w chain parents inside d _ k.0.0.1),
  )

  no_child : (d : ℕ) → ClosedChild o₁ n d → ⊥
  no_child d k = ⊎_elim
      (λ l. let j = child_off m w chain parents inside n d l k.0 in let g : length m.nodes < d = parents d n j.0.0 j.0.1 in let h : d < length m.nodes = l in omega arith)
      (λ e. k.1 (inl e))
      (within₁ m w chain parents inside d _ k.0.0.1)

  open_levels : (ls : List Level) → LevelsStand rule m m.path ls → LevelsStand rule o₁ (n ∷ m.path) (record { met = w; child = 0; below = 0; number = n } ∷ ls)
  open_levels ls s = (
    record {
      number = refl;
      met = (innermost m.path, last m w chain parents inside);
      child = λ y. (λ h. absurd (has_none y h), λ r. absurd (no_child r.0 r.1));
      below = λ y. (λ h. absurd (has_none y h), λ r. absurd (no_child r.0 r.1));
    },
    levels_keep rule m o₁ m.path ls (λ u l i.
        level_keep rule m o₁ u l (λ p a e. slice_get_longer m.nodes ((innermost m.path, w) ∷ []) u _ e) (done_same₁ u)
        (λ d y k. fits_same rule m o₁ Old (open_fw m w chain parents inside) (open_bw m w chain parents inside) (same₁ m w chain parents inside) d y (slice_get_within m.nodes d _ k.0.0.1, k.1))
        (λ d y k. within_same rule m o₁ Old (open_fw m w chain parents inside) (open_bw m w chain parents inside) (same₁ m w chain parents inside) d y (slice_get_within m.nodes d _ k.0.0.1, k.1))) s,
  )

  pub open_shows : (s : Words) → s.opened ≡ n → Shows rule s m
      → Shows rule (record { stack = record { met = w; child = 0; below = 0; number = n } ∷ s.stack; opened = n + 1; waiting = s.waiting }) o₁
  open_shows s e h = record {
    opened = sym (longer m w chain parents inside);
    waiting = h.waiting;
    levels = open_levels s.stack h.levels;
    chain = open_chain m w chain parents inside;
    parents = open_parents m w chain parents inside;
    inside = open_inside m w chain parents inside;
  }

pub same_length : (rule : List RuleNode) (m : SetModel) (vs : List ℕ) (ls : List Level) → LevelsStand rule m vs ls → length ls ≡ length vs
same_length rule m [] [] s = refl
same_length rule m [] (l ∷ ls) s = absurd s
same_length rule m (v ∷ vs) [] s = absurd s
same_length rule m (v ∷ vs) (l ∷ ls) s = ap suc (same_length rule m vs ls s.1)

pub open_sim : (rule : List RuleNode) (m : SetModel) (w : ℕ) {s s' : Words} {r : Result ℕ Refusal} → Shows rule s m → Opens w s r s'
    → (m' : SetModel) × Does rule Has m (call.Open w) (told_by opened r) m' × Shows rule s' m'
open_sim rule m w {s} h (Opens.deep e) = (m, Does.too_deep w (sym (same_length rule m m.path s.stack h.levels) ∙ e), h)
open_sim rule m w {s} h (Opens.many e f) =
    (m, Does.too_many w (omega (arith, same_length rule m m.path s.stack h.levels)) (sym h.opened ∙ f), h)
open_sim rule m w {s} h (Opens.fine e f) =
    let P : ℕ → Type 0 = λ k. (m' : SetModel) × Does rule Has m (call.Open w) (told_by opened (Ok k)) m'
    × Shows rule (record { stack = record { met = w; child = 0; below = 0; number = k } ∷ s.stack; opened = k + 1; waiting = s.waiting }) m' in
    subst P (sym h.opened) (
      opening m w,
      Does.opens w (omega (arith, same_length rule m m.path s.stack h.levels)) (omega (arith, h.opened)),
      open_shows rule m w h.chain h.parents h.inside s h.opened h,
    )
