-- Every state that the reference model reaches has the selected closed nodes handed out and waiting.
use Rattle.std.proofs.Common.{◌≡◌, ℕ, ◌<◌, ◌↔◌, List, [], ◌∷◌, ◌++◌, length, take, drop, sym, refl, ap, ◌∙◌, subst, inl, inr, ⊎_elim, append-nil, append_assoc, arith}
use Rattle.std.specs.List.{slice_get}
use Rattle.std.proofs.lemmas.List.{take-append-drop}
use Rattle.std.proofs.lemmas.Option.{slice_get_within}
use Rattle.rules.specs.declared.node.RuleNode.{RuleNode}
use Rattle.rules.specs.Rule.{Ordered}
use Rattle.rules.specs.Embedding.{ParentsFirst}
use Rattle.runs.specs.declared.call.Call.{Call}
use Rattle.runs.specs.Answers.{Told}
use Rattle.runs.specs.Picks.{In, Once, Picks}
use Rattle.runs.specs.Model.{Model, empty, KeptChild, MeetsAt, OccursKept, opening, closing, dropping, taking, Does, Plays, Selected}
use Rattle.runs.specs.Stands.{Chain}
use Rattle.runs.proofs.FitLaws.{fits_moves}
use Rattle.runs.proofs.EmbedLaws.{fits_embeds, embeds_fits}
use Rattle.runs.proofs.PickLaws.{in_push, once_push, picks_like, picks_keep, picks_skip}
use Rattle.runs.proofs.TreeLaws.{chain_less, in_chain, Off, drop_fw, drop_bw, drop_chain, drop_inside, Off₁, longer, open_fw, open_bw, same₁, open_chain, open_parents, open_inside}

module _ {A : Type 0} (rule : List RuleNode) (meets : A → ℕ → Type 0) (ordered : Ordered rule) (some : 0 < length rule) where
  -- the rule occurs at v in two models that agree at v and below
  occurs_moves : (m m' : Model A) (Q : ℕ → Type 0)
      → ((u v : ℕ) → Q u → KeptChild m u v → Q v × KeptChild m' u v)
      → ((v : ℕ) → Q v → slice_get m.nodes v ≡ slice_get m'.nodes v)
      → (v : ℕ) → Q v → OccursKept rule meets m v → OccursKept rule meets m' v
  occurs_moves m m' Q down same v q o =
      fits_embeds rule ordered some (KeptChild m') (MeetsAt meets m') v
      (fits_moves rule (KeptChild m) (KeptChild m') (MeetsAt meets m) (MeetsAt meets m') Q down
      (λ x u k h. (h.0, h.1, sym (same u k) ∙ h.2, h.3)) q
      (embeds_fits rule ordered some (KeptChild m) (MeetsAt meets m) v o.0 o.1))

  -- what holds of every state that is reached
  pub record Sound (m : Model A) : Type 0 where
    pub chain : Chain m m.path
    pub parents : ParentsFirst m.nodes
    pub inside : (d : ℕ) → In d m.dropped → d < length m.nodes
    pub settled : (d : ℕ) → In d m.closed → (d < length m.nodes) × (In d m.path → ⊥)
    pub selected : Selected rule meets m

  pub empty_sound : Sound empty
  empty_sound = record {
    chain = tt;
    parents = λ v u l e. let w = slice_get_within [] v _ e in absurd (omega arith);
    inside = λ d i. absurd i;
    settled = λ d i. absurd i;
    selected = record { picked = Picks.none; once = tt };
  }

  -- v is the innermost open node, and vs are open outside it
  module _ (m : Model A) (v : ℕ) (vs : List ℕ) (is : m.path ≡ v ∷ vs) (s : Sound m) where
    top : Chain m (v ∷ vs)
    top = subst (λ (us : List ℕ). Chain m us) is s.chain

    no_more : (d : ℕ) → In d m.closed → In d (v ∷ vs) → ⊥
    no_more d i = let P : List ℕ → Type 0 = λ us. In d us → ⊥ in subst P is (s.settled d i).1

    lower : (d : ℕ) → In d vs → d < v
    lower d i = chain_less m s.parents v vs top d i

    closing_settled : (d : ℕ) → In d (m.closed ++ v ∷ []) → (d < length m.nodes) × (In d vs → ⊥)
    closing_settled d i = ⊎_elim
        (λ k. ((s.settled d k).0, λ j. no_more d k (inr j)))
        (λ e. let l : v < length m.nodes = in_chain m (v ∷ vs) top v (inl refl) in
        (omega arith, λ j. let g : d < v = lower d j in omega arith))
        (in_push m.closed v d i)

    closing_once : Once (m.closed ++ v ∷ [])
    closing_once = once_push m.closed v s.selected.once (λ i. no_more v i (inl refl))

    closing_sound : (ws : List ℕ) → Picks (OccursKept rule meets m) (m.closed ++ v ∷ []) (m.handed ++ (m.waiting ++ ws)) → Sound (closing m v vs ws)
    closing_sound ws picked = record {
      chain = top.2;
      parents = s.parents;
      inside = s.inside;
      settled = closing_settled;
      selected = record { picked = picked; once = closing_once };
    }

    pub selects_sound : OccursKept rule meets m v → Sound (closing m v vs (v ∷ []))
    selects_sound o =
        let P : List ℕ → Type 0 = λ ws. Picks (OccursKept rule meets m) (m.closed ++ v ∷ []) ws in
        closing_sound (v ∷ []) (subst P (append_assoc m.handed m.waiting (v ∷ [])) (picks_keep v o s.selected.picked))

    pub passes_sound : (OccursKept rule meets m v → ⊥) → Sound (closing m v vs [])
    passes_sound n =
        let P : List ℕ → Type 0 = λ ws. Picks (OccursKept rule meets m) (m.closed ++ v ∷ []) (m.handed ++ ws) in
        closing_sound [] (subst P (sym (append-nil m.waiting)) (picks_skip v n s.selected.picked))

    pub dropping_sound : Sound (dropping m v vs)
    dropping_sound =
        let Q : ℕ → Type 0 = Off m v vs top s.parents in
        let same : (d : ℕ) → In d m.closed → OccursKept rule meets m d ↔ OccursKept rule meets (dropping m v vs) d = λ d i. (
          occurs_moves m (dropping m v vs) Q (drop_fw m v vs top s.parents) (λ u q. refl) d (no_more d i),
          occurs_moves (dropping m v vs) m Q (drop_bw m v vs top s.parents) (λ u q. refl) d (no_more d i),
        ) in
        record {
          chain = drop_chain m v vs top s.parents;
          parents = s.parents;
          inside = drop_inside m v vs top s.parents s.inside;
          settled = λ d i. ((s.settled d i).0, λ j. no_more d i (inr j));
          selected = record {
            picked = picks_like (OccursKept rule meets m) (OccursKept rule meets (dropping m v vs)) s.selected.picked same;
            once = s.selected.once;
          };
        }

  opening_sound : (m : Model A) (a : A) → Sound m → Sound (opening m a)
  opening_sound m a s =
      let Q : ℕ → Type 0 = Off₁ m a s.chain s.parents s.inside in
      let same = same₁ m a s.chain s.parents s.inside in
      let both : (d : ℕ) → In d m.closed → OccursKept rule meets m d ↔ OccursKept rule meets (opening m a) d = λ d i. (
        occurs_moves m (opening m a) Q (open_fw m a s.chain s.parents s.inside) same d (s.settled d i),
        occurs_moves (opening m a) m Q (open_bw m a s.chain s.parents s.inside) (λ u q. sym (same u q)) d (s.settled d i),
      ) in
      record {
        chain = open_chain m a s.chain s.parents s.inside;
        parents = open_parents m a s.chain s.parents s.inside;
        inside = open_inside m a s.chain s.parents s.inside;
        settled = λ d i. let l : d < length m.nodes = (s.settled d i).0 in (
          omega (arith, longer m a s.chain s.parents s.inside),
          ⊎_elim (λ e. let z : ⊥ = omega arith in z) (s.settled d i).1,
        );
        selected = record {
          picked = picks_like (OccursKept rule meets m) (OccursKept rule meets (opening m a)) s.selected.picked both;
          once = s.selected.once;
        };
      }

  pub taking_sound : (m : Model A) (n : ℕ) → Sound m → Sound (taking m n)
  taking_sound m n s = record {
    chain = s.chain;
    parents = s.parents;
    inside = s.inside;
    settled = s.settled;
    selected = record {
      picked = let P : List ℕ → Type 0 = λ ws. Picks (OccursKept rule meets m) m.closed ws in
          subst P (ap (λ (ws : List ℕ). m.handed ++ ws) (sym (take-append-drop n m.waiting)) ∙ sym (append_assoc m.handed (take n m.waiting) (drop n m.waiting))) s.selected.picked;
      once = s.selected.once;
    };
  }

  pub does_sound : {m m' : Model A} {c : Call A} {t : Told} → Sound m → Does rule meets m c t m' → Sound m'
  does_sound s (Does.too_deep a e) = s
  does_sound s (Does.too_many a e f) = s
  does_sound {m} s (Does.opens a e f) = opening_sound m a s
  does_sound s (Does.none_to_close e) = s
  does_sound s (Does.waiting_full v vs e o f) = s
  does_sound {m} s (Does.selects v vs e o f) = selects_sound m v vs e s o
  does_sound {m} s (Does.passes v vs e n) = passes_sound m v vs e s n
  does_sound s (Does.none_to_drop e) = s
  does_sound {m} s (Does.drops v vs e) = dropping_sound m v vs e s
  does_sound {m} s (Does.takes n) = taking_sound m n s

  pub plays_sound : {m m' : Model A} {cs : List (Call A)} {ts : List Told} → Sound m → Plays rule meets m cs ts m' → Sound m'
  plays_sound s Plays.done = s
  plays_sound s (Plays.more d p) = plays_sound (does_sound s d) p
