-- Calls one after another on the reference model.
use Rattle.std.proofs.Common.{◌≡◌, ℕ, zero, suc, List, [], ◌∷◌, ◌++◌, take, sym, refl, ap, ap₂, ◌∙◌, subst, append-nil, append_assoc, arith}
use Rattle.rules.specs.declared.node.RuleNode.{RuleNode}
use Rattle.runs.specs.declared.call.Call.{Call}
use Rattle.runs.specs.Answers.{Told}
use Rattle.runs.specs.Model.{Model, OccursKept, closing, dropping, Does, Plays}

module _ {A : Type 0} (rule : List RuleNode) (meets : A → ℕ → Type 0) where
  -- one call more at the end
  pub plays_more : {m m₁ m₂ : Model A} {cs : List (Call A)} {ts : List Told} {c : Call A} {t : Told}
      → Plays rule meets m cs ts m₁ → Does rule meets m₁ c t m₂ → Plays rule meets m (cs ++ c ∷ []) (ts ++ t ∷ []) m₂
  plays_more Plays.done d = Plays.more d Plays.done
  plays_more (Plays.more e p) d = Plays.more e (plays_more p d)

  -- what is handed out stays handed out
  pub does_hand : {m m' : Model A} {c : Call A} {t : Told} → Does rule meets m c t m' → (hs : List ℕ) × (m'.handed ≡ m.handed ++ hs)
  does_hand {m} (Does.too_deep a e) = ([], sym (append-nil m.handed))
  does_hand {m} (Does.too_many a e f) = ([], sym (append-nil m.handed))
  does_hand {m} (Does.opens a e f) = ([], sym (append-nil m.handed))
  does_hand {m} (Does.none_to_close e) = ([], sym (append-nil m.handed))
  does_hand {m} (Does.waiting_full v vs e o f) = ([], sym (append-nil m.handed))
  does_hand {m} (Does.selects v vs e o f) = ([], sym (append-nil m.handed))
  does_hand {m} (Does.passes v vs e n) = ([], sym (append-nil m.handed))
  does_hand {m} (Does.none_to_drop e) = ([], sym (append-nil m.handed))
  does_hand {m} (Does.drops v vs e) = ([], sym (append-nil m.handed))
  does_hand {m} (Does.takes n) = (take n m.waiting, refl)

  pub plays_hand : {m m' : Model A} {cs : List (Call A)} {ts : List Told} → Plays rule meets m cs ts m' → (hs : List ℕ) × (m'.handed ≡ m.handed ++ hs)
  plays_hand {m} Plays.done = ([], sym (append-nil m.handed))
  plays_hand {m} (Plays.more d p) =
      let h = does_hand d in
      let k = plays_hand p in
      (h.0 ++ k.0, k.1 ∙ ap (λ (ys : List ℕ). ys ++ k.0) h.1 ∙ append_assoc m.handed h.0 k.0)

  -- the calls up to the k-th
  pub record Begun (m m' : Model A) (cs : List (Call A)) (ts : List Told) (k : ℕ) : Type 0 where
    pub state : Model A
    pub plays : Plays rule meets m (take k cs) (take k ts) state
    pub later : List ℕ
    pub handed : m'.handed ≡ state.handed ++ later

  pub begun : {m m' : Model A} {cs : List (Call A)} {ts : List Told} → Plays rule meets m cs ts m' → (k : ℕ) → Begun m m' cs ts k
  begun {m} p zero = let h = plays_hand p in record { state = m; plays = Plays.done; later = h.0; handed = h.1 }
  begun {m} Plays.done (suc k) = record { state = m; plays = Plays.done; later = []; handed = sym (append-nil m.handed) }
  begun {m = m} {m' = m'} (Plays.more {m₁ = m₁} {c = c} {cs = cs} {t = t} {ts = ts} d p) (suc k) =
      let r = begun {m = m₁} p k in
      record { state = r.state; plays = Plays.more d r.plays; later = r.later; handed = r.handed }

  -- a call does one thing
  no_head : (vs us : List ℕ) (v : ℕ) → vs ≡ [] → vs ≡ v ∷ us → ⊥
  no_head vs us v e f = let z : ◌≡◌ {A = ℕ} 0 1 = cc in omega arith

  heads : (ws vs us : List ℕ) (v u : ℕ) → ws ≡ v ∷ vs → ws ≡ u ∷ us → (v ≡ u) × (vs ≡ us)
  heads ws vs us v u e f = (let z : v ≡ u = cc in z, let z : vs ≡ us = cc in z)

  clash : (m : Model A) (vs us : List ℕ) (v u : ℕ) → m.path ≡ v ∷ vs → m.path ≡ u ∷ us → OccursKept rule meets m v → (OccursKept rule meets m u → ⊥) → ⊥
  clash m vs us v u e f p n = n (subst (OccursKept rule meets m) (heads m.path vs us v u e f).0 p)

  pub does_one : {m m₁ : Model A} {c : Call A} {t₁ : Told} → Does rule meets m c t₁ m₁ → {m₂ : Model A} {t₂ : Told} → Does rule meets m c t₂ m₂
      → (t₂ ≡ t₁) × (m₂ ≡ m₁)
  does_one (Does.too_deep a e) (Does.too_deep b f) = (refl, refl)
  does_one (Does.too_deep a e) (Does.too_many b f g) = absurd (omega arith)
  does_one (Does.too_deep a e) (Does.opens b f g) = absurd (omega arith)
  does_one (Does.too_many a e h) (Does.too_deep b f) = absurd (omega arith)
  does_one (Does.too_many a e h) (Does.too_many b f g) = (refl, refl)
  does_one (Does.too_many a e h) (Does.opens b f g) = absurd (omega arith)
  does_one (Does.opens a e h) (Does.too_deep b f) = absurd (omega arith)
  does_one (Does.opens a e h) (Does.too_many b f g) = absurd (omega arith)
  does_one (Does.opens a e h) (Does.opens b f g) = (refl, refl)
  does_one (Does.none_to_close e) (Does.none_to_close f) = (refl, refl)
  does_one {m} (Does.none_to_close e) (Does.waiting_full u us f q g) = absurd (no_head m.path us u e f)
  does_one {m} (Does.none_to_close e) (Does.selects u us f q g) = absurd (no_head m.path us u e f)
  does_one {m} (Does.none_to_close e) (Does.passes u us f q) = absurd (no_head m.path us u e f)
  does_one {m} (Does.waiting_full v vs e p h) (Does.none_to_close f) = absurd (no_head m.path vs v f e)
  does_one (Does.waiting_full v vs e p h) (Does.waiting_full u us f q g) = (refl, refl)
  does_one (Does.waiting_full v vs e p h) (Does.selects u us f q g) = absurd (omega arith)
  does_one {m} (Does.waiting_full v vs e p h) (Does.passes u us f q) = absurd (clash m vs us v u e f p q)
  does_one {m} (Does.selects v vs e p h) (Does.none_to_close f) = absurd (no_head m.path vs v f e)
  does_one (Does.selects v vs e p h) (Does.waiting_full u us f q g) = absurd (omega arith)
  does_one {m} (Does.selects v vs e p h) (Does.selects u us f q g) =
      let k = heads m.path us vs u v f e in
      (refl, ap₂ (λ (x : ℕ) (xs : List ℕ). closing m x xs (x ∷ [])) k.0 k.1)
  does_one {m} (Does.selects v vs e p h) (Does.passes u us f q) = absurd (clash m vs us v u e f p q)
  does_one {m} (Does.passes v vs e p) (Does.none_to_close f) = absurd (no_head m.path vs v f e)
  does_one {m} (Does.passes v vs e p) (Does.waiting_full u us f q g) = absurd (clash m us vs u v f e q p)
  does_one {m} (Does.passes v vs e p) (Does.selects u us f q g) = absurd (clash m us vs u v f e q p)
  does_one {m} (Does.passes v vs e p) (Does.passes u us f q) =
      let k = heads m.path us vs u v f e in
      (refl, ap₂ (λ (x : ℕ) (xs : List ℕ). closing m x xs []) k.0 k.1)
  does_one (Does.none_to_drop e) (Does.none_to_drop f) = (refl, refl)
  does_one {m} (Does.none_to_drop e) (Does.drops u us f) = absurd (no_head m.path us u e f)
  does_one {m} (Does.drops v vs e) (Does.none_to_drop f) = absurd (no_head m.path vs v f e)
  does_one {m} (Does.drops v vs e) (Does.drops u us f) =
      let k = heads m.path us vs u v f e in
      (refl, ap₂ (λ (x : ℕ) (xs : List ℕ). dropping m x xs) k.0 k.1)
  does_one (Does.takes n) (Does.takes k) = (refl, refl)

  pub plays_one : {m m₁ m₂ : Model A} {cs : List (Call A)} {ts us : List Told} → Plays rule meets m cs ts m₁ → Plays rule meets m cs us m₂ → (us ≡ ts) × (m₂ ≡ m₁)
  plays_one Plays.done Plays.done = (refl, refl)
  plays_one {m₂ = m₂} (Plays.more {cs = cs} d p) (Plays.more {ts = us} e q) =
      let k = does_one d e in
      let r = plays_one p (subst (λ (x : Model A). Plays rule meets x cs us m₂) k.1 q) in
      (ap₂ (λ (x : Told) (xs : List Told). x ∷ xs) k.0 r.0, r.1)
