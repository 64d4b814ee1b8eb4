-- A selection has one answer.
use Rattle.std.proofs.Common.{◌≡◌, ℕ, suc, ◌+◌, ◌<◌, Bool, List, [], ◌∷◌, ◌++◌, length, Option, refl, sym, ap, ap₂, ◌∙◌, subst, arith, length-append}
use Rattle.rules.specs.declared.node.RuleNode.{RuleNode}
use Rattle.runs.specs.Limits.{depth_limit, openings_limit}
use Rattle.sources.specs.declared.event.Event.{Event}
use Rattle.sources.specs.declared.event.Event.TheVariants.{Open, Close}
use Rattle.sources.specs.Nodes.{nodes_from, closing_order_from, path_from, nodes, closing_order, open_after}
use Rattle.selection.specs.Answers.{Answer, done, faulted, refused}
use Rattle.selection.specs.Selection.{Accepts, OccursAt, Reported, Refuses, Selects}
use Rattle.selection.proofs.PickMore.{picks_same, picks_split, picks_some}

-- one list cut at a member twice: at the same place, or the first time sooner, or later
data Cuts {X : Type 0} (b₁ b₂ a₁ a₂ : List X) (e₁ e₂ : X) : Type 0 where
  same_place : b₂ ≡ b₁ → e₂ ≡ e₁ → a₂ ≡ a₁ → Cuts b₁ b₂ a₁ a₂ e₁ e₂
  sooner : (m : List X) → b₂ ≡ b₁ ++ e₁ ∷ m → Cuts b₁ b₂ a₁ a₂ e₁ e₂
  later : (m : List X) → b₁ ≡ b₂ ++ e₂ ∷ m → Cuts b₁ b₂ a₁ a₂ e₁ e₂

cuts_push : {X : Type 0} {b₁ b₂ a₁ a₂ : List X} {e₁ e₂ : X} (x y : X) → y ≡ x → Cuts b₁ b₂ a₁ a₂ e₁ e₂
    → Cuts (x ∷ b₁) (y ∷ b₂) a₁ a₂ e₁ e₂
cuts_push {X} x y z (Cuts.same_place b e a) = Cuts.same_place (ap₂ (λ (w : X) (ws : List X). w ∷ ws) z b) e a
cuts_push {X} x y z (Cuts.sooner m b) = Cuts.sooner m (ap₂ (λ (w : X) (ws : List X). w ∷ ws) z b)
cuts_push {X} x y z (Cuts.later m b) = Cuts.later m (ap₂ (λ (w : X) (ws : List X). w ∷ ws) (sym z) b)

cuts : {X : Type 0} (b₁ b₂ a₁ a₂ : List X) (e₁ e₂ : X) → b₁ ++ e₁ ∷ a₁ ≡ b₂ ++ e₂ ∷ a₂ → Cuts b₁ b₂ a₁ a₂ e₁ e₂
cuts [] [] a₁ a₂ e₁ e₂ h = Cuts.same_place refl (let z : e₂ ≡ e₁ = cc in z) (let z : a₂ ≡ a₁ = cc in z)
cuts {X} [] (y ∷ b₂) a₁ a₂ e₁ e₂ h = let z : y ≡ e₁ = cc in Cuts.sooner b₂ (ap (λ (w : X). w ∷ b₂) z)
cuts {X} (x ∷ b₁) [] a₁ a₂ e₁ e₂ h = let z : x ≡ e₂ = cc in Cuts.later b₁ (ap (λ (w : X). w ∷ b₁) z)
cuts (x ∷ b₁) (y ∷ b₂) a₁ a₂ e₁ e₂ h =
    let z : y ≡ x = cc in
    let t : b₁ ++ e₁ ∷ a₁ ≡ b₂ ++ e₂ ∷ a₂ = cc in
    cuts_push x y z (cuts b₁ b₂ a₁ a₂ e₁ e₂ t)

module _ {L : Type 0} where
  -- what accepted events say of one among them
  pub open_accepted : (n : ℕ) (p : List ℕ) (es fs : List (Event L)) (l : L) → Accepts n p (es ++ Open l ∷ fs)
      → (length (path_from n p es) < depth_limit) × (n + length (nodes_from n p es) < openings_limit)
  open_accepted n p [] fs l b = (b.0, let z : n < openings_limit = b.1 in omega arith)
  open_accepted n p (Open k ∷ es) fs l b =
      let r = open_accepted (suc n) (n ∷ p) es fs l b.2 in
      (r.0, let z : suc n + length (nodes_from (suc n) (n ∷ p) es) < openings_limit = r.1 in omega arith)
  open_accepted n [] (Close ∷ es) fs l b = absurd b
  open_accepted n (v ∷ p) (Close ∷ es) fs l b = open_accepted n p es fs l b

  pub close_accepted : (n : ℕ) (p : List ℕ) (es fs : List (Event L)) → Accepts n p (es ++ Close ∷ fs) → path_from n p es ≡ [] → ⊥
  close_accepted n [] [] fs b e = b
  close_accepted n (v ∷ p) [] fs b e = let z : ◌≡◌ {A = ℕ} 0 1 = cc in omega arith
  close_accepted n p (Open k ∷ es) fs b e = close_accepted (suc n) (n ∷ p) es fs b.2 e
  close_accepted n [] (Close ∷ es) fs b e = b
  close_accepted n (v ∷ p) (Close ∷ es) fs b e = close_accepted n p es fs b e

  -- a closing that finds an open node closes it
  pub order_split : (n : ℕ) (p : List ℕ) (es fs : List (Event L)) (v : ℕ) (vs : List ℕ) → path_from n p es ≡ v ∷ vs
      → (ws : List ℕ) × (closing_order_from n p (es ++ Close ∷ fs) ≡ closing_order_from n p es ++ v ∷ ws)
  order_split n [] [] fs v vs e = let z : ◌≡◌ {A = ℕ} 0 1 = cc in absurd (omega arith)
  order_split n (u ∷ p) [] fs v vs e = let z : u ≡ v = cc in (closing_order_from n p fs, ap (λ (k : ℕ). k ∷ closing_order_from n p fs) z)
  order_split n p (Open k ∷ es) fs v vs e = order_split (suc n) (n ∷ p) es fs v vs e
  order_split n [] (Close ∷ es) fs v vs e = order_split n [] es fs v vs e
  order_split n (u ∷ p) (Close ∷ es) fs v vs e = let r = order_split n p es fs v vs e in (r.0, ap (λ (ws : List ℕ). u ∷ ws) r.1)

module _ {L : Type 0} (same : L → L → Bool) (rule : List RuleNode) (labels : List L) (room : ℕ) (es : List (Event L)) where
  -- no event that is refused is accepted
  no_further : (before more : List (Event L)) (xs ys : List ℕ) (e : Event L) (k : ℕ)
      → Reported same rule labels room es before xs → Reported same rule labels room es (before ++ e ∷ more) ys
      → Refuses same rule labels room es before xs e k → ⊥
  no_further before more xs ys e k t u (Refuses.nothing_open h) = close_accepted 0 [] before more u.accepted h
  no_further before more xs ys e k t u (Refuses.too_deep l h) =
      let r = open_accepted 0 [] before more l u.accepted in
      let z : length (open_after before) < depth_limit = r.0 in
      omega arith
  no_further before more xs ys e k t u (Refuses.too_many l d h) =
      let r = open_accepted 0 [] before more l u.accepted in
      let z : 0 + length (nodes before) < openings_limit = r.1 in
      omega arith
  no_further before more xs ys e k t u (Refuses.list_full v vs h o full) =
      let P : ℕ → Type 0 = OccursAt same rule labels room es in
      let c = order_split 0 [] before more v vs h in
      let r = picks_split (closing_order before) (v ∷ c.0) (rw c.1 at u.picked) in
      let s : r.first ≡ xs = picks_same t.picked r.of_first in
      let some : 0 < length r.second = picks_some v c.0 o r.of_second in
      omega (arith, ap length r.both, length-append r.first r.second, ap length s, u.fits)

  -- an event is refused for one reason
  one_number : (before : List (Event L)) (xs : List ℕ) {e : Event L} {k₁ k₂ : ℕ}
      → Refuses same rule labels room es before xs e k₁ → Refuses same rule labels room es before xs e k₂ → k₂ ≡ k₁
  one_number before xs (Refuses.nothing_open h) (Refuses.nothing_open k) = refl
  one_number before xs (Refuses.nothing_open h) (Refuses.list_full v vs k o f) = let z : ◌≡◌ {A = ℕ} 0 1 = cc in absurd (omega arith)
  one_number before xs (Refuses.too_deep l h) (Refuses.too_deep m k) = refl
  one_number before xs (Refuses.too_deep l h) (Refuses.too_many m k j) = absurd (omega arith)
  one_number before xs (Refuses.too_many l h j) (Refuses.too_deep m k) = absurd (omega arith)
  one_number before xs (Refuses.too_many l h j) (Refuses.too_many m k i) = refl
  one_number before xs (Refuses.list_full v vs k o f) (Refuses.nothing_open h) = let z : ◌≡◌ {A = ℕ} 0 1 = cc in absurd (omega arith)
  one_number before xs (Refuses.list_full v vs k o f) (Refuses.list_full w ws j q g) = refl

  -- nothing is refused where all events are accepted
  none_refused : (before after : List (Event L)) (xs ys : List ℕ) (e : Event L) (k : ℕ) → es ≡ before ++ e ∷ after
      → Reported same rule labels room es es ys → Reported same rule labels room es before xs
      → Refuses same rule labels room es before xs e k → ⊥
  none_refused before after xs ys e k q u t s =
      no_further before after xs ys e k t (subst (λ (b : List (Event L)). Reported same rule labels room es b ys) q u) s

  -- two refusals are the same
  refusals : {F : Type 0} (b₁ b₂ a₁ a₂ : List (Event L)) (e₁ e₂ : Event L) (k₁ k₂ : ℕ) (xs ys : List ℕ)
      → Reported same rule labels room es b₁ xs → Reported same rule labels room es b₂ ys
      → Refuses same rule labels room es b₁ xs e₁ k₁ → Refuses same rule labels room es b₂ ys e₂ k₂ → Cuts b₁ b₂ a₁ a₂ e₁ e₂
      → ◌≡◌ {A = Answer F} (refused k₂ (length (nodes b₂)) (length ys)) (refused k₁ (length (nodes b₁)) (length xs)) × (ys ≡ xs) × (a₂ ≡ a₁)
  refusals b₁ b₂ a₁ a₂ e₁ e₂ k₁ k₂ xs ys t₁ t₂ s₁ s₂ (Cuts.same_place b e a) =
      let z : ys ≡ xs = picks_same t₁.picked (rw b at t₂).picked in
      let k : k₂ ≡ k₁ = one_number b₁ xs s₁ (rw (z, e, b) at s₂) in
      (cc, z, a)
  refusals b₁ b₂ a₁ a₂ e₁ e₂ k₁ k₂ xs ys t₁ t₂ s₁ s₂ (Cuts.sooner m b) =
      absurd (no_further b₁ m xs ys e₁ k₁ t₁ (rw b at t₂) s₁)
  refusals b₁ b₂ a₁ a₂ e₁ e₂ k₁ k₂ xs ys t₁ t₂ s₁ s₂ (Cuts.later m b) =
      absurd (no_further b₂ m ys xs e₂ k₂ t₂ (rw b at t₁) s₂)

  -- two selections from one source with one ending: the same answer, the same numbers reported, the same events left
  pub one_answer : {F : Type 0} (end : Option F) {a b : Answer F} {vs us : List ℕ} {ds cs : List (Event L)}
      → Selects same rule labels room es end a vs ds → Selects same rule labels room es end b us cs → (b ≡ a) × (us ≡ vs) × (cs ≡ ds)
  one_answer end (Selects.whole xs e t k) (Selects.whole ys f u l) =
      let z = picks_same t.picked u.picked in
      (ap (λ (ws : List ℕ). done (length ws)) z, z, refl)
  one_answer end (Selects.whole xs e t k) (Selects.fault f ys h u) = let z : ◌≡◌ {A = ℕ} 0 1 = cc in absurd (omega arith)
  one_answer end (Selects.whole xs e t k) (Selects.refusal before after a j ys q u s) = absurd (none_refused before after ys xs a j q t u s)
  one_answer end (Selects.fault f xs h t) (Selects.whole ys e u l) = let z : ◌≡◌ {A = ℕ} 0 1 = cc in absurd (omega arith)
  one_answer {F} end (Selects.fault f xs h t) (Selects.fault g ys k u) =
      let z = picks_same t.picked u.picked in
      let y : g ≡ f = cc in
      (ap₂ (λ (x : F) (ws : List ℕ). faulted x (length (nodes es)) (length ws)) y z, z, refl)
  one_answer end (Selects.fault f xs h t) (Selects.refusal before after a j ys q u s) = absurd (none_refused before after ys xs a j q t u s)
  one_answer end (Selects.refusal before after a j xs q t s) (Selects.whole ys f u l) = absurd (none_refused before after xs ys a j q u t s)
  one_answer end (Selects.refusal before after a j xs q t s) (Selects.fault f ys h u) = absurd (none_refused before after xs ys a j q u t s)
  one_answer end (Selects.refusal b₁ a₁ e₁ k₁ xs q₁ t₁ s₁) (Selects.refusal b₂ a₂ e₂ k₂ ys q₂ t₂ s₂) =
      refusals b₁ b₂ a₁ a₂ e₁ e₂ k₁ k₂ xs ys t₁ t₂ s₁ s₂ (cuts b₁ b₂ a₁ a₂ e₁ e₂ (sym q₁ ∙ q₂))
