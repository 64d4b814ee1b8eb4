-- How the tree of the reference model grows and loses nodes, whatever its nodes carry.
use Rattle.std.proofs.Common.{◌≡◌, ℕ, zero, suc, ◌+◌, ◌<◌, ◌⊎◌, List, [], ◌∷◌, ◌++◌, length, Some, Option, sym, refl, ap, ◌∙◌, inl, inr, ⊎_elim, arith}
use Rattle.std.specs.List.{slice_get}
use Rattle.std.proofs.lemmas.List.{length_push}
use Rattle.std.proofs.lemmas.Bool.{cases_lt}
use Rattle.std.proofs.lemmas.Option.{slice_get_within, same_Some, none-some}
use Rattle.rules.specs.Embedding.{Nodes, ParentsFirst}
use Rattle.rules.proofs.Selects.{nth_last, slice_get_longer}
use Rattle.runs.specs.Picks.{In}
use Rattle.runs.specs.Model.{Model, innermost, KeptChild, opening, dropping}
use Rattle.runs.specs.Stands.{Chain}

pub slice_get_before : {X : Type 0} (xs ys : List X) (k : ℕ) → k < length xs → slice_get (xs ++ ys) k ≡ slice_get xs k
slice_get_before [] ys k l = absurd (omega arith)
slice_get_before (x ∷ xs) ys zero l = refl
slice_get_before (x ∷ xs) ys (suc k) l = slice_get_before xs ys k (omega arith)

pub first_in : (vs : List ℕ) (u : ℕ) → innermost vs ≡ Some u → In u vs
first_in [] u e = none-some u e
first_in (v ∷ vs) u e = inl (sym (same_Some v u e))

module _ {A : Type 0} where
  -- the model with other open nodes
  abbrev pub with_path : Model A → List ℕ → Model A
  with_path m vs = record { nodes = m.nodes; path = vs; dropped = m.dropped; closed = m.closed; waiting = m.waiting; handed = m.handed }

  -- a node has one parent
  pub one_parent : (nodes : Nodes A) (v : ℕ) (p q : Option ℕ) (a b : A) → slice_get nodes v ≡ Some (p, a) → slice_get nodes v ≡ Some (q, b) → p ≡ q
  one_parent nodes v p q a b e f =
      let s : ◌≡◌ {A = Option (Option ℕ × A)} (Some (p, a)) (Some (q, b)) = sym e ∙ f in
      let t : ◌≡◌ {A = Option ℕ × A} (p, a) (q, b) = cc in
      ap (λ (z : Option ℕ × A). z.0) t

  -- the parent of an open node is open
  pub path_up : (m : Model A) (vs : List ℕ) → Chain m vs → (d u : ℕ) (a : A) → In d vs → slice_get m.nodes d ≡ Some (Some u, a) → In u vs
  path_up m [] c d u a i p = i
  path_up m (v ∷ vs) c d u a (inl e) p =
      inr (first_in vs u (one_parent m.nodes v (innermost vs) (Some u) c.0.0 a c.0.1 (ap (slice_get m.nodes) (sym e) ∙ p)))
  path_up m (v ∷ vs) c d u a (inr i) p = inr (path_up m vs c.2 d u a i p)

  -- outer open nodes have lower numbers
  pub chain_less : (m : Model A) → ParentsFirst m.nodes → (v : ℕ) (vs : List ℕ) → Chain m (v ∷ vs) → (d : ℕ) → In d vs → d < v
  chain_less m o v [] c d i = absurd i
  chain_less m o v (u ∷ us) c d (inl e) = let l : u < v = o v u c.0.0 c.0.1 in omega arith
  chain_less m o v (u ∷ us) c d (inr i) =
      let l : u < v = o v u c.0.0 c.0.1 in
      let k : d < u = chain_less m o u us c.2 d i in
      omega arith

  -- open nodes are nodes
  pub in_chain : (m : Model A) (us : List ℕ) → Chain m us → (u : ℕ) → In u us → u < length m.nodes
  in_chain m [] c u i = absurd i
  in_chain m (x ∷ us) c u (inl e) = let l = slice_get_within m.nodes x _ c.0.1 in omega arith
  in_chain m (x ∷ us) c u (inr i) = in_chain m us c.2 u i

  -- ---- dropping the innermost open node v
  module _ (m : Model A) (v : ℕ) (vs : List ℕ) (chain : Chain m (v ∷ vs)) (parents : ParentsFirst m.nodes) where
    abbrev m₀ : Model A
    m₀ = with_path m (v ∷ vs)

    abbrev m₁ : Model A
    m₁ = dropping m v vs

    -- not open before
    abbrev pub Off : ℕ → Type 0
    Off d = In d (v ∷ vs) → ⊥

    pub off_down : (u d : ℕ) (a : A) → Off u → slice_get m.nodes d ≡ Some (Some u, a) → Off d
    off_down u d a q e i = q (path_up m (v ∷ vs) chain d u a i e)

    pub drop_fw : (u d : ℕ) → Off u → KeptChild m₀ u d → Off d × KeptChild m₁ u d
    drop_fw u d q k = let o = off_down u d k.0.0 q k.0.1 in (o, (k.0, ⊎_elim (λ e. o (inl e)) k.1))

    pub drop_bw : (u d : ℕ) → Off u → KeptChild m₁ u d → Off d × KeptChild m₀ u d
    drop_bw u d q k = (off_down u d k.0.0 q k.0.1, (k.0, λ i. k.1 (inr i)))

    chain_on : (us : List ℕ) → ((d : ℕ) → In d us → d < v) → Chain m us → Chain m₁ us
    chain_on [] less c = tt
    chain_on (u ∷ us) less c =
        (c.0, ⊎_elim (λ e. let l : u < v = less u (inl refl) in let z : ⊥ = omega arith in z) c.1, chain_on us (λ d i. less d (inr i)) c.2)

    pub drop_chain : Chain m₁ vs
    drop_chain = chain_on vs (λ d i. chain_less m parents v vs chain d i) chain.2

    pub drop_inside : ((d : ℕ) → In d m.dropped → d < length m.nodes) → (d : ℕ) → In d (v ∷ m.dropped) → d < length m.nodes
    drop_inside inside d = ⊎_elim (λ f. let w = slice_get_within m.nodes v _ chain.0.1 in omega arith) (inside d)

  -- ---- opening a node that carries a
  module _ (m : Model A) (a : A) (chain : Chain m m.path) (parents : ParentsFirst m.nodes)
      (inside : (d : ℕ) → In d m.dropped → d < length m.nodes) where
    abbrev new : Option ℕ × A
    new = (innermost m.path, a)

    abbrev n : ℕ
    n = length m.nodes

    abbrev o₁ : Model A
    o₁ = opening m a

    pub longer : length (m.nodes ++ new ∷ []) ≡ n + 1
    longer = length_push m.nodes new

    pub old : (d : ℕ) → d < n → slice_get o₁.nodes d ≡ slice_get m.nodes d
    old d l = slice_get_before m.nodes (new ∷ []) d l

    pub last : slice_get o₁.nodes n ≡ Some new
    last = nth_last m.nodes new

    -- a node of the new tree is an old one, or the new one
    old_or_new : (d : ℕ) → d < length (m.nodes ++ new ∷ []) → (d < n) ⊎ (d ≡ n)
    old_or_new d l = ⊎_elim inl (λ k. inr (omega (arith, longer))) (cases_lt d n)

    pub within₁ : (d : ℕ) (x : Option ℕ × A) → slice_get o₁.nodes d ≡ Some x → (d < n) ⊎ (d ≡ n)
    within₁ d x e = old_or_new d (slice_get_within o₁.nodes d x e)

    -- a node that is no longer open
    abbrev pub Off₁ : ℕ → Type 0
    Off₁ d = (d < n) × (In d m.path → ⊥)

    -- an old child, and a child that is not the new node
    pub child_on : (u d : ℕ) → KeptChild m u d → KeptChild o₁ u d
    child_on u d k = ((k.0.0, slice_get_longer m.nodes (new ∷ []) d _ k.0.1), k.1)

    pub child_off : (u d : ℕ) → d < n → KeptChild o₁ u d → KeptChild m u d
    child_off u d l k = ((k.0.0, sym (old d l) ∙ k.0.1), k.1)

    -- the new node's parent is the innermost open node
    new_child : (u d : ℕ) → d ≡ n → KeptChild o₁ u d → In u m.path
    new_child u d e k =
        first_in m.path u (one_parent o₁.nodes n (innermost m.path) (Some u) a k.0.0 last (ap (slice_get o₁.nodes) (sym e) ∙ k.0.1))

    pub open_fw : (u d : ℕ) → Off₁ u → KeptChild m u d → Off₁ d × KeptChild o₁ u d
    open_fw u d q k =
        ((slice_get_within m.nodes d _ k.0.1, λ i. q.1 (path_up m m.path chain d u k.0.0 i k.0.1)), child_on u d k)

    pub open_bw : (u d : ℕ) → Off₁ u → KeptChild o₁ u d → Off₁ d × KeptChild m u d
    open_bw u d q k =
        ⊎_elim
        (λ l. let j = child_off u d l k in ((l, λ i. q.1 (path_up m m.path chain d u j.0.0 i j.0.1)), j))
        (λ e. absurd (q.1 (new_child u d e k)))
        (within₁ d _ k.0.1)

    pub same₁ : (d : ℕ) → Off₁ d → slice_get m.nodes d ≡ slice_get o₁.nodes d
    same₁ d q = sym (old d q.0)

    chain_longer : (us : List ℕ) → Chain m us → Chain o₁ us
    chain_longer [] c = tt
    chain_longer (u ∷ us) c = ((c.0.0, slice_get_longer m.nodes (new ∷ []) u _ c.0.1), c.1, chain_longer us c.2)

    pub open_chain : Chain o₁ (n ∷ m.path)
    open_chain = ((a, last), (λ i. let l : length m.nodes < length m.nodes = inside n i in let z : ⊥ = omega arith in z), chain_longer m.path chain)

    pub open_parents : ParentsFirst o₁.nodes
    open_parents v u b e = ⊎_elim
        (λ k. parents v u b (sym (old v k) ∙ e))
        (λ k.
        let i : In u m.path = first_in m.path u (one_parent o₁.nodes n (innermost m.path) (Some u) a b last (ap (slice_get o₁.nodes) (sym k) ∙ e)) in
        let g : u < length m.nodes = in_chain m m.path chain u i in omega arith)
        (within₁ v _ e)

    pub open_inside : (d : ℕ) → In d m.dropped → d < length (m.nodes ++ new ∷ [])
    open_inside d i = let l : d < length m.nodes = inside d i in omega (arith, longer)
