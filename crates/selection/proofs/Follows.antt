-- A run that is fed the events of a source: the state of the reference model behind it.
use Rattle.std.proofs.Common.{◌≡◌, ℕ, suc, ◌+◌, ◌<◌, ◌≤◌, Bool, true, false, List, [], ◌∷◌, ◌++◌, length, drop, Option, sym, refl, ap, ap₂, ◌∙◌, subst, inl, inr, append-nil, append_assoc, arith}
use Rattle.std.proofs.lemmas.List.{drop_all}
use Rattle.rules.specs.declared.node.RuleNode.{RuleNode}
use Rattle.rules.specs.Rule.{Ordered}
use Rattle.rules.specs.Embedding.{Nodes, Meets, OccursIn}
use Rattle.runs.specs.declared.call.Call.TheVariants as call
use Rattle.runs.specs.Limits.{depth_limit, openings_limit}
use Rattle.runs.specs.Answers.{Told, opened, closed, refused}
use Rattle.runs.specs.Picks.{In, Picks}
use Rattle.runs.specs.Model.{Model, innermost, empty, OccursKept, closing, taking, Does}
use Rattle.runs.proofs.PickLaws.{picks_like}
use Rattle.runs.proofs.SelectedLaws.{Sound, empty_sound, does_sound, taking_sound}
use Rattle.sources.specs.declared.event.Event.{Event}
use Rattle.sources.specs.declared.event.Event.TheVariants.{Open, Close}
use Rattle.sources.specs.Nodes.{nodes, nodes_from, closing_order, path_from, open_after}
use Rattle.sources.specs.Nodes.{innermost as outermost}
use Rattle.sources.proofs.NodeLaws.{opened as after_open, closed as after_close}
use Rattle.selection.specs.Selection.{Accepts, Reported, Refuses}
use Rattle.selection.proofs.ClosingOrder.{once_closed}
use Rattle.selection.proofs.Picked.{picked_once}
use Rattle.selection.proofs.Whole.{occurs_whole}

-- one event more is accepted
accepts_open : {L : Type 0} (n : ℕ) (p : List ℕ) (es : List (Event L)) (l : L) → Accepts n p es
    → length (path_from n p es) < depth_limit → n + length (nodes_from n p es) < openings_limit → Accepts n p (es ++ Open l ∷ [])
accepts_open n p [] l b d m = (d, omega arith, tt)
accepts_open n p (Open k ∷ es) l b d m = (b.0, b.1, accepts_open (suc n) (n ∷ p) es l b.2 d (omega arith))
accepts_open n [] (Close ∷ es) l b d m = absurd b
accepts_open n (v ∷ p) (Close ∷ es) l b d m = accepts_open n p es l b d m

accepts_close : {L : Type 0} (n : ℕ) (p : List ℕ) (es : List (Event L)) (v : ℕ) (vs : List ℕ) → Accepts n p es
    → path_from n p es ≡ v ∷ vs → Accepts n p (es ++ Close ∷ [])
accepts_close n [] [] v vs b e = let z : ◌≡◌ {A = ℕ} 0 1 = cc in absurd (omega arith)
accepts_close n (u ∷ p) [] v vs b e = tt
accepts_close n p (Open k ∷ es) v vs b e = (b.0, b.1, accepts_close (suc n) (n ∷ p) es v vs b.2 e)
accepts_close n [] (Close ∷ es) v vs b e = absurd b
accepts_close n (u ∷ p) (Close ∷ es) v vs b e = accepts_close n p es v vs b e

same_innermost : (vs : List ℕ) → innermost vs ≡ outermost vs
same_innermost [] = refl
same_innermost (v ∷ vs) = refl

-- what an answer is not
unlike_refused : (k j : ℕ) → refused k ≡ opened j → ⊥
unlike_refused k j e = cc

unlike_closed : (k : ℕ) (b : Bool) → refused k ≡ closed b → ⊥
unlike_closed k b e = cc

unlike_opened : (k j : ℕ) → opened k ≡ refused j → ⊥
unlike_opened k j e = cc

unlike_close : (b : Bool) (k : ℕ) → closed b ≡ refused k → ⊥
unlike_close b k e = cc

refused_is : (k j : ℕ) → refused k ≡ refused j → k ≡ j
refused_is k j e = cc

closed_is : (a b : Bool) → closed a ≡ closed b → a ≡ b
closed_is a b e = cc

module _ {L : Type 0} (same : L → L → Bool) (rule : List RuleNode) (labels : List L) (ordered : Ordered rule) (some : 0 < length rule) where
  abbrev tests : L → ℕ → Type 0
  tests = Meets same rule labels

  -- The model was fed these events, which it accepted; nothing was dropped, and nothing waits.
  pub record Follows (before : List (Event L)) (m : Model L) : Type 0 where
    pub nodes_are : m.nodes ≡ nodes before
    pub path_is : m.path ≡ open_after before
    pub closed_are : m.closed ≡ closing_order before
    pub kept : m.dropped ≡ []
    pub taken : m.waiting ≡ []
    pub accepted : Accepts 0 [] before
    pub sound : Sound rule tests ordered some m

  pub follows_none : Follows [] empty
  follows_none = record { nodes_are = refl; path_is = refl; closed_are = refl; kept = refl; taken = refl; accepted = tt; sound = empty_sound rule tests ordered some }

  module _ (before : List (Event L)) (m : Model L) (f : Follows before m) where
    pub depth : length m.path ≡ length (open_after before)
    depth = ap length f.path_is

    pub count : length m.nodes ≡ length (nodes before)
    count = ap length f.nodes_are

    -- what is handed out is what is reported, of a source that begins with these events
    pub reported : (room : ℕ) (after : List (Event L)) → length m.handed ≤ room → Reported same rule labels room (before ++ after) before m.handed
    reported room after fits =
        let O : ℕ → Type 0 = OccursIn same rule labels (nodes (before ++ after)) in
        let none : m.handed ++ m.waiting ≡ m.handed = ap (λ (ws : List ℕ). m.handed ++ ws) f.taken ∙ append-nil m.handed in
        let k : Picks O m.closed (m.handed ++ m.waiting) = picks_like (OccursKept rule tests m) O f.sound.selected.picked (λ v i.
        let s = f.sound.settled v i in
        occurs_whole same rule labels ordered some m f.kept before after f.nodes_are f.path_is f.sound.chain v s.0 s.1) in
        let p : Picks O (closing_order before) m.handed =
        subst (λ (vs : List ℕ). Picks O vs m.handed) f.closed_are (subst (λ (ws : List ℕ). Picks O m.closed ws) none k) in
        record { accepted = f.accepted; picked = p; once = picked_once O p (once_closed before f.accepted); fits = fits }

    pub follows_open : (l : L) {t : Told} {m' : Model L} → Does rule tests m (call.Open l) t m' → (k : ℕ) → t ≡ opened k → Follows (before ++ Open l ∷ []) m'
    follows_open l (Does.too_deep a e) k h = absurd (unlike_refused 22 k h)
    follows_open l (Does.too_many a e g) k h = absurd (unlike_refused 23 k h)
    follows_open l (Does.opens a e g) k h =
        let s = after_open before l in
        let d = depth in
        let c = count in
        let p : innermost m.path ≡ outermost (open_after before) = same_innermost m.path ∙ ap outermost f.path_is in
        record {
          nodes_are = ap₂ (λ (ns : Nodes L) (q : Option ℕ). ns ++ (q, l) ∷ []) f.nodes_are p ∙ sym s.nodes_are;
          path_is = ap₂ (λ (v : ℕ) (vs : List ℕ). v ∷ vs) c f.path_is ∙ sym s.open_are;
          closed_are = f.closed_are ∙ sym s.order_is;
          kept = f.kept;
          taken = f.taken;
          accepted = accepts_open 0 [] before l f.accepted (omega arith) (omega arith);
          sound = does_sound rule tests ordered some f.sound (Does.opens a e g);
        }

    -- a closing of v, and a taking with so much room
    after_taking : (v : ℕ) (vs ws : List ℕ) (room : ℕ) → m.path ≡ v ∷ vs → drop room (m.waiting ++ ws) ≡ []
        → Sound rule tests ordered some (closing m v vs ws) → Follows (before ++ Close ∷ []) (taking (closing m v vs ws) room)
    after_taking v vs ws room e none s =
        let c = after_close before v vs (sym f.path_is ∙ e) in
        record {
          nodes_are = f.nodes_are ∙ sym c.nodes_are;
          path_is = sym c.open_are;
          closed_are = ap (λ (us : List ℕ). us ++ v ∷ []) f.closed_are ∙ sym c.order_is;
          kept = f.kept;
          taken = none;
          accepted = accepts_close 0 [] before v vs f.accepted (sym f.path_is ∙ e);
          sound = taking_sound rule tests ordered some (closing m v vs ws) room s;
        }

    pub follows_close : {t : Told} {m' : Model L} → Does rule tests m call.Close t m' → (b : Bool) (room : ℕ) → t ≡ closed b → (b ≡ true → 0 < room)
        → Follows (before ++ Close ∷ []) (taking m' room)
    follows_close (Does.none_to_close e) b room h fits = absurd (unlike_closed 20 b h)
    follows_close (Does.waiting_full v vs e o g) b room h fits = absurd (unlike_closed 21 b h)
    follows_close (Does.selects v vs e o g) b room h fits =
        let r : 0 < room = fits (sym (closed_is true b h)) in
        let one : m.waiting ++ v ∷ [] ≡ v ∷ [] = ap (λ (ws : List ℕ). ws ++ v ∷ []) f.taken in
        let none : drop room (m.waiting ++ v ∷ []) ≡ [] = ap (λ (ws : List ℕ). drop room ws) one ∙ drop_all room (v ∷ []) (omega arith) in
        after_taking v vs (v ∷ []) room e none (does_sound rule tests ordered some f.sound (Does.selects v vs e o g))
    follows_close (Does.passes v vs e n) b room h fits =
        let zero_ : m.waiting ++ [] ≡ [] = ap (λ (ws : List ℕ). ws ++ []) f.taken in
        let none : drop room (m.waiting ++ []) ≡ [] = ap (λ (ws : List ℕ). drop room ws) zero_ ∙ drop_all room [] (omega arith) in
        after_taking v vs [] room e none (does_sound rule tests ordered some f.sound (Does.passes v vs e n))

    -- a refused event leaves the model as it is, and has its reason
    pub stops_open : (l : L) {t : Told} {m' : Model L} → Does rule tests m (call.Open l) t m' → (k room : ℕ) (es : List (Event L)) (vs : List ℕ) → t ≡ refused k
        → (m' ≡ m) × Refuses same rule labels room es before vs (Open l) k
    stops_open l (Does.too_deep a e) k room es vs h =
        (refl, subst (λ (j : ℕ). Refuses same rule labels room es before vs (Open l) j) (refused_is 22 k h) (Refuses.too_deep l (sym depth ∙ e)))
    stops_open l (Does.too_many a e g) k room es vs h =
        let d = depth in
        (refl, subst (λ (j : ℕ). Refuses same rule labels room es before vs (Open l) j) (refused_is 23 k h) (Refuses.too_many l (omega arith) (sym count ∙ g)))
    stops_open l (Does.opens a e g) k room es vs h = absurd (unlike_opened (length m.nodes) k h)

    pub stops_close : {t : Told} {m' : Model L} → Does rule tests m call.Close t m' → (k room : ℕ) (es : List (Event L)) (vs : List ℕ) → t ≡ refused k
        → (m' ≡ m) × Refuses same rule labels room es before vs Close k
    stops_close (Does.none_to_close e) k room es vs h =
        (refl, subst (λ (j : ℕ). Refuses same rule labels room es before vs Close j) (refused_is 20 k h) (Refuses.nothing_open (sym f.path_is ∙ e)))
    stops_close (Does.waiting_full v us e o g) k room es vs h = let w : length m.waiting ≡ 0 = ap length f.taken in absurd (omega arith)
    stops_close (Does.selects v us e o g) k room es vs h = absurd (unlike_close true k h)
    stops_close (Does.passes v us e n) k room es vs h = absurd (unlike_close false k h)

    -- a selected node closes, and the list has no room
    pub stops_full : {t : Told} {m' : Model L} → Does rule tests m call.Close t m' → (room : ℕ) (after : List (Event L)) → t ≡ closed true → length m.handed ≡ room
        → (length m'.nodes ≡ length m.nodes) × (m'.handed ≡ m.handed) × Refuses same rule labels room (before ++ Close ∷ after) before m.handed Close 24
    stops_full (Does.none_to_close e) room after h g = absurd (unlike_closed 20 true h)
    stops_full (Does.waiting_full v vs e o w) room after h g = absurd (unlike_closed 21 true h)
    stops_full (Does.selects v vs e o w) room after h g =
        let c = follows_close (Does.selects v vs e o w) true 1 refl (λ _. omega arith) in
        let m₁ : Model L = taking (closing m v vs (v ∷ [])) 1 in
        let s : (v < length m.nodes) × (In v vs → ⊥) = c.sound.settled v (last_in m.closed v) in
        let whole = occurs_whole same rule labels ordered some m₁ c.kept (before ++ Close ∷ []) after c.nodes_are c.path_is c.sound.chain v s.0 s.1 in
        let P : List (Event L) → Type 0 = λ es. OccursIn same rule labels (nodes es) v in
        (refl, refl, Refuses.list_full v vs (sym f.path_is ∙ e) (subst P (append_assoc before (Close ∷ []) after) (whole.0 o)) g)
      where
        last_in : (us : List ℕ) (v : ℕ) → In v (us ++ v ∷ [])
        last_in [] v = inl refl
        last_in (u ∷ us) v = inr (last_in us v)
    stops_full (Does.passes v vs e n) room after h g = let z : false ≡ true = closed_is false true h in absurd (let y : ⊥ = cc in y)
