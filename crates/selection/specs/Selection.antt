-- What a selection answers and reports, by the events and the ending of its source.
use Rattle.std.specs.Prelude.{◌≡◌, ℕ, suc, ◌<◌, ◌≤◌, Bool, ◌↔◌, List, [], ◌∷◌, ◌++◌, length, Some, None, Option}
use Rattle.rules.specs.declared.node.RuleNode.{RuleNode}
use Rattle.rules.specs.Embedding.{OccursIn}
use Rattle.runs.specs.Limits.{depth_limit, openings_limit}
use Rattle.runs.specs.Picks.{In, Once, Picks}
use Rattle.runs.specs.Journal.{Filled}
use Rattle.sources.specs.declared.event.Event.{Event}
use Rattle.sources.specs.declared.event.Event.TheVariants.{Open, Close}
use Rattle.sources.specs.Nodes.{nodes, closing_order, open_after}
use Rattle.selection.specs.Answers.{Answer, done, faulted, refused}

-- A run accepts all these events, where n nodes were opened before and those of the path are open: each opening finds fewer open nodes
-- and fewer accepted openings than a run can have, and each closing finds an open node.
abbrev pub Accepts : {L : Type 0} → ℕ → List ℕ → List (Event L) → Type 0
Accepts n path [] = Unit {0}
Accepts n path (Open l ∷ es) = (length path < depth_limit) × (n < openings_limit) × Accepts (suc n) (n ∷ path) es
Accepts n [] (Close ∷ es) = ⊥
Accepts n (v ∷ vs) (Close ∷ es) = Accepts n vs es

-- es: the events of the source; room: how many numbers the caller's list holds
module _ {L : Type 0} (same : L → L → Bool) (rule : List RuleNode) (labels : List L) (room : ℕ) (es : List (Event L)) where
  -- the rule occurs at node v of the source
  abbrev pub OccursAt : ℕ → Type 0
  OccursAt v = OccursIn same rule labels (nodes es) v

  -- The first events of the source, `before`, are accepted, and the numbers reported are the nodes that they close at which the rule
  -- occurs, in closing order, each once.
  pub record Reported (before : List (Event L)) (reported : List ℕ) : Type 0 where
    pub accepted : Accepts 0 [] before
    pub picked : Picks OccursAt (closing_order before) reported
    pub once : Once reported
    pub fits : length reported ≤ room

  -- why the event behind these ends the selection, by the number of the refusal
  pub data Refuses (before : List (Event L)) (reported : List ℕ) : Event L → ℕ → Type 0 where
    nothing_open : open_after before ≡ [] → Refuses before reported Close 20
    too_deep : (l : L) → length (open_after before) ≡ depth_limit → Refuses before reported (Open l) 22
    too_many : (l : L) → length (open_after before) < depth_limit → length (nodes before) ≡ openings_limit → Refuses before reported (Open l) 23
    list_full : (v : ℕ) (vs : List ℕ) → open_after before ≡ v ∷ vs → OccursAt v → length reported ≡ room → Refuses before reported Close 24

  -- A selection from a source with this ending: its answer, the numbers reported, and the events that the source still has after it.
  -- Where the source is done, the numbers are those of exactly the nodes at which the rule occurs.
  pub data Selects {F : Type 0} (end : Option F) : Answer F → List ℕ → List (Event L) → Type 0 where
    whole : (reported : List ℕ) → end ≡ None → Reported es reported
        → ((v : ℕ) → In v reported ↔ ((v < length (nodes es)) × OccursAt v))
        → Selects end (done (length reported)) reported []
    fault : (f : F) (reported : List ℕ) → end ≡ Some f → Reported es reported
        → Selects end (faulted f (length (nodes es)) (length reported)) reported []
    refusal : (before after : List (Event L)) (e : Event L) (k : ℕ) (reported : List ℕ) → es ≡ before ++ e ∷ after
        → Reported before reported → Refuses before reported e k
        → Selects end (refused k (length (nodes before)) (length reported)) reported after

-- A selection answers so, and in no other way. What it reports fills the front of the caller's list, which was `before` and is `after`,
-- and the rest of the list is unchanged; left are the events that the source still has.
pub record Selection {L F : Type 0} (same : L → L → Bool) (rule : List RuleNode) (labels : List L) (es : List (Event L)) (end : Option F)
    (before : List ℕ) (answer : Answer F) (after : List ℕ) (left : List (Event L)) : Type 0 where
  pub reported : List ℕ
  pub selects : Selects same rule labels (length before) es end answer reported left
  pub only : (a : Answer F) (vs : List ℕ) (ds : List (Event L)) → Selects same rule labels (length before) es end a vs ds
      → (a ≡ answer) × (vs ≡ reported) × (ds ≡ left)
  pub filled : Filled before reported after
