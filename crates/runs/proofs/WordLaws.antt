-- The stack and the ring under the writes that the calls make, and what each call does to them.
use Rattle.std.proofs.Common.{◌≡◌, ℕ, zero, suc, ◌+◌, ◌-◌, ◌%◌, ◌<◌, ◌≤◌, ◌≢◌, List, [], ◌∷◌, ◌++◌, length, get_or, take, drop, set, Bool, true, false, ◌↔◌, Ok, Err, Result, sym, refl, ap, ◌∙◌, subst, ap₂, min, append-nil, arith}
use Rattle.std.proofs.lemmas.List.{get_or-set_same, get_or-set_other, drop_more, drop_all, set_at, length-take-le, append_assoc, take_more, get_or_default}
use Rattle.runs.specs.declared.levels.Level.{Level}
use Rattle.runs.specs.declared.levels.Levels.{Levels}
use Rattle.rules.specs.declared.node.RuleNode.{RuleNode}
use Rattle.runs.specs.Bits.{Has}
use Rattle.runs.specs.Edges.{EdgesMet}
use Rattle.runs.specs.declared.refusal.Refusal.{Refusal}
use Rattle.runs.specs.declared.refusal.Refusal.TheVariants.{NothingOpen, WaitingFull, TooDeep, TooMany}
use Rattle.runs.specs.Limits.{depth_limit, waiting_limit, openings_limit}
use Rattle.runs.specs.Words.{Words, new_level, stacked, queued, no_level, words}
use Rattle.runs.specs.LevelCalls.{merged, joined, Opens, Closes, Drops, FoundAt, Innermost, Waits, WaitFails, Merges, above}

pub length_stacked : (ls : List Level) (n : ℕ) → length (stacked ls n) ≡ n
length_stacked ls zero = refl
length_stacked ls (suc n) = ap suc (length_stacked ls n)

pub stacked_set : (ls : List Level) (i : ℕ) (l : Level) (n : ℕ) → n ≤ i → stacked (set ls i l) n ≡ stacked ls n
stacked_set ls i l zero h = refl
stacked_set ls i l (suc n) h =
    let ne : n ≢ i = omega arith in
    ap₂ (λ (a : Level) (ys : List Level). a ∷ ys) (get_or-set_other ls i n l no_level ne) (stacked_set ls i l n (omega arith))

pub stacked_push : (ls : List Level) (l : Level) (n : ℕ) → n < length ls → stacked (set ls n l) (n + 1) ≡ l ∷ stacked ls n
stacked_push ls l n h =
    let e : n + 1 ≡ suc n = omega arith in
    ap (λ (k : ℕ). stacked (set ls n l) k) e
    ∙ ap₂ (λ (a : Level) (ys : List Level). a ∷ ys) (get_or-set_same ls n l no_level h) (stacked_set ls n l n (omega arith))

pub stacked_top : (ls : List Level) (n : ℕ) → 0 < n → stacked ls n ≡ get_or ls (n - 1) no_level ∷ stacked ls (n - 1)
stacked_top ls n h = let e : n ≡ suc (n - 1) = omega arith in ap (λ (k : ℕ). stacked ls k) e

pub length_queued : (r : List ℕ) (h n : ℕ) → length (queued r h n) ≡ n
length_queued r h zero = refl
length_queued r h (suc n) = ap suc (length_queued r (suc h) n)

pub get_or_queued : (r : List ℕ) (h n j : ℕ) → j < n → get_or (queued r h n) j 0 ≡ get_or r ((h + j) % waiting_limit) 0
get_or_queued r h zero j l = let z : ⊥ = omega arith in absurd z
get_or_queued r h (suc n) zero l = let e : h ≡ h + 0 = omega arith in ap (λ (k : ℕ). get_or r (k % waiting_limit) 0) e
get_or_queued r h (suc n) (suc j) l =
    let e : suc h + j ≡ h + suc j = omega arith in
    get_or_queued r (suc h) n j (omega arith) ∙ ap (λ (k : ℕ). get_or r (k % waiting_limit) 0) e

pub queued_more : (r : List ℕ) (h n : ℕ) → queued r h (n + 1) ≡ queued r h n ++ get_or r ((h + n) % waiting_limit) 0 ∷ []
queued_more r h zero = let e : h ≡ h + 0 = omega arith in ap (λ (k : ℕ). get_or r (k % waiting_limit) 0 ∷ []) e
queued_more r h (suc n) =
    let e : suc n + 1 ≡ suc (n + 1) = omega arith in
    let f : suc h + n ≡ h + suc n = omega arith in
    ap (λ (k : ℕ). queued r h k) e
    ∙ ap (λ (ys : List ℕ). get_or r (h % waiting_limit) 0 ∷ ys) (queued_more r (suc h) n ∙ ap (λ (k : ℕ). queued r (suc h) n ++ get_or r (k % waiting_limit) 0 ∷ []) f)

pub queued_set : (r : List ℕ) (i x h n : ℕ) → ((j : ℕ) → j < n → (h + j) % waiting_limit ≢ i) → queued (set r i x) h n ≡ queued r h n
queued_set r i x h zero apart = refl
queued_set r i x h (suc n) apart =
    let e : h + 0 ≡ h = omega arith in
    let P : ℕ → Type 0 = λ k. k % waiting_limit ≢ i in
    ap₂ (λ (a : ℕ) (ys : List ℕ). a ∷ ys)
    (get_or-set_other r i (h % waiting_limit) x 0 (subst P e (apart 0 (omega arith))))
    (queued_set r i x (suc h) n (λ j l. let f : h + suc j ≡ suc h + j = omega arith in subst P f (apart (suc j) (omega arith))))

-- the number x is written behind the n that wait, at place i
pub queued_wait : (r : List ℕ) (x h n i m : ℕ) → length r ≡ waiting_limit → n < waiting_limit → i ≡ (h + n) % waiting_limit → m ≡ n + 1
    → queued (set r i x) h m ≡ queued r h n ++ x ∷ []
queued_wait r x h n i m len l e f =
    let b : i < length r = omega arith in
    ap (λ (k : ℕ). queued (set r i x) h k) f
    ∙ queued_more (set r i x) h n
    ∙ ap₂ (λ (ys : List ℕ) (a : ℕ). ys ++ a ∷ []) (queued_set r i x h n (λ j k g. omega arith))
    (ap (λ (k : ℕ). get_or (set r i x) k 0) (sym e) ∙ get_or-set_same r i x 0 b)

pub queued_mod : (r : List ℕ) (h h' n : ℕ) → h % waiting_limit ≡ h' % waiting_limit → queued r h n ≡ queued r h' n
queued_mod r h h' zero e = refl
queued_mod r h h' (suc n) e =
    ap₂ (λ (k : ℕ) (ys : List ℕ). get_or r k 0 ∷ ys) e (queued_mod r (suc h) (suc h') n (omega arith))

pub drop_queued : (r : List ℕ) (h n k : ℕ) → k ≤ n → drop k (queued r h n) ≡ queued r (h + k) (n - k)
drop_queued r h n zero l =
    let e : h ≡ h + 0 = omega arith in
    let f : n ≡ n - 0 = omega arith in
    ap₂ (λ (a b : ℕ). queued r a b) e f
drop_queued r h zero (suc k) l = let z : ⊥ = omega arith in absurd z
drop_queued r h (suc n) (suc k) l =
    let e : suc h + k ≡ h + suc k = omega arith in
    let f : n - k ≡ suc n - suc k = omega arith in
    drop_queued r (suc h) n k (omega arith) ∙ ap₂ (λ (a b : ℕ). queued r a b) e f

-- the innermost node is closed: at the root, and below another node, at place k
pub merged_root : (ls : List Level) (n j w b : ℕ) → 0 < n → j ≡ n - 1 → j ≡ 0 → stacked ls j ≡ merged w b (stacked ls n)
merged_root ls n j w b h i e =
    let f : n ≡ 1 = omega arith in
    ap (λ (k : ℕ). stacked ls k) e ∙ sym (ap (λ (k : ℕ). merged w b (stacked ls k)) f)

pub merged_below : (ls : List Level) (l d : Level) (n j k w b : ℕ) → j ≡ n - 1 → 0 < j → k ≡ j - 1 → n ≤ length ls
    → l ≡ joined w b (get_or ls k d) → stacked (set ls k l) j ≡ merged w b (stacked ls n)
merged_below ls l d n j k w b h pos i len g =
    let lt : k < length ls = omega arith in
    let e : j ≡ suc k = omega arith in
    let f : suc (suc k) ≡ n = omega arith in
    let p : Level = joined w b (get_or ls k no_level) in
    let same : l ≡ joined w b (get_or ls k no_level) = g ∙ ap (joined w b) (get_or_default ls k d no_level lt) in
    ap₂ (λ (x : Level) (m : ℕ). stacked (set ls k x) m) same e
    ∙ ap₂ (λ (a : Level) (ys : List Level). a ∷ ys) (get_or-set_same ls k p no_level lt) (stacked_set ls k p k (omega arith))
    ∙ ap (λ (m : ℕ). merged w b (stacked ls m)) f

-- one element more of q over the front of xs
pub front_more : (q xs : List ℕ) (i : ℕ) → i < length q → i < length xs
    → set (take i q ++ drop i xs) i (get_or q i 0) ≡ take (i + 1) q ++ drop (i + 1) xs
front_more q xs i hq hx =
    let v : ℕ = get_or q i 0 in
    ap (λ (ys : List ℕ). set (take i q ++ ys) i v) (drop_more xs i 0 hx)
    ∙ set_at (take i q) (get_or xs i 0) (drop (i + 1) xs) v i (length-take-le i q (omega arith))
    ∙ sym (append_assoc (take i q) (v ∷ []) (drop (i + 1) xs))
    ∙ ap (λ (ys : List ℕ). ys ++ drop (i + 1) xs) (sym (take_more q i 0 hq))

------------------------------------------------------------------------
-- what the calls do to the lists

pub opens_deep : (w n o : ℕ) (ls : List Level) (q : List ℕ) → depth_limit ≤ n → n ≤ depth_limit
    → Opens w (record { stack = stacked ls n; opened = o; waiting = q }) (Err TooDeep) (record { stack = stacked ls n; opened = o; waiting = q })
opens_deep w n o ls q g h = Opens.deep (omega (arith, length_stacked ls n))

pub opens_many : (w n o : ℕ) (ls : List Level) (q : List ℕ) → n < depth_limit → openings_limit ≤ o → o ≤ openings_limit
    → Opens w (record { stack = stacked ls n; opened = o; waiting = q }) (Err TooMany) (record { stack = stacked ls n; opened = o; waiting = q })
opens_many w n o ls q l g h = Opens.many (omega (arith, length_stacked ls n)) (omega arith)

pub opens_fine : (w n o k m : ℕ) (ls : List Level) (l : Level) (q : List ℕ) → n < depth_limit → o < openings_limit → length ls ≡ depth_limit → l ≡ new_level w o
    → k ≡ n + 1 → m ≡ o + 1
    → Opens w (record { stack = stacked ls n; opened = o; waiting = q }) (Ok o) (record { stack = stacked (set ls n l) k; opened = m; waiting = q })
opens_fine w n o k m ls l q a b len e f g =
    let lt : n < length ls = omega arith in
    let after : ℕ → List Level → Words = λ c st. record { stack = st; opened = c; waiting = q } in
    let G : Words → Type 0 = λ v. Opens w (record { stack = stacked ls n; opened = o; waiting = q }) (Ok o) v in
    let top = ap (λ (j : ℕ). stacked (set ls n l) j) f ∙ stacked_push ls l n lt ∙ ap (λ (x : Level). x ∷ stacked ls n) e in
    subst G (sym (ap₂ after g top)) (Opens.fine (omega (arith, length_stacked ls n)) b)

pub drops_none : (n o : ℕ) (ls : List Level) (q : List ℕ) → n ≡ 0
    → Drops (record { stack = stacked ls n; opened = o; waiting = q }) (Err NothingOpen) (record { stack = stacked ls n; opened = o; waiting = q })
drops_none n o ls q e = Drops.none (ap (λ (k : ℕ). stacked ls k) e)

pub drops_top : (n o k : ℕ) (ls : List Level) (q : List ℕ) → 0 < n → k ≡ n - 1
    → Drops (record { stack = stacked ls n; opened = o; waiting = q }) (Ok tt) (record { stack = stacked ls k; opened = o; waiting = q })
drops_top n o k ls q h e =
    Drops.drops (get_or ls (n - 1) no_level) (stacked ls k)
    (stacked_top ls n h ∙ ap (λ (j : ℕ). get_or ls (n - 1) no_level ∷ stacked ls j) (sym e))

pub innermost_top : (ls : List Level) (l d : Level) (n k : ℕ) → 0 < n → k ≡ n - 1 → n ≤ length ls → l ≡ get_or ls k d
    → stacked ls n ≡ l ∷ stacked ls k
innermost_top ls l d n k h e len g =
    let lt : n - 1 < length ls = omega arith in
    let same : get_or ls k d ≡ get_or ls (n - 1) no_level =
    ap (λ (j : ℕ). get_or ls j d) e ∙ get_or_default ls (n - 1) d no_level lt in
    stacked_top ls n h ∙ ap₂ (λ (x : Level) (j : ℕ). x ∷ stacked ls j) (sym (g ∙ same)) (sym e)

pub found_both : (rule : List RuleNode) (l : Level) (w e x : ℕ) → (Has w x ↔ (Has l.met x × Has e x))
    → (Has e x ↔ EdgesMet rule l.child l.below x) → Has w x ↔ (Has l.met x × EdgesMet rule l.child l.below x)
found_both rule l w e x both met = (
  λ h. let k = both.0 h in (k.0, met.0 k.1),
  λ h. both.1 (h.0, met.1 h.1),
)

pub closes_none : (rule : List RuleNode) (n o : ℕ) (ls : List Level) (q : List ℕ) → n ≡ 0
    → Closes rule (record { stack = stacked ls n; opened = o; waiting = q }) (Err NothingOpen) (record { stack = stacked ls n; opened = o; waiting = q })
closes_none rule n o ls q e = Closes.none (ap (λ (k : ℕ). stacked ls k) e)

module _ (rule : List RuleNode) (s : Levels) (l : Level) (w : ℕ) (top : Innermost s l) (found : FoundAt rule l w) where
  abbrev rest : List Level
  rest = stacked s.open (s.depth - 1)

  pub closes_full : (s' : Levels) (f : Refusal) (r : Result Bool Refusal) → Has w 0 → WaitFails s f s' → r ≡ Err f
      → Closes rule (words s) r (words s')
  closes_full s' f r h full e =
      let G : Levels → Result Bool Refusal → Type 0 = λ t a. Closes rule (words s) a (words t) in
      let same : r ≡ Err WaitingFull = e ∙ ap Err full.refused in
      subst (λ t. G t r) (sym full.kept) (subst (λ a. G s a) (sym same)
      (Closes.full l rest w top.top found.each h (omega (arith, length_queued s.ring s.head s.waiting, full.full))))

  pub closes_selects : (t t' s' : Levels) (b : Bool) → Has w 0 → b ≡ true → Waits l.number s t → t' ≡ t → Merges w l.below t' s'
      → Closes rule (words s) (Ok b) (words s')
  closes_selects t t' s' b h it waits same merges =
      let after : List Level → ℕ → List ℕ → Words = λ st o q. record { stack = st; opened = o; waiting = q } in
      let G : Bool → Words → Type 0 = λ c m. Closes rule (words s) (Ok c) m in
      let to : Merges w l.below t s' = subst (λ (u : Levels). Merges w l.below u s') same merges in
      let stack : stacked s'.open s'.depth ≡ above w l.below (stacked s.open (s.depth - 1)) =
      to.stack ∙ ap (merged w l.below) (waits.stack ∙ top.top) in
      let is : words s' ≡ after (above w l.below (stacked s.open (s.depth - 1))) s.opened (queued s.ring s.head s.waiting ++ l.number ∷ []) =
      λ i. after (stack i) ((to.opened ∙ waits.opened) i) ((to.waiting ∙ waits.waiting) i) in
      subst (λ c. G c (words s')) (sym it) (subst (G true) (sym is)
      (Closes.selects l rest w top.top found.each h (omega (arith, length_queued s.ring s.head s.waiting, waits.few))))

  pub closes_passes : (t s' : Levels) (b : Bool) → (Has w 0 → ⊥) → b ≡ false → t ≡ s → Merges w l.below t s'
      → Closes rule (words s) (Ok b) (words s')
  closes_passes t s' b h it same merges =
      let after : List Level → ℕ → List ℕ → Words = λ st o q. record { stack = st; opened = o; waiting = q } in
      let G : Bool → Words → Type 0 = λ c m. Closes rule (words s) (Ok c) m in
      let to : Merges w l.below s s' = subst (λ (u : Levels). Merges w l.below u s') same merges in
      let stack : stacked s'.open s'.depth ≡ above w l.below (stacked s.open (s.depth - 1)) =
      to.stack ∙ ap (merged w l.below) top.top in
      let is : words s' ≡ after (above w l.below (stacked s.open (s.depth - 1))) s.opened (queued s.ring s.head s.waiting) =
      λ i. after (stack i) (to.opened i) (to.waiting i) in
      subst (λ c. G c (words s')) (sym it) (subst (G false) (sym is) (Closes.passes l rest w top.top found.each h))

-- a taking: one number more of those that wait, where ys is the front of the caller's list xs, as far as k numbers go
pub taken_more : (r xs ys : List ℕ) (h n k i j p v d : ℕ) → ys ≡ take i (queued r h n) ++ drop i (take k xs)
    → k ≡ min n (length xs) → i < length (take k xs) → p ≡ (h + i) % waiting_limit → p < length r → v ≡ get_or r p d → j ≡ i + 1
    → set ys i v ≡ take j (queued r h n) ++ drop j (take k xs)
taken_more r xs ys h n k i j p v d e m a f b g o =
    let q : List ℕ = queued r h n in
    let long : length (queued r h n) ≡ n = length_queued r h n in
    let cut : length (take k xs) ≡ k = length-take-le k xs (omega arith) in
    let l : i < n = omega arith in
    let same : v ≡ get_or (queued r h n) i 0 =
    g ∙ get_or_default r p d 0 b ∙ ap (λ (m : ℕ). get_or r m 0) f ∙ sym (get_or_queued r h n i l) in
    ap₂ (λ (zs : List ℕ) (x : ℕ). set zs i x) e same ∙ front_more q (take k xs) i (omega arith) a
    ∙ ap (λ (m : ℕ). take m q ++ drop m (take k xs)) (sym o)

pub taken_count : (r xs : List ℕ) (h n k : ℕ) → k ≡ min n (length xs) → k ≡ min (length (queued r h n)) (length xs)
taken_count r xs h n k e = omega (arith, length_queued r h n)

pub taken_list : (r xs ys : List ℕ) (h n k i : ℕ) → ys ≡ take i (queued r h n) ++ drop i (take k xs)
    → k ≡ min n (length xs) → length (take k xs) ≤ i → i ≤ length (take k xs) → ys ++ drop k xs ≡ take k (queued r h n) ++ drop k xs
taken_list r xs ys h n k i e m l g =
    let q : List ℕ = queued r h n in
    let cut : length (take k xs) ≡ k = length-take-le k xs (omega arith) in
    let all : i ≡ k = omega arith in
    ap (λ (zs : List ℕ). zs ++ drop k xs)
    (e ∙ ap (λ (p : ℕ). take p q ++ drop p (take k xs)) all
    ∙ ap (λ (zs : List ℕ). take k q ++ zs) (drop_all k (take k xs) (omega arith)) ∙ append-nil (take k q))

pub taken_rest : (r : List ℕ) (h n k h' n' : ℕ) → h' ≡ (h + k) % waiting_limit → n' ≡ n - k → k ≤ n → queued r h' n' ≡ drop k (queued r h n)
taken_rest r h n k h' n' e f l =
    ap (λ (p : ℕ). queued r h' p) f ∙ queued_mod r h' (h + k) (n - k) (omega arith) ∙ sym (drop_queued r h n k l)

pub ruleset opening = (opens_deep, opens_many, opens_fine)

pub ruleset closing = (closes_none, closes_full, closes_selects, closes_passes)

pub ruleset dropping = (drops_none, drops_top)

pub ruleset taking = (taken_more, taken_count, taken_list, taken_rest)
