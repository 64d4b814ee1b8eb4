-- The machine with the limits, and that it answers as the definitions say. Assumes nothing.
use Rattle.std.proofs.Common.{◌≡◌, ℕ, zero, suc, ◌+◌, ◌<◌, ◌≤◌, Bool, cond, ltb, leb, ◌⊎◌, List, [], ◌∷◌, ◌++◌, length, sym, refl, ap, ◌∙◌, subst, inl, inr, append_assoc, append-nil, arith}
use Rattle.std.proofs.lemmas.List.{length_push}
use Rattle.std.proofs.lemmas.List.Sums.{sum_by_push}
use Rattle.std.proofs.lemmas.Bool.{false≢true}
use Rattle.std.proofs.lemmas.Bool.Decides.{nat_tests}
use Rattle.rules.specs.declared.syntax.Kind.{Kind}
use Rattle.rules.specs.declared.syntax.Kind.TheVariants.{DoubleSlash, Slash, Dot, Open, Close, Star, Name, Stray, End}
use Rattle.rules.specs.declared.syntax.Token.{Token}
use Rattle.rules.specs.declared.syntax.ParsedNode.{ParsedNode}
use Rattle.labels.specs.Spelling.{name_limit}
use Rattle.rules.specs.Limits.{node_limit, bracket_limit}
use Rattle.rules.specs.Grammar.{Test, name, star, Begins}
use Rattle.rules.specs.Tokens.{is_test, is_open, is_close, count, Offends, not_allowed, many_tests, long_name, deep_bracket, Clear, ComesBefore, same, not_allowed_first, many_before_long, TokensGive, TokensRefused}
use Rattle.rules.specs.Machine.{State, start, root, after, opened, dotted, below, more, ended, Moved, to, stuck, on_double, on_test, on_path, on_after, move, moves, Answer, accepts, refuses, unfinished, nodes, depth, over, go, excess, run}
use Rattle.rules.proofs.Machine.{sound, begins, begins_not, moves_append, no_move}

------------------------------------------------------------------------
-- the state counts the tests and the brackets

abbrev one : Bool → ℕ
one b = cond b 1 0

record Gain (k : Kind) (s u : State) : Type 0 where
  tests : length (nodes u) ≡ length (nodes s) + one (is_test k)
  brackets : depth u + one (is_close k) ≡ depth s + one (is_open k)

to_same : {s u : State} → to s ≡ to u → s ≡ u
to_same e = cc

gain_double : (k : Kind) (s v u : State) → Gain DoubleSlash s v → on_double k v ≡ to u → Gain k s u
gain_double DoubleSlash s v u g e = subst (Gain DoubleSlash s) (to_same e) g
gain_double Slash s v u g e = no_move [] u e
gain_double Dot s v u g e = no_move [] u e
gain_double Open s v u g e = no_move [] u e
gain_double Close s v u g e = no_move [] u e
gain_double Star s v u g e = no_move [] u e
gain_double Name s v u g e = no_move [] u e
gain_double Stray s v u g e = no_move [] u e
gain_double End s v u g e = no_move [] u e

gain_test : (k : Kind) (s v u : State) → Gain Star s v → Gain Name s v → on_test k v ≡ to u → Gain k s u
gain_test DoubleSlash s v u g h e = no_move [] u e
gain_test Slash s v u g h e = no_move [] u e
gain_test Dot s v u g h e = no_move [] u e
gain_test Open s v u g h e = no_move [] u e
gain_test Close s v u g h e = no_move [] u e
gain_test Star s v u g h e = subst (Gain Star s) (to_same e) g
gain_test Name s v u g h e = subst (Gain Name s) (to_same e) h
gain_test Stray s v u g h e = no_move [] u e
gain_test End s v u g h e = no_move [] u e

gain_path : (k : Kind) (s d v u : State) → Gain Dot s d → Gain Star s v → Gain Name s v → on_path k d v ≡ to u → Gain k s u
gain_path DoubleSlash s d v u f g h e = no_move [] u e
gain_path Slash s d v u f g h e = no_move [] u e
gain_path Dot s d v u f g h e = subst (Gain Dot s) (to_same e) f
gain_path Open s d v u f g h e = no_move [] u e
gain_path Close s d v u f g h e = no_move [] u e
gain_path Star s d v u f g h e = subst (Gain Star s) (to_same e) g
gain_path Name s d v u f g h e = subst (Gain Name s) (to_same e) h
gain_path Stray s d v u f g h e = no_move [] u e
gain_path End s d v u f g h e = no_move [] u e

gain_after : (k : Kind) (n : ℕ) (outer : List ℕ) (ns : List ParsedNode) (u : State) → on_after k n outer ns ≡ to u → Gain k (after n outer ns) u
gain_after DoubleSlash n [] ns u e = no_move [] u e
gain_after DoubleSlash n (k ∷ outer) ns u e = subst (Gain DoubleSlash _) (to_same e) (record { tests = omega arith; brackets = omega arith })
gain_after Slash n [] ns u e = no_move [] u e
gain_after Slash n (k ∷ outer) ns u e = subst (Gain Slash _) (to_same e) (record { tests = omega arith; brackets = omega arith })
gain_after Dot n outer ns u e = no_move [] u e
gain_after Open n outer ns u e = subst (Gain Open _) (to_same e) (record { tests = omega arith; brackets = omega arith })
gain_after Close n [] ns u e = no_move [] u e
gain_after Close n (k ∷ outer) ns u e = subst (Gain Close _) (to_same e) (record { tests = omega arith; brackets = omega arith })
gain_after Star n outer ns u e = no_move [] u e
gain_after Name n outer ns u e = no_move [] u e
gain_after Stray n outer ns u e = no_move [] u e
gain_after End n [] ns u e = subst (Gain End _) (to_same e) (record { tests = omega arith; brackets = omega arith })
gain_after End n (k ∷ outer) ns u e = no_move [] u e

gain : (s : State) (t : Token) (u : State) → move s t ≡ to u → Gain t.kind s u
gain start t u e = gain_double t.kind start root u (record { tests = refl; brackets = refl }) e
gain root t u e = gain_test t.kind root _ u (record { tests = refl; brackets = refl }) (record { tests = refl; brackets = refl }) e
gain (after n outer ns) t u e = gain_after t.kind n outer ns u e
gain (opened n outer ns) t u e =
    gain_path t.kind _ _ _ u (record { tests = omega arith; brackets = omega arith })
    (record { tests = length_push ns _; brackets = omega arith }) (record { tests = length_push ns _; brackets = omega arith }) e
gain (dotted n outer ns) t u e = gain_double t.kind _ _ u (record { tests = omega arith; brackets = omega arith }) e
gain (below n outer ns) t u e =
    gain_test t.kind _ _ u (record { tests = length_push ns _; brackets = omega arith }) (record { tests = length_push ns _; brackets = omega arith }) e
gain (more d n k outer ns) t u e =
    gain_test t.kind _ _ u (record { tests = length_push ns _; brackets = omega arith }) (record { tests = length_push ns _; brackets = omega arith }) e
gain (ended ns) t u e = no_move [] u e

record Tally (before : List Token) (s : State) : Type 0 where
  pub tests : count is_test before ≡ length (nodes s)
  pub brackets : count is_open before ≡ depth s + count is_close before

count_push : (f : Kind → Bool) (ts : List Token) (t : Token) → count f (ts ++ (t ∷ [])) ≡ count f ts + one (f t.kind)
count_push f ts t = sum_by_push (λ (x : Token). one (f x.kind)) ts t

tally_more : (before : List Token) (t : Token) (s u : State) → move s t ≡ to u → Tally before s → Tally (before ++ (t ∷ [])) u
tally_more before t s u e h =
    let g = gain s t u e in
    record {
      tests = omega (arith, count_push is_test before t, g.tests, h.tests);
      brackets = omega (arith, count_push is_open before t, count_push is_close before t, g.brackets, h.brackets);
    }

------------------------------------------------------------------------
-- what is wrong with one token

name_open : {X : Type 0} (k : Kind) → k ≡ Name → k ≡ Open → X
name_open k p q = absurd (false≢true (ap is_open (sym p ∙ q)))

star_open : {X : Type 0} (k : Kind) → k ≡ Star → k ≡ Open → X
star_open k p q = absurd (false≢true (ap is_open (sym p ∙ q)))

module _ (before : List Token) (t : Token) (s : State) (tally : Tally before s) where
  fine : Begins (before ++ (t ∷ [])) → excess s t ≡ 0 → (k : ℕ) → Offends before t k → ⊥
  fine b e k (not_allowed h) = h b
  fine b e k (many_tests (name q) h) =
      let z : over Name t.len (length (nodes s)) (depth s) ≡ 0 = subst (λ k. over k t.len (length (nodes s)) (depth s) ≡ 0) q e in
      let m = tally.tests in
      grind (arith, nat_tests)
  fine b e k (many_tests (star q) h) =
      let z : over Star t.len (length (nodes s)) (depth s) ≡ 0 = subst (λ k. over k t.len (length (nodes s)) (depth s) ≡ 0) q e in
      let m = tally.tests in
      grind (arith, nat_tests)
  fine b e k (long_name q h) =
      let z : over Name t.len (length (nodes s)) (depth s) ≡ 0 = subst (λ k. over k t.len (length (nodes s)) (depth s) ≡ 0) q e in
      grind (arith, nat_tests)
  fine b e k (deep_bracket q h) =
      let z : over Open t.len (length (nodes s)) (depth s) ≡ 0 = subst (λ k. over k t.len (length (nodes s)) (depth s) ≡ 0) q e in
      let m = tally.brackets in
      grind (arith, nat_tests)

  record Worst (k : ℕ) : Type 0 where
    offends : Offends before t k
    foremost : (j : ℕ) → Offends before t j → ComesBefore k j

  first_tests : Begins (before ++ (t ∷ [])) → Test t → (j : ℕ) → Offends before t j → ComesBefore 13 j
  first_tests b q j (not_allowed h) = absurd (h b)
  first_tests b q j (many_tests r h) = same
  first_tests b q j (long_name r h) = many_before_long
  first_tests b (name q) j (deep_bracket r h) = name_open t.kind q r
  first_tests b (star q) j (deep_bracket r h) = star_open t.kind q r

  first_name : Begins (before ++ (t ∷ [])) → t.kind ≡ Name → length (nodes s) < node_limit → (j : ℕ) → Offends before t j → ComesBefore 12 j
  first_name b q few j (not_allowed h) = absurd (h b)
  first_name b q few j (many_tests r h) = let m = tally.tests in absurd (omega arith)
  first_name b q few j (long_name r h) = same
  first_name b q few j (deep_bracket r h) = name_open t.kind q r

  first_open : Begins (before ++ (t ∷ [])) → t.kind ≡ Open → (j : ℕ) → Offends before t j → ComesBefore 14 j
  first_open b q j (not_allowed h) = absurd (h b)
  first_open b q j (many_tests (name r) h) = name_open t.kind r q
  first_open b q j (many_tests (star r) h) = star_open t.kind r q
  first_open b q j (long_name r h) = name_open t.kind r q
  first_open b q j (deep_bracket r h) = same

  worst_star : Begins (before ++ (t ∷ [])) → t.kind ≡ Star → (k : ℕ) → over Star t.len (length (nodes s)) (depth s) ≡ suc k → Worst (suc k)
  worst_star b q k e =
      let m = tally.tests in
      let is : 13 ≡ suc k = grind (arith, nat_tests) in
      let far : node_limit ≤ length (nodes s) = grind (arith, nat_tests) in
      subst Worst is (record { offends = many_tests (star q) (omega arith); foremost = first_tests b (star q) })

  worst_open : Begins (before ++ (t ∷ [])) → t.kind ≡ Open → (k : ℕ) → over Open t.len (length (nodes s)) (depth s) ≡ suc k → Worst (suc k)
  worst_open b q k e =
      let m = tally.brackets in
      let is : 14 ≡ suc k = grind (arith, nat_tests) in
      let far : bracket_limit ≤ depth s = grind (arith, nat_tests) in
      subst Worst is (record { offends = deep_bracket q (omega arith); foremost = first_open b q })

  worst_name : Begins (before ++ (t ∷ [])) → t.kind ≡ Name → (k : ℕ) → over Name t.len (length (nodes s)) (depth s) ≡ suc k → Worst (suc k)
  worst_name b q k e =
      let m = tally.tests in
      let which : ((13 ≡ suc k) × (node_limit ≤ length (nodes s))) ⊎ ((12 ≡ suc k) × (length (nodes s) < node_limit) × (name_limit < t.len)) = pick (length (nodes s)) t.len k e in
      elim which [
        | inl h ↦ subst Worst h.0 (record { offends = many_tests (name q) (omega (arith, h.1)); foremost = first_tests b (name q) })
        | inr h ↦ subst Worst h.0 (record { offends = long_name q h.2; foremost = first_name b q h.1 })
      ]
    where
      pick : (n l k : ℕ) → cond (leb node_limit n) 13 (cond (ltb name_limit l) 12 0) ≡ suc k → ((13 ≡ suc k) × (node_limit ≤ n)) ⊎ ((12 ≡ suc k) × (n < node_limit) × (name_limit < l))
      pick n l k e = grind (arith, nat_tests)

  worst : Begins (before ++ (t ∷ [])) → (j : Kind) → t.kind ≡ j → (k : ℕ) → over j t.len (length (nodes s)) (depth s) ≡ suc k → Worst (suc k)
  worst b DoubleSlash q k e = absurd (omega arith)
  worst b Slash q k e = absurd (omega arith)
  worst b Dot q k e = absurd (omega arith)
  worst b Open q k e = worst_open b q k e
  worst b Close q k e = absurd (omega arith)
  worst b Star q k e = worst_star b q k e
  worst b Name q k e = worst_name b q k e
  worst b Stray q k e = absurd (omega arith)
  worst b End q k e = absurd (omega arith)

------------------------------------------------------------------------
-- the whole text

split_push : {X : Type 0} (xs a : List X) (x u : X) (b : List X) → xs ++ (x ∷ []) ≡ a ++ (u ∷ b)
    → ((a ≡ xs) × (u ≡ x)) ⊎ ((c : List X) × (xs ≡ a ++ (u ∷ c)))
split_push [] [] x u b e = inl (refl, cc)
split_push [] (y ∷ a) x u b e = absurd (omega (arith, ap length e, lib.ListN.length-append a (u ∷ b)))
split_push (y ∷ xs) [] x u b e = inr (xs, cc)
split_push (y ∷ xs) (z ∷ a) x u b e =
    let here : y ≡ z = cc in
    let there : xs ++ (x ∷ []) ≡ a ++ (u ∷ b) = cc in
    elim (split_push xs a x u b there) [
      | inl h ↦ inl (let p = h.0 in cc, h.1)
      | inr h ↦ inr (h.0, let p = h.1 in cc)
    ]

clear_more : (before : List Token) (t : Token) → Clear before → ((k : ℕ) → Offends before t k → ⊥) → Clear (before ++ (t ∷ []))
clear_more before t c h a u b k e o =
    elim (split_push before a t u b e) [
      | inl q ↦ h k (subst (λ x. Offends before x k) q.1 (subst (λ xs. Offends xs u k) q.0 o))
      | inr q ↦ c a u q.0 k q.1 o
    ]

-- what an answer says of the tokens
abbrev pub Right : List Token → Answer → Type 0
Right ts (accepts ns) = TokensGive ts ns
Right ts (refuses k p) = TokensRefused ts k p
Right ts unfinished = Unit {0}

record Sofar (before : List Token) (s : State) : Type 0 where
  pub moved : moves before (to start) ≡ to s
  pub clear : Clear before
  pub tally : Tally before s

moved_one : (before : List Token) (t : Token) (s : State) → moves before (to start) ≡ to s → moves (before ++ (t ∷ [])) (to start) ≡ move s t
moved_one before t s e = moves_append before (t ∷ []) (to start) ∙ ap (moves (t ∷ [])) e

-- one token more, where what is behind it is answered for
next : (t : Token) (ts before : List Token) (s : State) → Sofar before s
    → ((a : List Token) (u : State) → Sofar a u → Right (a ++ ts) (run ts u))
    → (m : Moved) → move s t ≡ m → (x : ℕ) → excess s t ≡ x → Right (before ++ (t ∷ ts)) (go m x t.place (λ u. run ts u))
next t ts before s h ih stuck e x q =
    record {
      before = before;
      at = t;
      rest = ts;
      splits = refl;
      place = refl;
      begun = begins before s h.moved;
      clear = h.clear;
      offends = not_allowed (begins_not _ (moved_one before t s h.moved ∙ e));
      foremost = λ j o. not_allowed_first;
    }
next t ts before s h ih (to u) e zero q =
    let there = moved_one before t s h.moved ∙ e in
    let b = begins _ u there in
    let more_far : Sofar (before ++ (t ∷ [])) u = record {
      moved = there;
      clear = clear_more before t h.clear (fine before t s h.tally b q);
      tally = tally_more before t s u e h.tally;
    } in
    subst (λ xs. Right xs (run ts u)) (append_assoc before (t ∷ []) ts) (ih (before ++ (t ∷ [])) u more_far)
next t ts before s h ih (to u) e (suc k) q =
    let b = begins _ u (moved_one before t s h.moved ∙ e) in
    let w = worst before t s h.tally b t.kind refl k q in
    record {
      before = before;
      at = t;
      rest = ts;
      splits = refl;
      place = refl;
      begun = begins before s h.moved;
      clear = h.clear;
      offends = w.offends;
      foremost = w.foremost;
    }

answer : (ts before : List Token) (s : State) → Sofar before s → Right (before ++ ts) (run ts s)
answer [] before start h = tt
answer [] before root h = tt
answer [] before (after n outer ns) h = tt
answer [] before (opened n outer ns) h = tt
answer [] before (dotted n outer ns) h = tt
answer [] before (below n outer ns) h = tt
answer [] before (more e n k outer ns) h = tt
answer [] before (ended ns) h =
    let whole : TokensGive before ns = record { formed = sound before ns h.moved; clear = h.clear } in
    subst (λ ts. TokensGive ts ns) (sym (append-nil before)) whole
answer (t ∷ ts) before s h = next t ts before s h (λ a u g. answer ts a u g) (move s t) refl (excess s t) refl

clear_none : Clear []
clear_none [] t b k e o = absurd (omega (arith, ap length e))
clear_none (x ∷ a) t b k e o = absurd (omega (arith, ap length e))

pub answered : (ts : List Token) → Right ts (run ts start)
answered ts = answer ts [] start (record { moved = refl; clear = clear_none; tally = record { tests = refl; brackets = refl } })
