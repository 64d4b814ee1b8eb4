-- From the machine's answer to the definitions. Assumes nothing.
use Rattle.std.proofs.Common.{◌≡◌, ℕ, ◌≤◌, ◌⊎◌, List, [], ◌∷◌, ◌++◌, length, sym, refl, ap, ◌∙◌, subst, inl, inr, arith}
use Rattle.rules.specs.declared.syntax.Token.{Token}
use Rattle.rules.specs.declared.syntax.ParsedNode.{ParsedNode}
use Rattle.rules.specs.declared.refusal.TextRefusal.{TextRefusal}
use Rattle.rules.specs.Limits.{text_limit}
use Rattle.rules.specs.Grammar.{Text}
use Rattle.rules.specs.Tokens.{TokensRefused, Offends, ComesBefore, same, not_allowed_first, many_before_long, many_before_deep, long_before_deep}
use Rattle.rules.specs.Refusals.{number_and_place}
use Rattle.rules.specs.Texts.{Unfit, TextGives, gives, TextRefused, unfit, refused}
use Rattle.rules.specs.ReadText.{ReadingGives, ReadingRefused, short_list, by_text, OnlyGives, OnlyRefused}
use Rattle.rules.proofs.Sole.{sole}
use Rattle.rules.proofs.Machine.{complete}
use Rattle.rules.specs.Machine.{start, ended, to, accepts, lex, run}
use Rattle.rules.specs.Readers.{told}
use Rattle.rules.proofs.Judged.{Right, answered}
use Rattle.rules.proofs.Words.{lexes, unique}

pub fit : (bs : List ℕ) → (length bs ≡ 0 → ⊥) → length bs ≤ text_limit → Unfit bs → ⊥
fit bs some few (inl h) = some h
fit bs some few (inr h) = omega arith

pub turns_away : (bs : List ℕ) (f : TextRefusal) → (Unfit bs → ⊥) → run (lex 0 0 bs) start ≡ told f → TextRefused bs (number_and_place f)
turns_away bs f fits e = refused fits (lexes bs) (subst (Right (lex 0 0 bs)) e (answered (lex 0 0 bs)))

pub accepting : (bs : List ℕ) (ns : List ParsedNode) → (Unfit bs → ⊥) → run (lex 0 0 bs) start ≡ accepts ns → TextGives bs ns
accepting bs ns fits e = gives fits (lexes bs) (subst (Right (lex 0 0 bs)) e (answered (lex 0 0 bs)))

------------------------------------------------------------------------
-- a text has one answer

pub gives_same : {bs : List ℕ} {ns ms : List ParsedNode} → TextGives bs ns → TextGives bs ms → ns ≡ ms
gives_same {bs} {ns} {ms} (gives {ts = ts} f l a) (gives {ts = us} g k b) =
    let q : us ≡ ts = unique k ∙ sym (unique l) in
    let e : to (ended ns) ≡ to (ended ms) = sym (complete a.formed) ∙ complete (subst (λ x. Text x ms) q b.formed) in
    cc

pub never_both : {bs : List ℕ} {ns : List ParsedNode} {x : ℕ × ℕ} → TextGives bs ns → TextRefused bs x → ⊥
never_both (gives f l a) (unfit u) = f u
never_both (gives {ts = ts} f l a) (refused {ts = us} g m r) =
    let q : ts ≡ us = unique l ∙ sym (unique m) in
    a.clear r.before r.at r.rest _ (q ∙ r.splits) r.offends

two_splits : {X : Type 0} (a c : List X) (t u : X) (b d : List X) → a ++ (t ∷ b) ≡ c ++ (u ∷ d)
    → ((a ≡ c) × (t ≡ u)) ⊎ (((e : List X) × (c ≡ a ++ (t ∷ e))) ⊎ ((e : List X) × (a ≡ c ++ (u ∷ e))))
two_splits [] [] t u b d q = inl (refl, cc)
two_splits [] (y ∷ c) t u b d q = inr (inl (c, cc))
two_splits (x ∷ a) [] t u b d q = inr (inr (a, cc))
two_splits (x ∷ a) (y ∷ c) t u b d q =
    let here : x ≡ y = cc in
    elim (two_splits a c t u b d (cc)) [
      | inl h ↦ inl (let p = h.0 in cc, h.1)
      | inr (inl h) ↦ inr (inl (h.0, let p = h.1 in cc))
      | inr (inr h) ↦ inr (inr (h.0, let p = h.1 in cc))
    ]

first_of : {k j : ℕ} → ComesBefore k j → (k ≡ j) ⊎ ((k ≡ 11) ⊎ (((k ≡ 13) × (j ≡ 12)) ⊎ (((k ≡ 13) × (j ≡ 14)) ⊎ ((k ≡ 12) × (j ≡ 14)))))
first_of same = inl refl
first_of not_allowed_first = inr (inl refl)
first_of many_before_long = inr (inr (inl (refl, refl)))
first_of many_before_deep = inr (inr (inr (inl (refl, refl))))
first_of long_before_deep = inr (inr (inr (inr (refl, refl))))

one_number : (k j : ℕ) → ComesBefore k j → ComesBefore j k → k ≡ j
one_number k j x y = let p = first_of x in let q = first_of y in omega arith

refused_same : {ts : List Token} {k p j q : ℕ} → TokensRefused ts k p → TokensRefused ts j q → (k ≡ j) × (p ≡ q)
refused_same {ts} {k} {p} {j} {q} r s =
    elim (two_splits r.before s.before r.at s.at r.rest s.rest (sym r.splits ∙ s.splits)) [
      | inl h ↦
          let also : Offends r.before r.at j = subst (λ b. Offends b r.at j) (sym h.0) (subst (λ t. Offends s.before t j) (sym h.1) s.offends) in
          let back : Offends s.before s.at k = subst (λ b. Offends b s.at k) h.0 (subst (λ t. Offends r.before t k) h.1 r.offends) in
          (one_number k j (r.foremost j also) (s.foremost k back), sym r.place ∙ ap (λ t. t.place) h.1 ∙ s.place)
      | inr (inl h) ↦ absurd (s.clear r.before r.at h.0 k h.1 r.offends)
      | inr (inr h) ↦ absurd (r.clear s.before s.at h.0 j h.1 s.offends)
    ]

pub turned_same : {bs : List ℕ} {x y : ℕ × ℕ} → TextRefused bs x → TextRefused bs y → x ≡ y
turned_same (unfit u) (unfit v) = refl
turned_same (unfit u) (refused g m s) = absurd (g u)
turned_same (refused f l r) (unfit v) = absurd (f v)
turned_same (refused {ts = ts} {k = k} {p = p} f l r) (refused {ts = us} g m s) =
    let h = refused_same (subst (λ x. TokensRefused x k p) (unique l ∙ sym (unique m)) r) s in λ i. (h.0 i, h.1 i)

------------------------------------------------------------------------
-- and so has its reading

unread_same : {bs : List ℕ} {n : ℕ} {x y : ℕ × ℕ} → ReadingRefused bs n x → ReadingRefused bs n y → x ≡ y
unread_same (short_list h) (short_list i) = refl
unread_same (short_list h) (by_text i r) = absurd (omega arith)
unread_same (by_text h r) (short_list i) = absurd (omega arith)
unread_same (by_text h r) (by_text i s) = turned_same r s

read_same : {bs : List ℕ} {n : ℕ} {ns ms : List ParsedNode} → ReadingGives bs n ns → ReadingGives bs n ms → ns ≡ ms
read_same g h = gives_same g.given h.given

read_or_not : {bs : List ℕ} {n : ℕ} {ns : List ParsedNode} {x : ℕ × ℕ} → ReadingGives bs n ns → ReadingRefused bs n x → ⊥
read_or_not g (short_list h) = let few = g.enough in omega arith
read_or_not g (by_text h r) = never_both g.given r

pub accepts_read : {bs : List ℕ} {n : ℕ} {ns : List ParsedNode} → ReadingGives bs n ns → OnlyGives bs n ns
accepts_read g = sole (λ y z. read_same) (λ y z. read_or_not) g

pub refuses_unread : {bs : List ℕ} {n : ℕ} (f : TextRefusal) → ReadingRefused bs n (number_and_place f) → OnlyRefused bs n f
refuses_unread f r = sole (λ y z. unread_same) (λ y z q g. read_or_not g q) r
