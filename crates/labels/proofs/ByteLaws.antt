-- The byte at a place of a name.
use Rattle.std.proofs.Common.{◌≡◌, ℕ, zero, suc, ◌+◌, ◌-◌, ◌*◌, ◌/◌, ◌%◌, ◌^◌, ◌<◌, ◌≤◌, min, cond, ltb, ◌⊎◌, List, [], ◌∷◌, ◌++◌, get_or, take, Some, sym, ap, ◌∙◌, inl, inr, arith}
use Rattle.std.specs.List.{slice_get}
use Rattle.std.proofs.lemmas.Nat.{shr-shr}
use Rattle.std.proofs.lemmas.List.{get_or_append_left, get_or-append_right, get_or_at, take_more, take_all}
use Rattle.std.proofs.lemmas.Option.{slice_get-get_or, slice_get_within, get_or_from_slice_get}
use Rattle.std.proofs.lemmas.Bool.{cases_lt, cond_both, ltb-true, ltb-false}
use Rattle.labels.specs.declared.name.Name.{Name}
use Rattle.labels.specs.Names.{digits, bytes_of}
use Rattle.labels.specs.Words.{word_with}
use Rattle.labels.specs.NameLaws.{length_digits, length_bytes}

-- a digit of w is what stands at its end once the digits behind it are gone
digit : (n w i : ℕ) → i < n → get_or (digits n w) i 0 ≡ w / 2 ^ (8 * (n - 1 - i)) % 256
digit zero w i l = absurd (omega arith)
digit (suc n) w i l = go (cases_lt i n) (λ h. digit n (w / 256) i h)
  where
    go : ((i < n) ⊎ (n ≤ i))
        → (i < n → get_or (digits n (w / 256)) i 0 ≡ w / 256 / 2 ^ (8 * (n - 1 - i)) % 256)
        → get_or (digits (suc n) w) i 0 ≡ w / 2 ^ (8 * (suc n - 1 - i)) % 256
    go (inl h) shorter =
        let e : 8 + 8 * (n - 1 - i) ≡ 8 * (suc n - 1 - i) = omega arith in
        get_or_append_left (digits n (w / 256)) (w % 256 ∷ []) 0 i (omega (arith, length_digits n (w / 256)))
        ∙ shorter h
        ∙ ap (λ (q : ℕ). q % 256) (shr-shr w 8 (8 * (n - 1 - i)) ∙ ap (λ (k : ℕ). w / 2 ^ k) e)
    go (inr h) shorter =
        let e : 0 ≡ 8 * (suc n - 1 - i) = omega arith in
        let one : w ≡ w / 2 ^ 0 = omega arith in
        get_or_at (digits n (w / 256)) (w % 256) [] 0 i (length_digits n (w / 256) ∙ omega arith)
        ∙ ap (λ (q : ℕ). q % 256) (one ∙ ap (λ (k : ℕ). w / 2 ^ k) e)

-- the digit at the place i of a name in one of its words
in_word : (len w start i k : ℕ) → i ≡ start + k → k < min 8 (len - start) → get_or (digits (min 8 (len - start)) w) k 0 ≡ w / 2 ^ (8 * (min (len - (i - k)) 8 - 1 - k)) % 256
in_word len w start i k e l =
    let same : 8 * (min 8 (len - start) - 1 - k) ≡ 8 * (min (len - (i - k)) 8 - 1 - k) = omega arith in
    digit (min 8 (len - start)) w k l ∙ ap (λ (m : ℕ). w / 2 ^ m % 256) same

module _ (n : Name) (i : ℕ) (l : i < n.len) where
  abbrev A : List ℕ
  A = digits (min 8 n.len) n.first

  abbrev B : List ℕ
  B = digits (min 8 (n.len - 8)) n.second

  abbrev K : List ℕ
  K = digits (min 8 (n.len - 16)) n.third

  abbrev D : List ℕ
  D = digits (min 8 (n.len - 24)) n.fourth

  abbrev Told : ℕ → Type 0
  Told w = get_or (bytes_of n) i 0 ≡ w / 2 ^ (8 * (min (n.len - (i - i % 8)) 8 - 1 - i % 8)) % 256

  in_first : i < 8 → Told n.first
  in_first h =
      let z : n.len ≡ n.len - 0 = omega arith in
      let r : i ≡ i % 8 = omega arith in
      get_or_append_left A (B ++ (K ++ D)) 0 i (omega (arith, length_digits (min 8 n.len) n.first))
      ∙ ap (λ (m : ℕ). get_or (digits (min 8 m) n.first) i 0) z
      ∙ ap (λ (j : ℕ). get_or (digits (min 8 (n.len - 0)) n.first) j 0) r
      ∙ in_word n.len n.first 0 i (i % 8) (omega arith) (omega arith)

  in_second : 8 ≤ i → i < 16 → Told n.second
  in_second g h =
      let r : i - 8 ≡ i % 8 = omega arith in
      get_or-append_right A (B ++ (K ++ D)) 8 i 0 (length_digits (min 8 n.len) n.first ∙ omega arith) g
      ∙ get_or_append_left B (K ++ D) 0 (i - 8) (omega (arith, length_digits (min 8 (n.len - 8)) n.second))
      ∙ ap (λ (j : ℕ). get_or B j 0) r
      ∙ in_word n.len n.second 8 i (i % 8) (omega arith) (omega arith)

  in_third : 16 ≤ i → i < 24 → Told n.third
  in_third g h =
      let r : i - 8 - 8 ≡ i % 8 = omega arith in
      get_or-append_right A (B ++ (K ++ D)) 8 i 0 (length_digits (min 8 n.len) n.first ∙ omega arith) (omega arith)
      ∙ get_or-append_right B (K ++ D) 8 (i - 8) 0 (length_digits (min 8 (n.len - 8)) n.second ∙ omega arith) (omega arith)
      ∙ get_or_append_left K D 0 (i - 8 - 8) (omega (arith, length_digits (min 8 (n.len - 16)) n.third))
      ∙ ap (λ (j : ℕ). get_or K j 0) r
      ∙ in_word n.len n.third 16 i (i % 8) (omega arith) (omega arith)

  in_fourth : 24 ≤ i → Told n.fourth
  in_fourth g =
      let few = n.few in
      let r : i - 8 - 8 - 8 ≡ i % 8 = omega arith in
      get_or-append_right A (B ++ (K ++ D)) 8 i 0 (length_digits (min 8 n.len) n.first ∙ omega arith) (omega arith)
      ∙ get_or-append_right B (K ++ D) 8 (i - 8) 0 (length_digits (min 8 (n.len - 8)) n.second ∙ omega arith) (omega arith)
      ∙ get_or-append_right K D 8 (i - 8 - 8) 0 (length_digits (min 8 (n.len - 16)) n.third ∙ omega arith) (omega arith)
      ∙ ap (λ (j : ℕ). get_or D j 0) r
      ∙ in_word n.len n.fourth 24 i (i % 8) (omega arith) (omega arith)

  told : Told (word_with n i)
  told =
      cond_both (ltb i 8) n.first (cond (ltb i 16) n.second (cond (ltb i 24) n.third n.fourth)) Told
      (λ e. in_first (ltb-true i 8 e))
      (λ e. cond_both (ltb i 16) n.second (cond (ltb i 24) n.third n.fourth) Told
      (λ f. in_second (ltb-false i 8 e) (ltb-true i 16 f))
      (λ f. cond_both (ltb i 24) n.third n.fourth Told
      (λ g. in_third (ltb-false i 16 f) (ltb-true i 24 g))
      (λ g. in_fourth (ltb-false i 24 g))))

  -- the byte at a place, by the word that has it
  pub byte_told : (m w : ℕ) → w ≡ word_with n i → m ≡ min (n.len - (i - i % 8)) 8 → slice_get (bytes_of n) i ≡ Some (w / 2 ^ (8 * (m - 1 - i % 8)) % 256)
  byte_told m w e f =
      slice_get-get_or (bytes_of n) i 0 (omega (arith, length_bytes n))
      ∙ ap (λ (b : ℕ). Some b) (told ∙ ap (λ (v : ℕ). v / 2 ^ (8 * (min (n.len - (i - i % 8)) 8 - 1 - i % 8)) % 256) (sym e) ∙ ap (λ (k : ℕ). w / 2 ^ (8 * (k - 1 - i % 8)) % 256) (sym f))

-- the bytes before a place, and the byte there
pub next_byte : (bs : List ℕ) (i b : ℕ) → slice_get bs i ≡ Some b → take (i + 1) bs ≡ take i bs ++ b ∷ []
next_byte bs i b e = take_more bs i 0 (slice_get_within bs i b e) ∙ ap (λ (x : ℕ). take i bs ++ x ∷ []) (get_or_from_slice_get bs i b 0 e)

pub all_bytes : (n : Name) (i : ℕ) → n.len ≤ i → take i (bytes_of n) ≡ bytes_of n
all_bytes n i l = take_all i (bytes_of n) (omega (arith, length_bytes n))
