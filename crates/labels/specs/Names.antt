-- What a name stands for, and when none is made.
use Rattle.std.specs.Prelude.{◌≡◌, ℕ, zero, suc, ◌-◌, ◌/◌, ◌%◌, ◌<◌, ◌≤◌, min, MatchResult, Result, Ok, List, [], ◌∷◌, ◌++◌, length}
use Rattle.labels.specs.Spelling.{name_limit}
use Rattle.labels.specs.Exact.{Sole}
use Rattle.labels.specs.NameOf.{name_of}
use Rattle.labels.specs.declared.name.Name.{Name}
use Rattle.labels.specs.declared.name.NameRefusal.{NameRefusal}
use Rattle.labels.specs.declared.name.NameRefusal.TheVariants.{TooLong}

-- the last n digits of w in base 256
abbrev pub digits : ℕ → ℕ → List ℕ
digits zero w = []
digits (suc n) w = digits n (w / 256) ++ w % 256 ∷ []

-- the bytes of a name
abbrev pub bytes_of : Name → List ℕ
bytes_of n =
    digits (min 8 n.len) n.first
    ++ (digits (min 8 (n.len - 8)) n.second
    ++ (digits (min 8 (n.len - 16)) n.third
    ++ digits (min 8 (n.len - 24)) n.fourth))

------------------------------------------------------------------------
-- making names

abbrev pub HasBytes : List ℕ → Name → Type 0
HasBytes bs n = bytes_of n ≡ bs

-- the number of the refusal, which has no value
abbrev pub number : NameRefusal → ℕ
number TooLong = 36

-- a reason to make no name of the bytes, by its number
abbrev pub NameReason : List ℕ → ℕ → Type 0
NameReason bs k = (k ≡ 36) × (name_limit < length bs)

-- The name has these bytes, and no other name has them, and there is no reason to refuse them.
abbrev pub OnlyMade : List ℕ → Name → Type 0
OnlyMade bs n = Sole (HasBytes bs) (NameReason bs) n

-- There is this reason to refuse the bytes, and no other, and no name has them.
abbrev pub OnlyUnmade : List ℕ → NameRefusal → Type 0
OnlyUnmade bs f = Sole (NameReason bs) (HasBytes bs) (number f)

-- what making a name of the bytes answers
abbrev pub Naming : List ℕ → Result Name NameRefusal → Type 0
Naming bs answer = MatchResult answer (OnlyMade bs) (OnlyUnmade bs)

-- the same for every kind of labels with a spelling: the label is spelled by the bytes, or they are too many
abbrev pub Making : {L : Type 0} → (L → List ℕ) → List ℕ → Result L NameRefusal → Type 0
Making spelled bs answer = MatchResult answer (λ l. (spelled l ≡ bs) × (length bs ≤ name_limit)) (λ f. NameReason bs (number f))

-- Making a name and reading its bytes back are inverse, and the name made is the name of the bytes.
pub record MakingInverse : Type 0 where
  pub bytes_back : (bs : List ℕ) (n : Name) → Naming bs (Ok n) → bytes_of n ≡ bs
  pub name_is : (bs : List ℕ) (n : Name) → Naming bs (Ok n) → n ≡ name_of bs
  pub name_back : (n : Name) (answer : Result Name NameRefusal) → Naming (bytes_of n) answer → answer ≡ Ok n
