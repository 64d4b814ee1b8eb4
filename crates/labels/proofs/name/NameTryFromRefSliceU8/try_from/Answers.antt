use Rattle.std.proofs.Common.{◌≡◌, ℕ, ◌-◌, ◌≤◌, min, List, length, take, drop, ◌∙◌, arith}
use Rattle.std.proofs.lemmas.List.{length-take-le}
use Rattle.labels.specs.Spelling.{name_limit}
use Rattle.labels.proofs.Making.{fix_part, join_parts, length_cut, made_from}
use Rattle.labels.proofs.name.NameTryFromRefSliceU8.try_from.Goals as goal

pub returns : goal.returns
returns c =
    let bs : List ℕ = c.args.bytes.now in
    let i : ℕ = c.min-one.result in
    let j : ℕ = c.min-two.result in
    let k : ℕ = c.min-three.result in
    let a : c.min-one.result ≡ min (length c.args.bytes.now) 8 = omega arith in
    let b : c.min-two.result ≡ min (length c.args.bytes.now) 16 = omega arith in
    let d : c.min-three.result ≡ min (length c.args.bytes.now) 24 = omega arith in
    let n : length c.args.bytes.now ≤ name_limit = omega arith in
    let e1 = fix_part (min 8 (length bs)) c.word-first.result (take i bs) c.word-first.ensures.spells (length-take-le i bs (omega arith) ∙ omega arith) in
    let e2 = fix_part (min 8 (length bs - 8)) c.word-second.result (take (j - i) (drop i bs)) c.word-second.ensures.spells (length_cut bs i (j - i) (omega arith) ∙ omega arith) in
    let e3 = fix_part (min 8 (length bs - 16)) c.word-third.result (take (k - j) (drop j bs)) c.word-third.ensures.spells (length_cut bs j (k - j) (omega arith) ∙ omega arith) in
    let e4 = fix_part (min 8 (length bs - 24)) c.word-fourth.result (take (length bs - k) (drop k bs)) c.word-fourth.ensures.spells (length_cut bs k (length bs - k) (omega arith) ∙ omega arith) in
    let all = join_parts bs i j k (omega arith) (omega arith) in
    made_from bs _ (cc)
