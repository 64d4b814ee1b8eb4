use Rattle.std.proofs.Common.{rules, arith, get_or, drop, ◌≡◌, subst₂, ap, ◌∙◌}
use Rattle.std.specs.Iterator.Runs.{IsWindowsRun}
use Rattle.std.specs.Slice.Iter.{windows_size, windows_rest}
use Rattle.std.specs.Slice.ArrayWindows.{array_windows_parts}
use Rattle.xml.proofs.Pairs.{first_pair, rest_part}
use Rattle.xml.proofs.skip.pair_place.Goals as goal

pub returns-clause-first : goal.returns-clause-first
returns-clause-first c = λ h.
    let xs = c.args.input.now in
    let p = c.args.from in
    let r = c.position.ensures.runs in
    let size : windows_size (array_windows_parts r.0.from) ≡ 2 = ap (λ s. windows_size (array_windows_parts s)) r.1 ∙ c.array_windows.ensures.size in
    let left : windows_rest (array_windows_parts r.0.from) ≡ drop p xs =
    ap (λ s. windows_rest (array_windows_parts s)) r.1 ∙ c.array_windows.ensures.rest ∙ rest_part xs p in
    let w = subst₂ (λ n ys. IsWindowsRun r.0 n ys) size left (c.array_windows.ensures.runs r.0 r.0.seen (omega (arith, size))) in
    first_pair r.0 xs p w (get_or c.args.pair.now 0 0) (get_or c.args.pair.now 1 0) _ _ (λ x t q k. search rules) (λ x t n k. search rules)
    c.position.result c.requires h r.2 c.map_or.result (search rules)
