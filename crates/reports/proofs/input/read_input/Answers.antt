use Rattle.std.proofs.Common.{◌≡◌, take, ◌++◌, IfSome, subst}
use Rattle.std.specs.Option.{option_map}
use Rattle.reports.proofs.Known.{read_limited}
use Rattle.reports.proofs.input.read_input.Goals as goal

-- src/input.rt:11:1
pub returns : goal.returns
returns g c = read_limited (g.R.Read.remaining c.args.reader) 65537 c.new-input.result.items c.read_to_end.new.buf.items c.new-input.ensures.items
    (subst (λ reader. IfSome (option_map (take 65537) (g.R.Read.remaining reader)) (λ xs. c.read_to_end.new.buf.items ≡ c.new-input.result.items ++ xs)) c.take.ensures.inner
    (subst (λ k. IfSome (option_map (take k) (g.R.Read.remaining c.take.result.inner)) (λ xs. c.read_to_end.new.buf.items ≡ c.new-input.result.items ++ xs)) c.take.ensures.limit c.in_ok-read_to_end.ensures.bytes))
