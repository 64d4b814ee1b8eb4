use Rattle.std.proofs.Common.{refl, arith}
use Rattle.runs.proofs.ReplayLaws.{playing_none, playing_more, made_here, unmade_here, still_fits, replayed, unfinished}
use Rattle.runs.proofs.run.Run.make_all.Goals as goal

pub loop-i-init : goal.loop-i-init
loop-i-init g c = playing_none g.L.PartialEq.eq c.args.self.now.rule.now c.args.labels.now c.args.calls.now c.args.answers.now c.args.numbers.now c.args.self.now refl c.requires.new

pub returns : goal.returns
returns g c =
    replayed g.L.PartialEq.eq c.args.self.now.rule.now c.args.labels.now c.args.calls.now c.args.answers.now c.args.numbers.now
    c.loop-i.self c.loop-i.i c.loop-i.handed c.loop-i.answers c.loop-i.numbers c.loop-i.invariant (omega arith) (omega arith) c.requires.room

pub returns-in_default : goal.returns-in_default
returns-in_default g c =
    let p = c.loop-i.invariant in
    let u = unmade_here _ _ _ _ _ _ c.loop-i.self c.loop-i.i c.loop-i.handed c.loop-i.answers c.loop-i.numbers p c.index-calls-i.result c.make.new.out c.make.new.self c.in_default.ensures in
    unfinished _ _ _ _ _ _ c.loop-i.self c.loop-i.i c.loop-i.handed c.loop-i.answers c.loop-i.numbers p c.index-calls-i.result c.make.new.out c.make.new.self
    c.loop-i-test.true c.index-calls-i.is c.requires.room u

pub overflow_add-handed : goal.overflow_add-handed
overflow_add-handed g c =
    let p = c.loop-i.invariant in
    let made = made_here _ _ _ _ _ _ c.loop-i.self c.loop-i.i c.loop-i.handed c.loop-i.answers c.loop-i.numbers p c.index-calls-i.result c.in-Some.answer c.make.new.out c.make.new.self c.in-Some.ensures in
    let few = still_fits _ _ _ _ _ _ c.loop-i.self c.loop-i.i c.loop-i.handed c.loop-i.answers c.loop-i.numbers p c.index-calls-i.result c.in-Some.answer c.make.new.out c.make.new.self
    c.loop-i-test.true c.index-calls-i.is c.requires.room made in
    omega (arith, few, c.moved-handed.ensures)

pub loop-i-preserved : goal.loop-i-preserved
loop-i-preserved g c =
    let p = c.loop-i.invariant in
    let made = made_here _ _ _ _ _ _ c.loop-i.self c.loop-i.i c.loop-i.handed c.loop-i.answers c.loop-i.numbers p c.index-calls-i.result c.in-Some.answer c.make.new.out c.make.new.self c.in-Some.ensures in
    rw c.moved-handed.ensures
    (playing_more _ _ _ _ _ _ c.loop-i.self c.loop-i.i c.loop-i.handed c.loop-i.answers c.loop-i.numbers p c.index-calls-i.result c.in-Some.answer c.make.new.out c.make.new.self
    c.loop-i-test.true c.index-calls-i.is c.requires.room made)
