use Rattle.std.proofs.Common.{refl, arith}
use Rattle.runs.proofs.MadeCallLaws.{made_open, made_close, made_drop, made_take}
use Rattle.runs.proofs.run.Run.make.Goals as goal

pub returns-in-Open : goal.returns-in-Open
returns-in-Open g c m at =
    made_open g.L.PartialEq.eq c.args.self.now.rule.now c.args.labels.now m c.args.self.now c.open.new.self at c.args.call.now c.of_opening.result c.args.out.now
    c.in-Open.label c.open.result c.in-Open.is c.open.ensures.step c.of_opening.ensures

pub returns-in-Close : goal.returns-in-Close
returns-in-Close g c m at =
    made_close g.L.PartialEq.eq c.args.self.now.rule.now c.args.labels.now m c.args.self.now c.close.new.self at c.args.call.now c.of_closing.result c.args.out.now
    c.close.result c.in-Close.is c.close.ensures.step c.of_closing.ensures

pub returns-in-Drop : goal.returns-in-Drop
returns-in-Drop g c m at =
    made_drop g.L.PartialEq.eq c.args.self.now.rule.now c.args.labels.now m c.args.self.now c.drop_open.new.self at c.args.call.now c.of_dropping.result c.args.out.now
    c.drop_open.result c.in-Drop.is c.drop_open.ensures.step c.of_dropping.ensures

pub returns-else-count-out : goal.returns-else-count-out
returns-else-count-out g c m at =
    made_take g.L.PartialEq.eq c.args.self.now.rule.now c.args.labels.now m c.args.self.now c.take.new.self at c.args.call.now _ c.args.out.now
    c.in-Take.size c.min-count.result c.take.result c.take.new.out _ c.in-Take.is refl (λ t s. let k = c.waiting_count.ensures t s in omega arith) (omega arith) c.take.ensures refl
