use Rattle.std.proofs.Common.{◌<◌, refl, sym, ltb-true, rules, arith}
use Rattle.sources.proofs.TableSteps.{shut, closes}
use Rattle.sources.proofs.table.FolderTableSource.next.Goals as goal

pub returns-then-depth-self-2-clause-answer : goal.returns-then-depth-self-2-clause-answer
returns-then-depth-self-2-clause-answer g c =
    let s = c.args.self.now in
    let deep : c.in-Some.record.now.depth < c.args.self.now.level = search rules in
    let found = c.in-Some.ensures.lookup in
    let h = closes s.records.now s.place s.level c.in-Some.record.now (ltb-true _ _ (sym found.0)) found.1 deep in
    let t = shut s.level c.close-then-depth-self-2.result c.close-then-depth-self-2.new.self.level (omega arith) c.close-then-depth-self-2.ensures.shuts in
    rw (t.0, h.first) refl

pub returns-then-depth-self-2-clause-others : goal.returns-then-depth-self-2-clause-others
returns-then-depth-self-2-clause-others g c =
    let s = c.args.self.now in
    let deep : c.in-Some.record.now.depth < c.args.self.now.level = search rules in
    let found = c.in-Some.ensures.lookup in
    let h = closes s.records.now s.place s.level c.in-Some.record.now (ltb-true _ _ (sym found.0)) found.1 deep in
    let t = shut s.level c.close-then-depth-self-2.result c.close-then-depth-self-2.new.self.level (omega arith) c.close-then-depth-self-2.ensures.shuts in
    let stays = c.close-then-depth-self-2.ensures.stays in
    rw (t.1, stays.records, stays.place) h.others
