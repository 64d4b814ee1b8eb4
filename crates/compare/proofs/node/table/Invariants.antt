use Rattle.std.proofs.Common.{◌≡◌, length}
use Rattle.sources.specs.Nodes.{nodes}
use Rattle.compare.specs.Growing.{and_then}
use Rattle.compare.proofs.node.table.Given as goal

abbrev pub invariant-loop-event : goal.invariant-loop-event
invariant-loop-event g l = record {
  told : and_then l.growing (g.S.Source.events l.source) ≡ nodes (g.S.Source.events l.fn.source);
  ending : g.S.Source.ending l.source ≡ g.S.Source.ending l.fn.source;
}

abbrev pub decreases-loop-event : goal.decreases-loop-event
decreases-loop-event g l = length (g.S.Source.events l.source)
