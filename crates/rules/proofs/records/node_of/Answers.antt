use Rattle.std.proofs.Common.{refl}
use Rattle.rules.proofs.RecordLaws.{edge_from, written, refused_place}
use Rattle.rules.proofs.records.node_of.Goals as goal

pub returns-then-hangs : goal.returns-then-hangs
returns-then-hangs c =
    written (edge_from _ _ _ c.try_from.ensures c.in_ok-edge.ensures.value) c.in_ok-any.ensures c.from-parent.ensures (c.if-hangs.ensures.0 refl)

pub returns-else-hangs : goal.returns-else-hangs
returns-else-hangs c = refused_place (edge_from _ _ _ c.try_from.ensures c.in_ok-edge.ensures.value) c.from-parent.ensures c.if-hangs.ensures.1
