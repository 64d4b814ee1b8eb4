-- The nodes that are read event by event.
use Rattle.std.specs.Prelude.{◌++◌, List, length, reverse}
use Rattle.labels.specs.declared.name.Name.{Name}
use Rattle.rules.specs.Embedding.{Nodes}
use Rattle.sources.specs.declared.event.Event.{Event}
use Rattle.sources.specs.Nodes.{nodes_from}
use Rattle.compare.specs.declared.node.Growing.{Growing}
use Rattle.compare.specs.Paths.{entries}

-- the nodes so far and those of more events
abbrev pub and_then : Growing → List (Event Name) → Nodes Name
and_then growing es = entries growing.nodes.items ++ nodes_from (length growing.nodes.items) (reverse growing.path.items) es
