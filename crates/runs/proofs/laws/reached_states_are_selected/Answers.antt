use Rattle.rules.specs.RuleNodes.{rule_nodes}
use Rattle.runs.specs.Bits.{Has}
use Rattle.runs.proofs.SelectedLaws.{empty_sound, plays_sound}
use Rattle.runs.proofs.laws.reached_states_are_selected.Goals as goal

pub returns : goal.returns
returns c rule calls ts m p =
    let ns = rule_nodes rule in
    (plays_sound ns Has rule.ordered rule.some (empty_sound ns Has rule.ordered rule.some) p).selected
