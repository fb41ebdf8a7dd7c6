use Rattle.form_commands.proofs.ConditionValues.{condition_values}
use Rattle.form_commands.proofs.laws.conditions_are_rules.Goals as goal

pub returns : goal.returns
returns c = condition_values
