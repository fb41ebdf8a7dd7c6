use Rattle.format_arguments.proofs.OneReading.{stand_in_order}
use Rattle.format_arguments.proofs.laws.arguments_stand_in_order.Goals as goal

pub returns : goal.returns
returns c = stand_in_order
