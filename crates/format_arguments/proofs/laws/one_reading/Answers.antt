use Rattle.format_arguments.proofs.OneReading.{one_reading}
use Rattle.format_arguments.proofs.laws.one_reading.Goals as goal

pub returns : goal.returns
returns c = one_reading
