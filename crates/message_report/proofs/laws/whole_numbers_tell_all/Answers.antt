use Rattle.message_report.proofs.Periods.{tell_all}
use Rattle.message_report.proofs.laws.whole_numbers_tell_all.Goals as goal

pub returns : goal.returns
returns c = tell_all
