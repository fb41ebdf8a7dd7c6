use Rattle.message_report.proofs.TextLists.{turned}
use Rattle.message_report.proofs.source_arguments.entry_has_number.Goals as goal

pub returns-in-Some : goal.returns-in-Some
returns-in-Some c = rw c.in-Some.is (turned c.is_without_number.result c.is_without_number.ensures)
