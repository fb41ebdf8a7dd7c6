use Rattle.std.proofs.Common.{refl}
use Rattle.message_report.specs.FoundInMessages.{nothing_found_in_messages}
use Rattle.message_report.proofs.MessagesFound.{none_added}
use Rattle.message_report.proofs.source_part.add_source_part.Goals as goal

pub returns-in-None : goal.returns-in-None
returns-in-None c = (nothing_found_in_messages, rw c.in-None.is refl, none_added c.args.found.now)
