use Rattle.std.proofs.Common.{refl}
use Rattle.message_report.specs.FoundInMessages.{one_message, messages_together}
use Rattle.message_report.proofs.EachFound.{on_ok}
use Rattle.message_report.proofs.MessagesFound.{two_added}
use Rattle.message_report.proofs.pattern.PatternCheckMemberCheckFound.add.Goals as goal

pub returns : goal.returns
returns c =
    on_ok c.add_value.result
    (λ added. (
      messages_together one_message added.0,
      (added.0, added.1, refl),
      two_added c.args.found.now one_message added.0 c.count_message.new.self c.add_value.new.found c.in_ok-count_message.ensures added.2,
    ))
    c.add_value.ensures
