use Rattle.std.proofs.Common.{refl}
use Rattle.message_report.specs.FoundInMessages.{messages_together}
use Rattle.message_report.specs.Inner.FormSteps.{language_lent}
use Rattle.message_report.specs.MessagePlaces.{file_locale_place_view}
use Rattle.message_report.specs.MessagesReport.{found_of_language}
use Rattle.message_report.proofs.EachFound.{on_ok}
use Rattle.message_report.proofs.MessagesFound.{two_added}
use Rattle.message_report.proofs.part.add_under.Goals as goal

pub returns : goal.returns
returns c =
    let rules = found_of_language c.args.rule_type (file_locale_place_view c.args.locale) (language_lent c.args.language) in
    on_ok c.add_members.result
    (λ added. (
      messages_together rules added.0,
      (added.0, added.1, refl),
      two_added c.args.found.now rules added.0 c.add_no_rules.new.found c.add_members.new.found c.in_ok-add_no_rules.ensures added.2,
    ))
    c.add_members.ensures
