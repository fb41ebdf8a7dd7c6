use Rattle.std.proofs.Common.{◌≡◌, refl}
use Rattle.message_report.specs.FoundInMessages.{message_findings_alone, further_message_faults, messages_together}
use Rattle.message_report.specs.MessagePlaces.{at_pattern, pattern_place_view}
use Rattle.message_report.specs.MessagesReport.{found_of_findings}
use Rattle.message_report.proofs.EachFound.{on_ok}
use Rattle.message_report.proofs.TellLemmas.{all_findings}
use Rattle.message_report.proofs.pattern.add_arguments.Goals as goal

pub returns : goal.returns
returns c =
    let told = c.in_ok-count.ensures in
    let place = pattern_place_view c.args.place in
    on_ok c.add_rest.result
    (λ (rest : c.add_rest.new.self ≡ messages_together c.tell_pattern.new.found (message_findings_alone (further_message_faults (at_pattern place) c.in_ok-count.count))). (
      found_of_findings place told.0,
      (told.0, told.1, refl),
      all_findings place told.0 c.in_ok-count.count c.args.found.now c.tell_pattern.new.found c.add_rest.new.self told.2 rest,
    ))
    c.add_rest.ensures
