use Rattle.std.proofs.Common.{ℕ, List, refl, subst}
use Rattle.std.specs.Prelude.{Option}
use Rattle.message_report.specs.FoundInMessages.{message_fault_at}
use Rattle.message_report.specs.Inner.ArgumentViews.{languages_view}
use Rattle.message_report.specs.MessagePlaces.{at_pattern, pattern_place_view}
use Rattle.message_report.specs.MessagesReport.{IsFoundInTextIf}
use Rattle.message_report.specs.declared.cause.Cause.TheVariants.{NoText}
use Rattle.message_report.proofs.EachFound.{on_ok}
use Rattle.message_report.proofs.pattern.add_value.Goals as goal

pub returns-in-None : goal.returns-in-None
returns-in-None c =
    let two = languages_view c.args.languages.now in
    let place = pattern_place_view c.args.place in
    let found = message_fault_at (at_pattern place) NoText in
    on_ok c.add_fault.result
    (λ added. (
      found,
      subst (λ (text : Option (List ℕ)). IsFoundInTextIf two place text found) c.in-None.ensures refl,
      added,
    ))
    c.add_fault.ensures
