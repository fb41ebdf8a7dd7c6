use Rattle.std.proofs.Common.{drop}
use Rattle.message_report.specs.Inner.FormSteps.{language_lent}
use Rattle.message_report.specs.Inner.FormValues.{IsFoundByValues}
use Rattle.message_report.specs.MessageForms.{form_order}
use Rattle.message_report.specs.MessagePlaces.{message_place_view}
use Rattle.message_report.proofs.EachFound.{CompletesEach}
use Rattle.message_report.proofs.message.add_each_form.Given as goal

-- what is found in the remaining forms completes what was found so far
abbrev pub invariant-loop-form : goal.invariant-loop-form
invariant-loop-form l =
    CompletesEach (IsFoundByValues (language_lent l.needs.language) l.needs.number (message_place_view l.place) l.values)
    (drop l.form-index form_order)
    form_order l.found l.initial.found
