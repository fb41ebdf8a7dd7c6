use Rattle.std.proofs.Common.{refl, subst, sym}
use Rattle.std.specs.Prelude.{Option}
use Rattle.serde_json.specs.Data.{Data, Members}
use Rattle.serde_json.specs.Find.{as_object}
use Rattle.serde_json.specs.View.{members_view, view}
use Rattle.message_report.specs.FoundInMessages.{message_fault_at, HasGrownInMessages}
use Rattle.message_report.specs.Inner.FormSteps.{language_lent}
use Rattle.message_report.specs.MessagePlaces.{at_message, message_place_view}
use Rattle.message_report.specs.MessagesReport.{IsFoundInForms}
use Rattle.message_report.specs.declared.cause.Cause.TheVariants.{NoObject}
use Rattle.message_report.proofs.EachFound.{on_ok}
use Rattle.message_report.proofs.FormValueLemmas.{object_with}
use Rattle.message_report.proofs.message.add_forms.Goals as goal

pub returns-in-Some : goal.returns-in-Some
returns-in-Some c =
    let is = object_with (view c.args.message.now) (members_view c.in-Some.members.now.entries) (sym c.in-Some.ensures) in
    on_ok c.add_all.result
    (λ added.
    subst
    (λ (message : Data). HasGrownInMessages
    (IsFoundInForms (language_lent c.args.needs.language) c.args.needs.number (message_place_view c.args.place) message (as_object message))
    c.args.found.now c.add_all.new.found)
    (sym is) added)
    c.add_all.ensures

pub returns-in-None : goal.returns-in-None
returns-in-None c =
    let language = language_lent c.args.needs.language in
    let place = message_place_view c.args.place in
    let found = message_fault_at (at_message place) NoObject in
    on_ok c.add_fault.result
    (λ added. (
      found,
      subst (λ (members : Option Members). IsFoundInForms language c.args.needs.number place (view c.args.message.now) members found)
          c.in-None.ensures refl,
      added,
    ))
    c.add_fault.ensures
