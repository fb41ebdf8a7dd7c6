use Rattle.std.proofs.Common.{ap, refl, subst, ◌∙◌}
use Rattle.std.specs.Prelude.{Option}
use Rattle.std.specs.Option.{option_and_then}
use Rattle.serde_json.specs.Data.{Data}
use Rattle.message_report.specs.FoundInMessages.{MessageFound, messages_together}
use Rattle.message_report.specs.FormFaults.{told_of}
use Rattle.message_report.specs.Inner.FormSteps.{language_lent, value_count, HasFaultOf}
use Rattle.message_report.specs.Inner.FormValues.{value_of_form}
use Rattle.message_report.specs.MessagePlaces.{message_place_view}
use Rattle.message_report.specs.MessagesReport.{found_of_fault}
use Rattle.message_report.specs.declared.fault.FormFault.{FormFault}
use Rattle.message_report.specs.declared.form.OwnForms.{OwnForms}
use Rattle.message_report.proofs.EachFound.{on_ok}
use Rattle.message_report.proofs.MessagesFound.{two_added}
use Rattle.message_report.proofs.message.add_form.Goals as goal

pub returns : goal.returns
returns c =
    let language = language_lent c.args.needs.language in
    let value = value_of_form c.args.form c.args.values.now in
    let of_fault : Option FormFault → MessageFound = found_of_fault (message_place_view c.args.place) c.args.form in
    let told = of_fault (option_and_then (told_of c.args.needs.number) c.form_fault-fault.result) in
    on_ok c.add_fault.result
    (λ added. (
      messages_together (value_count value) told,
      (
        c.form_fault-fault.result,
        subst (λ (own : OwnForms). HasFaultOf language own.zero own.one c.args.form value c.form_fault-fault.result) c.own_forms.ensures
            (subst
            (λ (v : Option Data). HasFaultOf language c.own_forms.result.zero c.own_forms.result.one c.args.form v
            c.form_fault-fault.result)
            c.value-value.ensures c.form_fault-fault.ensures),
        refl,
      ),
      two_added c.args.found.now (value_count value) told c.count_value.new.found c.add_fault.new.found
          (c.in_ok-count_value.ensures ∙ ap (λ (v : Option Data). messages_together c.args.found.now (value_count v)) c.value-value.ensures)
          (added ∙ ap (λ (fault : Option FormFault). messages_together c.count_value.new.found (of_fault fault)) c.told_fault.ensures),
    ))
    c.add_fault.ensures
