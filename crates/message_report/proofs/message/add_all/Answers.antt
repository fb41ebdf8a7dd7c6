use Rattle.std.proofs.Common.{refl, ap, sym, ◌∙◌}
use Rattle.serde_json.specs.Data.{object}
use Rattle.serde_json.specs.View.{members_view}
use Rattle.message_report.specs.FoundInMessages.{MessageFound, messages_together}
use Rattle.message_report.specs.Inner.FormSteps.{language_lent}
use Rattle.message_report.specs.Inner.FormValues.{IsFoundByValues}
use Rattle.message_report.specs.MessageForms.{form_order}
use Rattle.message_report.specs.MessagePlaces.{message_place_view}
use Rattle.message_report.specs.MessagesReport.{found_of_keys, other_keys, IsFoundInForm}
use Rattle.message_report.proofs.EachFound.{each_in, on_ok}
use Rattle.message_report.proofs.FormValueLemmas.{found_by_values}
use Rattle.message_report.proofs.MessagesFound.{none_added, two_added}
use Rattle.message_report.proofs.message.add_all.Goals as goal

pub returns-then-values : goal.returns-then-values
returns-then-values c =
    let language = language_lent c.args.needs.language in
    let place = message_place_view c.args.place in
    let members = members_view c.args.members.now.entries in
    let forms = c.in_ok-add_each_form.ensures in
    let keys = found_of_keys place (other_keys members) in
    on_ok c.add_keys.result
    (λ added. (
      messages_together forms.0 keys,
      (
        forms.0,
        each_in (IsFoundInForm language c.args.needs.number place (object members))
            (IsFoundByValues language c.args.needs.number place c.of-values.result)
            (found_by_values language c.args.needs.number place c.of-values.result (object members) c.of-values.ensures.values)
            form_order forms.0 forms.1,
        refl,
      ),
      two_added c.args.found.now forms.0 keys c.add_each_form.new.found c.add_keys.new.found forms.2 added,
    ))
    c.add_keys.ensures

pub returns : goal.returns
returns c =
    let language = language_lent c.args.needs.language in
    let place = message_place_view c.args.place in
    let members = members_view c.args.members.now.entries in
    let forms = c.in_ok-add_each_form.ensures in
    let keys = found_of_keys place (other_keys members) in
    let none = ap (found_of_keys place) (c.of-values.ensures.keys c.if-values.false) in (
      messages_together forms.0 keys,
      (
        forms.0,
        each_in (IsFoundInForm language c.args.needs.number place (object members))
            (IsFoundByValues language c.args.needs.number place c.of-values.result)
            (found_by_values language c.args.needs.number place c.of-values.result (object members) c.of-values.ensures.values)
            form_order forms.0 forms.1,
        refl,
      ),
      two_added c.args.found.now forms.0 keys c.add_each_form.new.found c.add_each_form.new.found forms.2
          (none_added c.add_each_form.new.found
          ∙ ap (λ (found : MessageFound). messages_together c.add_each_form.new.found found) (sym none)),
    )
