use Rattle.std.proofs.Common.{drop}
use Rattle.std.proofs.lemmas.List.{drop_all}
use Rattle.message_report.specs.Inner.FormSteps.{language_lent}
use Rattle.message_report.specs.Inner.FormValues.{IsFoundByValues}
use Rattle.message_report.specs.MessageForms.{form_order}
use Rattle.message_report.specs.MessagePlaces.{message_place_view}
use Rattle.message_report.specs.declared.form.Form.TheVariants.{ExplicitZero}
use Rattle.message_report.proofs.EachFound.{each_begins, each_ends, each_goes_on}
use Rattle.message_report.proofs.message.add_each_form.Goals as goal

pub loop-form-init : goal.loop-form-init
loop-form-init c =
    each_begins (IsFoundByValues (language_lent c.args.needs.language) c.args.needs.number (message_place_view c.args.place)
    c.args.values.now) form_order
    c.args.found.now

pub loop-form-preserved : goal.loop-form-preserved
loop-form-preserved c =
    each_goes_on (IsFoundByValues (language_lent c.args.needs.language) c.args.needs.number (message_place_view c.args.place)
    c.args.values.now) form_order
    c.args.found.now c.loop-form.form-index ExplicitZero c.loop-form.found c.add_form.new.found c.loop-form-test.true c.loop-form.invariant
    c.in_ok-add_form.ensures

pub returns : goal.returns
returns c =
    each_ends (IsFoundByValues (language_lent c.args.needs.language) c.args.needs.number (message_place_view c.args.place)
    c.args.values.now) form_order
    (drop c.loop-form.form-index form_order) c.args.found.now c.loop-form.found
    (drop_all c.loop-form.form-index form_order c.loop-form-test.false) c.loop-form.invariant
