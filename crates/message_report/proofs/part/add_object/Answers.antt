use Rattle.std.proofs.Common.{refl, subst}
use Rattle.std.specs.Prelude.{Option}
use Rattle.serde_json.specs.Data.{Members}
use Rattle.message_report.specs.FoundInMessages.{message_fault_at}
use Rattle.message_report.specs.Inner.FormSteps.{language_lent, value_lent}
use Rattle.message_report.specs.Inner.NeededRules.{IsFoundInObjectBy}
use Rattle.message_report.specs.MessagePlaces.{at_messages, file_locale_place_view}
use Rattle.message_report.specs.declared.cause.Cause.TheVariants.{NoObject}
use Rattle.message_report.proofs.EachFound.{on_ok}
use Rattle.message_report.proofs.part.add_object.Goals as goal

pub returns-in-None : goal.returns-in-None
returns-in-None c =
    let locale = file_locale_place_view c.args.locale in
    let found = message_fault_at (at_messages locale c.args.rule_type) NoObject in
    on_ok c.add_fault.result
    (λ added. (
      found,
      subst (λ (members : Option Members).
          IsFoundInObjectBy (language_lent c.args.language) (value_lent c.args.arguments) c.args.rule_type locale members found)
          c.in-None.ensures refl,
      added,
    ))
    c.add_fault.ensures
