use Rattle.std.proofs.Common.{refl, subst}
use Rattle.std.specs.Prelude.{Option}
use Rattle.serde_json.specs.Data.{Members}
use Rattle.message_report.specs.FoundInMessages.{message_fault_at}
use Rattle.message_report.specs.MessagePlaces.{at_sources, file_locale_place_view}
use Rattle.message_report.specs.MessagesReport.{IsFoundInSourceObject}
use Rattle.message_report.specs.declared.cause.Cause.TheVariants.{NoObject}
use Rattle.message_report.proofs.EachFound.{on_ok}
use Rattle.message_report.proofs.source_part.add_object.Goals as goal

pub returns-in-None : goal.returns-in-None
returns-in-None c =
    let locale = file_locale_place_view c.args.locale in
    let found = message_fault_at (at_sources locale) NoObject in
    on_ok c.add_fault.result
    (λ added. (
      found,
      subst (λ (members : Option Members). IsFoundInSourceObject locale members found) c.in-None.ensures refl,
      added,
    ))
    c.add_fault.ensures
