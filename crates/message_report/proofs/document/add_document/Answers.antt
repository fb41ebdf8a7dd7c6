use Rattle.std.proofs.Common.{refl, subst}
use Rattle.std.specs.Prelude.{Option}
use Rattle.serde_json.specs.Data.{Members}
use Rattle.message_report.specs.FoundInMessages.{message_fault_at}
use Rattle.message_report.specs.MessagePlaces.{at_document}
use Rattle.message_report.specs.MessagesReport.{IsFoundInLocales}
use Rattle.message_report.specs.declared.cause.Cause.TheVariants.{NoObject}
use Rattle.message_report.proofs.EachFound.{on_ok}
use Rattle.message_report.proofs.document.add_document.Goals as goal

pub returns-in-None : goal.returns-in-None
returns-in-None g c =
    let source = g.S.RulesOfLocales.source c.args.source.now in
    let found = message_fault_at (at_document c.args.file.now) NoObject in
    on_ok c.add_fault.result
    (λ added. (
      found,
      subst (λ (members : Option Members). IsFoundInLocales source c.args.file.now members found) c.in-None.ensures refl,
      added,
    ))
    c.add_fault.ensures
