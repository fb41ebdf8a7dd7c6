use Rattle.std.proofs.Common.{refl, subst}
use Rattle.std.specs.Prelude.{Option}
use Rattle.serde_json.specs.Data.{Members}
use Rattle.serde_json.specs.View.{view}
use Rattle.message_report.specs.FoundInMessages.{message_fault_at}
use Rattle.message_report.specs.MessagePlaces.{FileLocalePlace, at_locale}
use Rattle.message_report.specs.MessagesReport.{IsFoundInParts}
use Rattle.message_report.specs.declared.cause.Cause.TheVariants.{NoObject}
use Rattle.message_report.proofs.EachFound.{on_ok}
use Rattle.message_report.proofs.document.LocaleCheckMemberCheckFound.add.Goals as goal

pub returns-in-None : goal.returns-in-None
returns-in-None g c =
    let source = g.S.RulesOfLocales.source c.args.self.now.source.now in
    let place : FileLocalePlace = record { file = c.args.self.now.file.now; locale = c.args.locale.now } in
    let found = message_fault_at (at_locale place) NoObject in
    on_ok c.add_fault.result
    (λ added. (
      found,
      subst (λ (members : Option Members). IsFoundInParts source place (view c.args.value.now) members found) c.in-None.ensures refl,
      added,
    ))
    c.add_fault.ensures
