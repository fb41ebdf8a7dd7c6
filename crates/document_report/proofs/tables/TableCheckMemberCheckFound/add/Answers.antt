use Rattle.std.proofs.Common.{subst}
use Rattle.std.specs.Prelude.{OnOk, Option}
use Rattle.serde_json.specs.Data.{Data}
use Rattle.serde_json.specs.View.{view}
use Rattle.plural_fallback.specs.declared.locales.Part.TheVariants.{Ranges}
use Rattle.document_report.specs.DocumentPlaces.{LocalePlace}
use Rattle.document_report.specs.DocumentReport.{IsFoundInTable}
use Rattle.document_report.specs.FoundInDocuments.{HasGrownInDocument}
use Rattle.document_report.proofs.tables.TableCheckMemberCheckFound.add.Goals as goal

pub returns : goal.returns
returns c =
    let place : LocalePlace = record { part = Ranges; locale = c.args.locale.now } in
    subst (λ (rules : Option Data). OnOk c.add_table.result
    (HasGrownInDocument (IsFoundInTable place rules (view c.args.value.now)) c.args.found.now c.add_table.new.found))
    c.value_at-rules.ensures c.add_table.ensures
