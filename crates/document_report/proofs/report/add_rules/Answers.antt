use Rattle.std.proofs.Common.{Option, refl, subst, sym}
use Rattle.std.specs.Prelude.{OnOk}
use Rattle.serde_json.specs.Data.{Members}
use Rattle.document_report.specs.CheckedDocument.{members_or_none}
use Rattle.document_report.specs.DocumentReport.{IsFoundInRules}
use Rattle.document_report.specs.FoundInDocuments.{HasGrownInDocument, IsFoundInDocumentMembers, nothing_found}
use Rattle.document_report.proofs.FoundTogether.{together-nothing}
use Rattle.document_report.proofs.report.add_rules.Goals as goal

pub returns-in-Some : goal.returns-in-Some
returns-in-Some c =
    let Is = λ (m : Option Members). IsFoundInDocumentMembers (IsFoundInRules c.args.part) (members_or_none m) in
    subst (λ (m : Option Members). OnOk c.add_languages.result (HasGrownInDocument (Is m) c.args.found.now c.add_languages.new.found))
    c.in-Some.ensures c.add_languages.ensures

pub returns-in-None : goal.returns-in-None
returns-in-None c =
    let Is = λ (m : Option Members). IsFoundInDocumentMembers (IsFoundInRules c.args.part) (members_or_none m) in
    subst (λ (m : Option Members). HasGrownInDocument (Is m) c.args.found.now c.args.found.now) c.in-None.ensures
    (nothing_found, refl, sym (together-nothing c.args.found.now))
