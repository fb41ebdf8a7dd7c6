use Rattle.std.proofs.Common.{IfOk, sym, subst, ◌∙◌}
use Rattle.translation_files.specs.ReadFiles.{IsReadAs}
use Rattle.translation_files.specs.declared.read_file.FileKind.{FileKind}
use Rattle.translation_files.proofs.read_file.read_messages.Goals as goal

pub returns-in-Json : goal.returns-in-Json
returns-in-Json g c =
    subst (λ (kind : FileKind). IfOk c.read_json.result (IsReadAs kind c.args.bytes.now)) (sym c.in-Json.is ∙ c.kind_of.ensures)
    c.read_json.ensures

pub returns-in-Po : goal.returns-in-Po
returns-in-Po g c =
    subst (λ (kind : FileKind). IfOk c.read_po.result (IsReadAs kind c.args.bytes.now)) (sym c.in-Po.is ∙ c.kind_of.ensures)
    c.read_po.ensures

pub returns-in-Xml : goal.returns-in-Xml
returns-in-Xml g c =
    subst (λ (kind : FileKind). IfOk c.no_messages.result (IsReadAs kind c.args.bytes.now)) (sym c.in-Xml.is ∙ c.kind_of.ensures)
    c.no_messages.ensures

pub returns-in-Wide : goal.returns-in-Wide
returns-in-Wide g c =
    subst (λ (kind : FileKind). IfOk c.no_messages-in-Wide.result (IsReadAs kind c.args.bytes.now)) (sym c.in-Wide.is ∙ c.kind_of.ensures)
    c.no_messages-in-Wide.ensures
