use Rattle.std.proofs.Common.{[], Option, subst}
use Rattle.std.specs.Prelude.{OnOk}
use Rattle.document_report.specs.CheckedDocument.{members_or_none}
use Rattle.plural_documents.specs.Steps.{IsFoundInMembers}
use Rattle.serde_json.specs.Data.{Members}
use Rattle.document_notes.proofs.Gathered.{gathers_nothing}
use Rattle.document_notes.specs.DocumentNotes.{Gathers, IsNotedInRules, notes_together}
use Rattle.document_notes.proofs.document_note.add_part.Goals as goal

pub returns-in-Some : goal.returns-in-Some
returns-in-Some c =
    let Noted = λ (m : Option Members). IsFoundInMembers [] notes_together (IsNotedInRules c.args.part) (members_or_none m) in
    subst (λ (m : Option Members). OnOk c.add_languages.result (Gathers (Noted m) c.args.notes.now c.add_languages.new.found))
    c.in-Some.ensures c.add_languages.ensures

pub returns-in-None : goal.returns-in-None
returns-in-None c =
    let Noted = λ (m : Option Members). IsFoundInMembers [] notes_together (IsNotedInRules c.args.part) (members_or_none m) in
    subst (λ (m : Option Members). Gathers (Noted m) c.args.notes.now c.args.notes.now) c.in-None.ensures (gathers_nothing c.args.notes.now)
