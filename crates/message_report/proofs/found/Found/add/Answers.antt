use Rattle.std.proofs.Common.{◌≡◌, [], ◌∷◌, ap, sym, ◌∙◌}
use Rattle.message_report.specs.FoundInMessages.{MessageFound, faults_of_severity, message_finding_at, notes_of, messages_together}
use Rattle.message_report.specs.FindingCauses.{severity_of}
use Rattle.message_report.specs.MessagePlaces.{FilePlace, place_view}
use Rattle.message_report.specs.declared.cause.Cause.{Cause}
use Rattle.message_report.specs.declared.severity.Severity.{Severity}
use Rattle.message_report.specs.declared.severity.Severity.TheVariants.{Error, Note}
use Rattle.message_report.proofs.EachFound.{on_ok}
use Rattle.message_report.proofs.found.Found.add.Goals as goal

abbrev at_severity : FilePlace → Cause → Severity → MessageFound
at_severity place cause severity = record {
  findings = message_finding_at place cause ∷ [];
  faults = faults_of_severity severity;
  notes = notes_of severity;
  messages = 0;
  forms = 0;
}

pub returns-in-Error : goal.returns-in-Error
returns-in-Error c =
    let place = place_view c.args.place in
    let is : Error ≡ severity_of c.args.cause = sym c.in-Error.is ∙ c.severity.ensures in
    on_ok c.add_fault.result
    (λ added. added ∙ ap (λ (s : Severity). messages_together c.args.self.now (at_severity place c.args.cause s)) is) c.add_fault.ensures

pub returns-in-Note : goal.returns-in-Note
returns-in-Note c =
    let place = place_view c.args.place in
    let is : Note ≡ severity_of c.args.cause = sym c.in-Note.is ∙ c.severity.ensures in
    on_ok c.add_note.result
    (λ added. added ∙ ap (λ (s : Severity). messages_together c.args.self.now (at_severity place c.args.cause s)) is) c.add_note.ensures
