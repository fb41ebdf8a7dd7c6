-- What is found in messages: findings, and how many faults and notes there are, messages that were
-- checked, and forms of these. A fault or a note has a finding, unless too many of its place come
-- before it.
--     nothing_found_in_messages      no finding, and no count
--     message_fault_at place cause      a fault and its finding
--     counted_finding_at place cause      a fault or a note, and its finding
--     messages_together a b      both, in this order
--     HasGrownInMessages Is old new      something of this kind was added
--     IsFoundInMessageMembers Is members found      what is found in each member
--     IsFoundInEach Is things found      what is found in each thing of a list
use Rattle.std.specs.Prelude.{◌≡◌, ℕ, ◌+◌, ◌-◌, nat_lt, List, [], ◌∷◌, ◌++◌, if◌then◌else◌}
use Rattle.serde_json.specs.Data.{Data, Members}
use Rattle.plural_documents.specs.PrintedKeys.{most_told}
use Rattle.plural_documents.specs.Steps as members
use Rattle.message_report.specs.FindingCauses.{severity_of}
use Rattle.message_report.specs.MessageFindings.{MessageFinding}
use Rattle.message_report.specs.MessagePlaces.{FilePlace}
use Rattle.message_report.specs.declared.cause.Cause.{Cause}
use Rattle.message_report.specs.declared.cause.Cause.TheVariants.{More}
use Rattle.message_report.specs.declared.severity.Severity.{Severity}
use Rattle.message_report.specs.declared.severity.Severity.TheVariants.{Error, Note}

pub record MessageFound : Type 0 where
  pub findings : List MessageFinding
  pub faults : ℕ
  pub notes : ℕ
  pub messages : ℕ
  pub forms : ℕ

abbrev pub nothing_found_in_messages : MessageFound
nothing_found_in_messages = record { findings = []; faults = 0; notes = 0; messages = 0; forms = 0 }

-- only findings
abbrev pub message_findings_alone : List MessageFinding → MessageFound
message_findings_alone findings = record { findings = findings; faults = 0; notes = 0; messages = 0; forms = 0 }

-- only a count of faults
abbrev pub message_faults_alone : ℕ → MessageFound
message_faults_alone faults = record { findings = []; faults = faults; notes = 0; messages = 0; forms = 0 }

-- only a message that was checked
abbrev pub one_message : MessageFound
one_message = record { findings = []; faults = 0; notes = 0; messages = 1; forms = 0 }

-- only a form
abbrev pub one_form : MessageFound
one_form = record { findings = []; faults = 0; notes = 0; messages = 0; forms = 1 }

abbrev pub message_finding_at : FilePlace → Cause → MessageFinding
message_finding_at place cause = record { place = place; cause = cause }

-- a fault and its finding
abbrev pub one_message_fault : MessageFinding → MessageFound
one_message_fault finding = record { findings = finding ∷ []; faults = 1; notes = 0; messages = 0; forms = 0 }

abbrev pub message_fault_at : FilePlace → Cause → MessageFound
message_fault_at place cause = one_message_fault (message_finding_at place cause)

-- ---- By severity

-- one or none is a fault, and one or none is a note
abbrev pub faults_of_severity : Severity → ℕ
faults_of_severity Error = 1
faults_of_severity Note = 0

abbrev pub notes_of : Severity → ℕ
notes_of Error = 0
notes_of Note = 1

-- only a count, of a fault or of a note
abbrev pub counted_alone : Severity → MessageFound
counted_alone severity = record { findings = []; faults = faults_of_severity severity; notes = notes_of severity; messages = 0; forms = 0 }

-- the count and the finding
abbrev pub one_finding : MessageFinding → MessageFound
one_finding finding = record {
  findings = finding ∷ [];
  faults = faults_of_severity (severity_of finding.cause);
  notes = notes_of (severity_of finding.cause);
  messages = 0;
  forms = 0;
}

abbrev pub counted_finding_at : FilePlace → Cause → MessageFound
counted_finding_at place cause = one_finding (message_finding_at place cause)

-- how many of a list are faults, and notes
abbrev pub count_faults : List MessageFinding → ℕ
count_faults [] = 0
count_faults (f ∷ fs) = faults_of_severity (severity_of f.cause) + count_faults fs

abbrev pub count_notes : List MessageFinding → ℕ
count_notes [] = 0
count_notes (f ∷ fs) = notes_of (severity_of f.cause) + count_notes fs

-- ---- Together

-- The first ten of a place have a finding, and one more counts further faults, if there are any.
abbrev pub further_message_faults : FilePlace → ℕ → List MessageFinding
further_message_faults place count = if nat_lt most_told count then message_finding_at place (More (count - most_told)) ∷ [] else []

-- both, in this order
abbrev pub messages_together : MessageFound → MessageFound → MessageFound
messages_together a b = record {
  findings = a.findings ++ b.findings;
  faults = a.faults + b.faults;
  notes = a.notes + b.notes;
  messages = a.messages + b.messages;
  forms = a.forms + b.forms;
}

-- what was found has grown by something of this kind
abbrev pub HasGrownInMessages : (MessageFound → Type 0) → MessageFound → MessageFound → Type 0
HasGrownInMessages = members.HasGrownBy messages_together

-- what is found in each member, messages_together, in the order of the keys' bytes
abbrev pub IsFoundInMessageMembers : (List ℕ → Data → MessageFound → Type 0) → Members → MessageFound → Type 0
IsFoundInMessageMembers = members.IsFoundInMembers nothing_found_in_messages messages_together

-- what is found in each thing of a list, messages_together, in the order of the list
abbrev pub IsFoundInEach : {A : Type 0} → (A → MessageFound → Type 0) → List A → MessageFound → Type 0
IsFoundInEach Is [] found = found ≡ nothing_found_in_messages
IsFoundInEach Is (x ∷ xs) found = (first rest : MessageFound) × Is x first × IsFoundInEach Is xs rest × (found ≡ messages_together first rest)
