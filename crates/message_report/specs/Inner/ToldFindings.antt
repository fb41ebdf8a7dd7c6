-- Not a definition of the subject: what is told of the faults of a pattern, by how many come before
-- them.
use Rattle.std.specs.Prelude.{◌≡◌, ℕ, ◌+◌, nat_lt, List, [], ◌∷◌, ◌++◌, length, if◌then◌else◌}
use Rattle.message_pattern.specs.PatternParts.{Selector}
use Rattle.message_report.specs.FindingCauses.{severity_of}
use Rattle.message_report.specs.FoundInMessages.{MessageFound, counted_alone, faults_of_severity, message_finding_at, nothing_found_in_messages, one_finding, messages_together}
use Rattle.message_report.specs.MessageFindings.{MessageFinding}
use Rattle.message_report.specs.MessagePlaces.{FilePlace}
use Rattle.message_report.specs.MessagesReport.{most_compared}
use Rattle.plural_documents.specs.PrintedKeys.{most_told}
use Rattle.message_report.specs.declared.cause.Cause.{Cause}
use Rattle.std.proofs.Common.{refl, append_assoc}
use Rattle.std.proofs.Math.Nat.{add_assoc, add-zero}
use Rattle.std.proofs.lemmas.List.{append-nil}

-- a note and its finding
abbrev pub note_at : FilePlace → Cause → MessageFound
note_at place cause = record { findings = message_finding_at place cause ∷ []; faults = 0; notes = 1; messages = 0; forms = 0 }

-- what is told of a finding, if so many are counted before it, and how many are then
abbrev pub told_next : ℕ → MessageFinding → MessageFound
told_next before f = if nat_lt before most_told then one_finding f else counted_alone (severity_of f.cause)

abbrev pub count_next : ℕ → MessageFinding → ℕ
count_next before f = if nat_lt before most_told then before + 1 else before + faults_of_severity (severity_of f.cause)

-- the same of several
abbrev pub told_findings : ℕ → List MessageFinding → MessageFound
told_findings before [] = nothing_found_in_messages
told_findings before (f ∷ fs) = messages_together (told_next before f) (told_findings (count_next before f) fs)

abbrev pub count_findings : ℕ → List MessageFinding → ℕ
count_findings before [] = before
count_findings before (f ∷ fs) = count_findings (count_next before f) fs

-- these were told, or counted
pub record TellsFindings (before : ℕ) (old : MessageFound) (count : ℕ) (new : MessageFound) (findings : List MessageFinding) : Type 0 where
  pub found : new ≡ messages_together old (told_findings before findings)
  pub counted : count ≡ count_findings before findings

-- findings that are those were told, or counted
abbrev pub TellsThose : (List MessageFinding → Type 0) → ℕ → MessageFound → ℕ → MessageFound → Type 0
TellsThose Are before old count new = (findings : List MessageFinding) × Are findings × TellsFindings before old count new findings

-- one selector more, unless there are many
abbrev pub remembered : List Selector → Selector → List Selector
remembered seen selector = if nat_lt (length seen) most_compared then seen ++ selector ∷ [] else seen

-- ---- what is found, put together

-- adding nothing at the end changes nothing
pub messages_together-nothing : (a : MessageFound) → messages_together a nothing_found_in_messages ≡ a
messages_together-nothing a = rw (append-nil a.findings, add-zero a.faults, add-zero a.notes, add-zero a.messages, add-zero a.forms) refl

pub messages_together_assoc : (a b c : MessageFound) → messages_together (messages_together a b) c ≡ messages_together a (messages_together b c)
messages_together_assoc a b c =
    rw (
      append_assoc a.findings b.findings c.findings,
      add_assoc a.faults b.faults c.faults,
      add_assoc a.notes b.notes c.notes,
      add_assoc a.messages b.messages c.messages,
      add_assoc a.forms b.forms c.forms,
    ) refl
