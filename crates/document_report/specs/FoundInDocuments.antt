-- What is found in a document: findings, and how many faults there are, rule texts that were
-- checked, and numbers of these. A fault has a finding, unless too many of its place come before it.
--     nothing_found      no finding, and no count
--     document_fault_at place cause      a fault and its finding
--     together a b      both, in this order
--     HasGrownInDocument Is old new      something of this kind was added
--     IsFoundInDocumentMembers Is members found      what is found in each member
use Rattle.std.specs.Prelude.{ℕ, ◌+◌, ◌-◌, nat_lt, List, [], ◌∷◌, ◌++◌, if◌then◌else◌}
use Rattle.serde_json.specs.Data.{Data, Members}
use Rattle.plural_documents.specs.PrintedKeys.{most_told}
use Rattle.plural_documents.specs.Steps as members
use Rattle.document_report.specs.DocumentFindings.{Finding}
use Rattle.document_report.specs.DocumentPlaces.{FindingPlace}
use Rattle.document_report.specs.declared.cause.Cause.{Cause}
use Rattle.document_report.specs.declared.cause.Cause.TheVariants.{More}

pub record Found : Type 0 where
  pub findings : List Finding
  pub faults : ℕ
  pub checked : ℕ
  pub cases : ℕ

abbrev pub nothing_found : Found
nothing_found = record { findings = []; faults = 0; checked = 0; cases = 0 }

-- only findings
abbrev pub findings_alone : List Finding → Found
findings_alone findings = record { findings = findings; faults = 0; checked = 0; cases = 0 }

-- only a count of faults
abbrev pub faults_alone : ℕ → Found
faults_alone faults = record { findings = []; faults = faults; checked = 0; cases = 0 }

-- only a count of rule texts that were checked
abbrev pub checked_alone : ℕ → Found
checked_alone checked = record { findings = []; faults = 0; checked = checked; cases = 0 }

-- only a count of numbers
abbrev pub cases_alone : ℕ → Found
cases_alone cases = record { findings = []; faults = 0; checked = 0; cases = cases }

abbrev pub finding_at : FindingPlace → Cause → Finding
finding_at place cause = record { place = place; cause = cause }

-- a fault and its finding
abbrev pub one_fault : Finding → Found
one_fault finding = record { findings = finding ∷ []; faults = 1; checked = 0; cases = 0 }

abbrev pub document_fault_at : FindingPlace → Cause → Found
document_fault_at place cause = one_fault (finding_at place cause)

-- The first ten faults of a place have a finding, and one more counts the others, if there are any.
abbrev pub rest_of : FindingPlace → ℕ → List Finding
rest_of place count = if nat_lt most_told count then finding_at place (More (count - most_told)) ∷ [] else []

-- both, in this order
abbrev pub together : Found → Found → Found
together a b = record {
  findings = a.findings ++ b.findings;
  faults = a.faults + b.faults;
  checked = a.checked + b.checked;
  cases = a.cases + b.cases;
}

-- what was found has grown by something of this kind
abbrev pub HasGrownInDocument : (Found → Type 0) → Found → Found → Type 0
HasGrownInDocument = members.HasGrownBy together

-- what is found in each member, together, in the order of the keys' bytes
abbrev pub IsFoundInDocumentMembers : (List ℕ → Data → Found → Type 0) → Members → Found → Type 0
IsFoundInDocumentMembers = members.IsFoundInMembers nothing_found together
