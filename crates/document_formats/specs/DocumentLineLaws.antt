-- What lines of JSON tell of the report of a document.
--     LinesTellReports      of each finding its place, its code and what is printed of its cause, in
--         their order, and the counts
use Rattle.std.specs.Prelude.{◌≡◌, ℕ, ◌<◌, ◌^◌, List, map}
use Rattle.document_report.specs.DocumentFindings.{document_cause_text, Finding}
use Rattle.document_report.specs.DocumentPlaces.{FindingPlace}
use Rattle.document_report.specs.ReportText.{counts_in, findings_in}
use Rattle.document_report.specs.declared.counts.Counts.{Counts}
use Rattle.document_report.specs.declared.report.Report.{Report}
use Rattle.document_formats.specs.DocumentCodes.{document_code_name, document_code_of}
use Rattle.document_formats.specs.DocumentLines.{report_lines}

-- what a line tells of a finding
pub record Shown : Type 0 where
  pub place : FindingPlace
  pub code : List ℕ
  pub text : List ℕ

abbrev pub shown_finding : Finding → Shown
shown_finding f = record { place = f.place; code = document_code_name (document_code_of f.cause); text = document_cause_text f.cause }

-- counts, as the code's types hold them
pub record CountsFit (counts : Counts) : Type 0 where
  pub locales : counts.locales < 2 ^ 64
  pub rules : counts.rules < 2 ^ 64
  pub numbers : counts.numbers < 2 ^ 64
  pub faults : counts.faults < 2 ^ 64

-- two reports tell the same
pub record TellTheSame (a b : Report) : Type 0 where
  pub findings : map shown_finding (findings_in a) ≡ map shown_finding (findings_in b)
  pub counts : counts_in a ≡ counts_in b

-- the same lines are printed only for reports that tell the same
abbrev pub LinesTellReports : Type 0
LinesTellReports =
    (a b : Report) → CountsFit (counts_in a) → CountsFit (counts_in b) → report_lines a ≡ report_lines b → TellTheSame a b
