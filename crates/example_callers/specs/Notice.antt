-- What a pattern says of a count, and whether a document of messages has a fault.
use Rattle.std.specs.Prelude.{ℕ, List, [], ◌∷◌, codes, ◌≡◌, ◌==◌, Bool}
use Rattle.message_pattern.specs.PatternParts.{Part}
use Rattle.message_pattern.specs.PatternAnswers.{IsPattern, IsPatternFault}
use Rattle.message_format.specs.declared.error.FormatError.TheVariants as format_error
use Rattle.message_format.specs.FormatArguments.{Argument, Number}
use Rattle.message_format.specs.FormatMeaning.{PatternOutcome, Said, Faulty, PatternSays}
use Rattle.message_format.specs.FormatSteps.{TwoRules}
use Rattle.example_callers.specs.declared.notices.NoticeError.{NoticeError}
use Rattle.example_callers.specs.declared.notices.NoticeError.TheVariants as notice_error
use Rattle.serde_json.specs.Data.{Data}
use Rattle.message_report.specs.FoundInMessages.{MessageFound}
use Rattle.message_report.specs.MessagesReport.{IsFoundInMessagesDocument}
use Rattle.message_report.specs.RulesSource.{RulesSource}

-- the count, under its name
abbrev pub counts : List ℕ → List Argument
counts count = record { name = codes "count"; value = Number count } ∷ []

-- the text is a pattern that comes to the outcome
abbrev pub ComesTo : TwoRules → List ℕ → List ℕ → PatternOutcome → Type 0
ComesTo rules text count outcome = (parts : List Part) × IsPattern text parts × PatternSays (counts count) rules parts outcome

abbrev pub IsNotice : TwoRules → List ℕ → List ℕ → List ℕ → Type 0
IsNotice rules text count said = ComesTo rules text count (Said said)

-- the first fault of the text, or of the arguments; nothing of both if memory ran out
abbrev pub IsNoticeFault : TwoRules → List ℕ → List ℕ → NoticeError → Type 0
IsNoticeFault rules text count (notice_error.Pattern error) = IsPatternFault text error
IsNoticeFault rules text count (notice_error.Format (format_error.Argument fault name)) = ComesTo rules text count (Faulty fault name.now)
IsNoticeFault rules text count (notice_error.Format format_error.Memory) = Unit {0}

-- ---- Whether a document of messages has a fault

-- under the rules of a source it has none, or some; its file has no name
abbrev pub IsComplete : RulesSource → Data → Bool → Type 0
IsComplete source document complete =
    (found : MessageFound) × IsFoundInMessagesDocument source [] document found × (complete ≡ (found.faults == 0))
