-- How grave a notice is, by its code.
--     severity_of_code code      an error, or a note
--     IsErrorCode code, IsNoteCode code      it is one of these
--     IsGraded notice      it is as grave as its code
use Rattle.std.specs.Prelude.{◌≡◌, ℕ, List, codes}
use Rattle.message_report.specs.declared.severity.Severity.{Severity}
use Rattle.message_report.specs.declared.severity.Severity.TheVariants.{Error, Note}
use Rattle.translation_files.specs.declared.code.NoticeCode.{NoticeCode}
use Rattle.translation_files.specs.declared.code.NoticeCode.TheVariants as notice
use Rattle.translation_files.specs.declared.notice.FileNotice.{FileNotice}

-- what isn't checked, or is taken otherwise than the file says, is a note
abbrev pub severity_of_code : NoticeCode → Severity
severity_of_code notice.NotRead = Error
severity_of_code notice.Charset = Error
severity_of_code notice.Syntax = Error
severity_of_code notice.Header = Error
severity_of_code notice.Language = Error
severity_of_code notice.TakenAs = Note
severity_of_code notice.PluralForms = Error
severity_of_code notice.RulesDiffer = Note
severity_of_code notice.Indices = Error
severity_of_code notice.NotTranslated = Error
severity_of_code notice.Arguments = Error
severity_of_code notice.NoNumber = Error
severity_of_code notice.NumberUnclear = Note
severity_of_code notice.FormatUnknown = Note
severity_of_code notice.TooMany = Error
severity_of_code notice.Twice = Error
severity_of_code notice.LeftOut = Note
severity_of_code notice.NoMessages = Note

abbrev pub IsErrorCode : NoticeCode → Type 0
IsErrorCode code = severity_of_code code ≡ Error

abbrev pub IsNoteCode : NoticeCode → Type 0
IsNoteCode code = severity_of_code code ≡ Note

abbrev pub IsGraded : FileNotice → Type 0
IsGraded told = told.severity ≡ severity_of_code told.code

-- ---- the word of each code of a notice

abbrev pub notice_code_name : NoticeCode → List ℕ
notice_code_name notice.NotRead = codes "not-read"
notice_code_name notice.Charset = codes "charset"
notice_code_name notice.Syntax = codes "syntax"
notice_code_name notice.Header = codes "header"
notice_code_name notice.Language = codes "language"
notice_code_name notice.TakenAs = codes "taken-as"
notice_code_name notice.PluralForms = codes "plural-forms"
notice_code_name notice.RulesDiffer = codes "rules-differ"
notice_code_name notice.Indices = codes "indices"
notice_code_name notice.NotTranslated = codes "not-translated"
notice_code_name notice.Arguments = codes "arguments"
notice_code_name notice.NoNumber = codes "no-number"
notice_code_name notice.NumberUnclear = codes "number-unclear"
notice_code_name notice.FormatUnknown = codes "format-unknown"
notice_code_name notice.TooMany = codes "too-many"
notice_code_name notice.Twice = codes "twice"
notice_code_name notice.LeftOut = codes "left-out"
notice_code_name notice.NoMessages = codes "no-messages"
