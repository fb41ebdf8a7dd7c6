-- Not a definition of the subject: the faults that errors of the input, of lines and of a report
-- become.
use Rattle.icu_plurals.specs.declared.JsonError.{JsonError}
use Rattle.icu_plurals.specs.declared.JsonError.TheVariants as json
use Rattle.number_lines.specs.declared.LinesError.{LinesError}
use Rattle.number_lines.specs.declared.LinesError.TheVariants as lines
use Rattle.plural_documents.specs.declared.InputError.{InputError}
use Rattle.plural_documents.specs.declared.InputError.TheVariants as cause
use Rattle.message_report.specs.declared.error.ReportError.{ReportError}
use Rattle.message_report.specs.declared.error.ReportError.TheVariants as report
use Rattle.form_commands.specs.declared.error.FormsError.{FormsError}
use Rattle.form_commands.specs.declared.error.FormsError.TheVariants.{Rules, TooLong, Refused, Numbers, Write, Memory}

abbrev pub rules_input_fault : InputError → FormsError
rules_input_fault cause.Read = Rules
rules_input_fault cause.TooLong = TooLong
rules_input_fault cause.Memory = Memory

abbrev pub lines_fault : LinesError → FormsError
lines_fault lines.Read = Numbers
lines_fault lines.Write = Write
lines_fault lines.Memory = Memory

abbrev pub report_fault : ReportError → FormsError
report_fault report.Write = Write
report_fault report.Memory = Memory

-- of rules that are refused
abbrev pub refused_rules : JsonError → FormsError
refused_rules json.Memory = Memory
refused_rules error = Refused error
