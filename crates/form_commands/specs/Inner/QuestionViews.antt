-- Not a definition of the subject: words, options and questions, in the words of the definitions.
use Rattle.std.specs.Option.{option_copied}
use Rattle.number_lines.specs.NumberAnswers.{command_words_view}
use Rattle.form_commands.specs.Questions.{FormatAndRest, Options, Question, Wanted, category, check, gettext, help, list, version}
use Rattle.form_commands.specs.declared.question.Formatted.{Formatted as CodeFormatted}
use Rattle.form_commands.specs.declared.question.Options.{Options as CodeOptions}
use Rattle.form_commands.specs.declared.question.Question.{Question as CodeQuestion}
use Rattle.form_commands.specs.declared.question.Question.TheVariants as code
use Rattle.form_commands.specs.declared.question.Wanted.{Wanted as CodeWanted}

abbrev pub options_view : CodeOptions → Options
options_view options = record { part = options.part; file = option_copied options.file; rest = command_words_view options.rest.now }

abbrev pub format_and_rest_view : CodeFormatted → FormatAndRest
format_and_rest_view found = record { format = found.format; rest = command_words_view found.rest.now }

abbrev pub wanted_view : CodeWanted → Wanted
wanted_view wanted = record { part = wanted.part; locale = wanted.locale.now; file = option_copied wanted.file }

abbrev pub question_view : CodeQuestion → Question
question_view code.Help = help
question_view code.Version = version
question_view (code.List wanted) = list (wanted_view wanted)
question_view (code.Gettext wanted) = gettext (wanted_view wanted)
question_view (code.Category wanted numbers) = category (wanted_view wanted) (command_words_view numbers.now)
question_view (code.Check file format files) = check (option_copied file) format (command_words_view files.now)
