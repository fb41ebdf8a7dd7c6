use Rattle.std.proofs.Common.{ap, sym, ◌∙◌}
use Rattle.plural_fallback.specs.declared.locales.Part.TheVariants.{Ordinal}
use Rattle.number_lines.specs.NumberAnswers.{command_words_view}
use Rattle.form_commands.specs.Questions.{FileAndRest, rules_file_of, in_part, options_with, part_of_words}
use Rattle.form_commands.proofs.QuestionLemmas.{not_ordinal}
use Rattle.form_commands.proofs.question.options_after.Goals as goal

pub returns-in-Ordinal : goal.returns-in-Ordinal
returns-in-Ordinal c =
    rw c.in-Ordinal.is (ap (λ (found : FileAndRest). options_with found.file (in_part Ordinal found.rest)) c.file_of.ensures)

pub returns-in_default : goal.returns-in_default
returns-in_default c =
    c.options_with.ensures
    ∙ ap (λ (found : FileAndRest). options_with found.file (part_of_words found.rest)) c.file_of.ensures
    ∙ sym (not_ordinal c.args.part (rules_file_of (command_words_view c.args.words.now)) c.in_default.not-Ordinal)
