use Rattle.std.proofs.Common.{◌≡◌, length}
use Rattle.number_lines.specs.NumberAnswers.{command_words_view}
use Rattle.form_commands.specs.Questions.{has_option}
use Rattle.form_commands.proofs.question.has_option.Given as goal

-- no word so far begins as an option does
abbrev pub invariant-loop-rest : goal.invariant-loop-rest
invariant-loop-rest l = has_option (command_words_view l.words) ≡ has_option (command_words_view l.rest)

abbrev pub decreases-loop-rest : goal.decreases-loop-rest
decreases-loop-rest l = length l.rest
