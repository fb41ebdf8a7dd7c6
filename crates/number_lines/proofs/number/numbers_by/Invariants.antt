use Rattle.std.proofs.Common.{◌≡◌, ℕ, List, length}
use Rattle.number_lines.specs.NumberAnswers.{command_words_view, AreAnswersFrom}
use Rattle.number_lines.specs.PrintedTexts.{PrintedText, both_printed}
use Rattle.number_lines.specs.declared.printed.Place.TheVariants.{Number}
use Rattle.number_lines.proofs.number.numbers_by.Given as goal

-- the answers to the rest complete those to all numbers
abbrev pub invariant-loop-rest : goal.invariant-loop-rest
invariant-loop-rest l =
    (left : List (List ℕ)) → command_words_view l.rest ≡ left → (more : PrintedText) → AreAnswersFrom Number l.rules l.place left more
    → AreAnswersFrom Number l.rules 1 (command_words_view l.numbers) (both_printed l.printed more)

abbrev pub decreases-loop-rest : goal.decreases-loop-rest
decreases-loop-rest l = length l.rest
