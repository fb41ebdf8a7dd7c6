use Rattle.std.proofs.Common.{◌∙◌, sym, ap}
use Rattle.format_arguments.specs.CountedArguments.{is_number_name}
use Rattle.format_arguments.proofs.NumberNames.{no_word_left, word_passed}
use Rattle.format_arguments.proofs.name.is_number_name.Goals as goal

pub returns-in_default : goal.returns-in_default
returns-in_default c =
    sym (sym c.words.invariant
    ∙ no_word_left c.words.rest.now c.split_run.result.0.now c.split_run.result.1.now c.split_run.ensures.front c.split_run.ensures.rest
    (sym c.is_number_word.ensures ∙ c.if-is_number_word.false) c.in_default.len_below)

pub words-preserved : goal.words-preserved
words-preserved c =
    ap is_number_name c.behind_first-after.ensures.rest
    ∙ (word_passed c.words.rest.now c.split_run.result.0.now c.split_run.result.1.now c.split_run.ensures.front c.split_run.ensures.rest
    (sym c.is_number_word.ensures ∙ c.if-is_number_word.false)
    ∙ c.words.invariant)
