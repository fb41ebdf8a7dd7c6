use Rattle.std.proofs.Common.{ap, ◌∙◌}
use Rattle.form_commands.specs.Questions.{PartAndRest, rules_file_of, options_after}
use Rattle.form_commands.proofs.question.options_of.Goals as goal

pub returns : goal.returns
returns c = c.options_after.ensures ∙ ap (λ (found : PartAndRest). options_after found.part (rules_file_of found.rest)) c.part_of-part.ensures
