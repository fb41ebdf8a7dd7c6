use Rattle.std.proofs.Common.{ap}
use Rattle.std.specs.Option.{option_copied}
use Rattle.form_commands.specs.Questions.{PartAndRest, options_with}
use Rattle.form_commands.proofs.question.options_with.Goals as goal

pub returns : goal.returns
returns c = ap (λ (found : PartAndRest). options_with (option_copied c.args.file) found) c.part_of-part.ensures
