use Rattle.std.proofs.Common.{subst, sym}
use Rattle.std.specs.Option.{option_copied}
use Rattle.plural_checker.specs.Inner.ShortNumbers.{IsVerdictOn}
use Rattle.plural_checker.specs.SampleNumbers.{number_at}
use Rattle.plural_checker.specs.declared.sample_range.SampleNumbers.{SampleNumbers}
use Rattle.plural_checker.proofs.short_number.verdict_at.Goals as goal

pub returns-in-Stepped : goal.returns-in-Stepped
returns-in-Stepped c =
    subst (λ (numbers : SampleNumbers).
    IsVerdictOn (option_copied c.args.rules) c.args.category (number_at numbers c.args.index) c.verdict_on_step.result)
    (sym c.in-Stepped.is) c.verdict_on_step.ensures
