use Rattle.std.proofs.Common.{◌∙◌, subst, sym}
use Rattle.std.specs.Option.{option_copied}
use Rattle.plural_checker.specs.Inner.ShortNumbers.{IsVerdictOn}
use Rattle.plural_checker.proofs.short_number.verdict_on_sample.Goals as goal

pub returns-in-None : goal.returns-in-None
returns-in-None c =
    subst (λ text. IsVerdictOn (option_copied c.args.rules) c.args.category text c.verdict_on_text.result)
    (c.as_str.ensures.value ∙ c.sample.view_is ∙ sym c.in-None.ensures) c.verdict_on_text.ensures
