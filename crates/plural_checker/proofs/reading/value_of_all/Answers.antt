use Rattle.std.proofs.Common.{◌*◌, ap, ◌∙◌}
use Rattle.plural_checker.proofs.AllDigits.{value_of_all}
use Rattle.plural_checker.proofs.reading.value_of_all.Goals as goal

pub returns : goal.returns
returns c =
    ap (λ power. c.number_from-kept.result.0 * power) c.pow.ensures
    ∙ c.number_from-kept.ensures.value ∙ value_of_all c.args.digits.now c.args.count c.requires.all
