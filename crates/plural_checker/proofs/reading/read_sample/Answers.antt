use Rattle.std.proofs.Common.{IfOk, subst, ◌∙◌}
use Rattle.plural_checker.specs.SampleNumbers.{GivesSampleNumber}
use Rattle.plural_checker.proofs.reading.read_sample.Goals as goal

pub returns : goal.returns
returns c =
    subst (λ text. IfOk c.read_number.result (λ answer. GivesSampleNumber text answer))
    (c.as_str.ensures.value ∙ c.text.view_is ∙ c.in_ok-text.ensures) c.read_number.ensures
