use Rattle.plural_reference.specs.Inner.SampleReading.PlainSamples.{Begins, HasShortRun, IsRun}
use Rattle.plural_reference.proofs.plain.PlainBytes.{if_some_on, one_token}
use Rattle.plural_reference.proofs.parser.samples.plain.behind_one_run.Goals as goal

pub returns-in-len1-up-clause-run : goal.returns-in-len1-up-clause-run
returns-in-len1-up-clause-run c =
    if_some_on (HasShortRun c.args.text.now) (Begins IsRun c.args.text.now) c.behind_digits.result
    (λ rest h. one_token c.args.text.now rest h c.if-first-ne48.true) c.behind_digits.ensures.digits
