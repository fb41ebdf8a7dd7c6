use Rattle.std.proofs.Common.{◌-◌, length, refl}
use Rattle.plural_reference.proofs.plain.PlainBytes.{short_run}
use Rattle.plural_reference.proofs.parser.samples.plain.behind_digits.Goals as goal

pub returns-then-count-lt10-clause-digits : goal.returns-then-count-lt10-clause-digits
returns-then-count-lt10-clause-digits c =
    short_run c.args.text.now c.behind_run-rest.result.now (length c.args.text.now - length c.behind_run-rest.result.now)
    c.behind_run-rest.ensures refl c.if-count-ne0.true c.if-count-lt10.true
