use Rattle.std.proofs.Common.{refl, sym}
use Rattle.plural_base.proofs.json.checks.check_rule.Goals as goal

pub returns-in-Some-get-clause-answers : goal.returns-in-Some-get-clause-answers
returns-in-Some-get-clause-answers c = (c.in-Some-get.field-0.now, rw (sym c.in-Some.ensures, c.in-Some-get.ensures.given.0) refl)
