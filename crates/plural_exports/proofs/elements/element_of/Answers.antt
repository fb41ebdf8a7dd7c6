use Rattle.std.proofs.Common.{Err, refl}
use Rattle.plural_exports.specs.GivenBytes.{ReadsRules}
use Rattle.plural_exports.specs.Inner.UnderRules.{IsElementUnder}
use Rattle.plural_exports.proofs.Steps.{of_second}
use Rattle.plural_exports.proofs.elements.element_of.Goals as goal

pub returns-in-Ok : goal.returns-in-Ok
returns-in-Ok c =
    of_second (λ text. text.now) (ReadsRules c.args.rules.now) (λ rules. IsElementUnder rules c.args.elements.now c.args.number.now)
    c.in-Ok.rules c.element_under.result c.in-Ok.ensures c.element_under.ensures

pub returns-in-Err : goal.returns-in-Err
returns-in-Err c = (Err c.in-Err.fault, c.in-Err.ensures, refl)
