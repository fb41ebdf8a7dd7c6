use Rattle.std.proofs.Common.{Err, refl}
use Rattle.plural_exports.specs.GivenBytes.{ReadsRules}
use Rattle.plural_exports.specs.GivenPatterns.{ReadsPatternText}
use Rattle.plural_exports.specs.Inner.UnderRules.{IsSaidWith}
use Rattle.plural_exports.proofs.Steps.{of_second}
use Rattle.plural_exports.proofs.patterns.formatted.Goals as goal

pub returns-in-Ok : goal.returns-in-Ok
returns-in-Ok c =
    of_second (λ text. text.items) (ReadsRules c.args.cardinal.now)
    (λ rules. IsSaidWith (ReadsPatternText c.args.pattern.now) rules c.args.ordinal.now c.args.arguments.now)
    c.in-Ok.cardinal c.formatted_with.result c.in-Ok.ensures c.formatted_with.ensures

pub returns-in-Err : goal.returns-in-Err
returns-in-Err c = (Err c.in-Err.fault, c.in-Err.ensures, refl)
