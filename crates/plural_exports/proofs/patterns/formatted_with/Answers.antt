use Rattle.std.proofs.Common.{Err, refl}
use Rattle.plural_exports.specs.FormattedPatterns.{rules_of_both}
use Rattle.plural_exports.specs.GivenBytes.{ReadsRules}
use Rattle.plural_exports.specs.GivenPatterns.{ReadsPatternText}
use Rattle.plural_exports.specs.Inner.UnderRules.{IsSaidUnder}
use Rattle.plural_exports.proofs.Steps.{of_second}
use Rattle.plural_exports.proofs.patterns.formatted_with.Goals as goal

pub returns-in-Ok : goal.returns-in-Ok
returns-in-Ok c =
    of_second (λ text. text.items) (ReadsRules c.args.ordinal.now)
    (λ rules. IsSaidUnder (ReadsPatternText c.args.pattern.now) (rules_of_both c.args.cardinal.now rules) c.args.arguments.now)
    c.in-Ok.ordinal c.said.result c.in-Ok.ensures c.said.ensures

pub returns-in-Err : goal.returns-in-Err
returns-in-Err c = (Err c.in-Err.fault, c.in-Err.ensures, refl)
