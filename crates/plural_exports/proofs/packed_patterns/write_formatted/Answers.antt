use Rattle.std.proofs.Common.{Err, refl}
use Rattle.plural_exports.specs.GivenBytes.{ReadsRules}
use Rattle.plural_exports.specs.GivenPatterns.{ReadsPatternBlock}
use Rattle.plural_exports.specs.Inner.UnderRules.{IsSaidWith}
use Rattle.plural_exports.proofs.Steps.{written_second}
use Rattle.plural_exports.proofs.packed_patterns.write_formatted.Goals as goal

pub returns-in-Ok : goal.returns-in-Ok
returns-in-Ok c =
    written_second (ReadsRules c.args.cardinal.now)
    (λ rules. IsSaidWith (ReadsPatternBlock c.args.block.now) rules c.args.ordinal.now c.args.arguments.now)
    c.in-Ok.cardinal c.args.out.now c.write_with.new.out c.write_with.result c.in-Ok.ensures c.write_with.ensures

pub returns-in-Err : goal.returns-in-Err
returns-in-Err c = ((Err c.in-Err.fault, c.in-Err.ensures, refl), refl)
