use Rattle.std.proofs.Common.{Err, refl}
use Rattle.plural_exports.specs.FormattedPatterns.{rules_of_both}
use Rattle.plural_exports.specs.GivenBytes.{ReadsRules}
use Rattle.plural_exports.specs.GivenPatterns.{ReadsPatternBlock}
use Rattle.plural_exports.specs.Inner.UnderRules.{IsSaidUnder}
use Rattle.plural_exports.proofs.Steps.{written_second}
use Rattle.plural_exports.proofs.packed_patterns.write_with.Goals as goal

pub returns-in-Ok : goal.returns-in-Ok
returns-in-Ok c =
    written_second (ReadsRules c.args.ordinal.now)
    (λ rules. IsSaidUnder (ReadsPatternBlock c.args.block.now) (rules_of_both c.args.cardinal.now rules) c.args.arguments.now)
    c.in-Ok.ordinal c.args.out.now c.write_said.new.out c.write_said.result c.in-Ok.ensures c.write_said.ensures

pub returns-in-Err : goal.returns-in-Err
returns-in-Err c = ((Err c.in-Err.fault, c.in-Err.ensures, refl), refl)
