use Rattle.std.proofs.Common.{Err, refl}
use Rattle.plural_exports.specs.GivenBytes.{ReadsRules}
use Rattle.plural_exports.specs.Inner.UnderRules.{IsMessageUnder}
use Rattle.plural_exports.proofs.Steps.{written_second}
use Rattle.plural_exports.proofs.number_message.write_message.Goals as goal

pub returns-in-Ok : goal.returns-in-Ok
returns-in-Ok c =
    written_second (ReadsRules c.args.rules.now) (λ rules. IsMessageUnder rules c.args.elements.now c.args.number.now)
    c.in-Ok.rules c.args.out.now c.write_under.new.out c.write_under.result c.in-Ok.ensures c.write_under.ensures

pub returns-in-Err : goal.returns-in-Err
returns-in-Err c = ((Err c.in-Err.fault, c.in-Err.ensures, refl), refl)
