use Rattle.std.proofs.Common.{refl, arith}
use Rattle.gettext_plural.proofs.lexer.digits.Goals as goal

pub loop-rest-init : goal.loop-rest-init
loop-rest-init c = record { value = (c.args.start, omega arith, refl); behind = refl; shorter = omega arith }
