use Rattle.std.proofs.Common.{inl, refl}
use Rattle.plural_checker.proofs.sample_range.between.Goals as goal

pub returns-in-Ok-Ok : goal.returns-in-Ok-Ok
returns-in-Ok-Ok c = c.numbers_to.ensures c.args.lower.now (rw c.in-Ok-Ok.field-0-is at c.in-Ok-Ok.ensures)

pub returns-in-Ok-Err : goal.returns-in-Ok-Err
returns-in-Ok-Err c = inl (c.in-Ok-Err.fault, rw c.in-Ok-Err.field-0-is at c.in-Ok-Err.ensures, refl)
