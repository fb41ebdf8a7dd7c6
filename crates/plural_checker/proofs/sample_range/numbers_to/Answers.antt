use Rattle.std.proofs.Common.{inl, inr, refl}
use Rattle.plural_checker.proofs.sample_range.numbers_to.Goals as goal

pub returns-in-Ok-Ok : goal.returns-in-Ok-Ok
returns-in-Ok-Ok c = λ lower gives.
    inr (inr (c.args.first.now, c.in-Ok-Ok.last, gives, rw c.in-Ok-Ok.field-0-is at c.in-Ok-Ok.ensures, c.stepped.ensures))

pub returns-in-Ok-Err : goal.returns-in-Ok-Err
returns-in-Ok-Err c = λ lower gives.
    inr (inl (c.args.first.now, c.in-Ok-Err.last_fault, gives, rw c.in-Ok-Err.field-0-is at c.in-Ok-Err.ensures, refl))
