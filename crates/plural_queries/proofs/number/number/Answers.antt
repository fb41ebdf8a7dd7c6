use Rattle.std.proofs.Common.{Ok, Err, refl}
use Rattle.icu_plurals.specs.declared.DecimalError.TheVariants as decimal
use Rattle.plural_queries.proofs.Questions.{long_word, read_has_no_fault}
use Rattle.plural_queries.proofs.number.number.Goals as goal

pub returns-in-Ok-clause-number : goal.returns-in-Ok-clause-number
returns-in-Ok-clause-number c = (
  c.in-Ok.ensures.number,
  read_has_no_fault c.args.word.now (Ok c.in-Ok.number) (λ h. cc) (λ h. cc) c.in-Ok.ensures.syntax c.in-Ok.ensures.limit,
)

pub returns-in-Err-Syntax-clause-number : goal.returns-in-Err-Syntax-clause-number
returns-in-Err-Syntax-clause-number c =
    (decimal.Syntax, refl, c.in-Err-Syntax.ensures.syntax.0 (rw c.in-Err-Syntax.field-0-is refl))

pub returns-in-Err-Limit-clause-number : goal.returns-in-Err-Limit-clause-number
returns-in-Err-Limit-clause-number c =
    (decimal.Limit, refl, c.in-Err-Limit.ensures.limit.0 (rw c.in-Err-Limit.field-0-is refl))

pub returns-in-Err-Memory-clause-memory : goal.returns-in-Err-Memory-clause-memory
returns-in-Err-Memory-clause-memory c = λ h.
    let known = c.in-Err-Memory.ensures in (
      read_has_no_fault c.args.word.now (Err c.in-Err-Memory.field-0)
          (λ e. let is = c.in-Err-Memory.field-0-is in cc) (λ e. let is = c.in-Err-Memory.field-0-is in cc) known.syntax known.limit,
      long_word c.args.word.now (λ short. known.inline short (rw c.in-Err-Memory.field-0-is refl)),
    )
