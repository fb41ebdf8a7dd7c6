use Rattle.std.proofs.Common.{refl}
use Rattle.fixed_decimal.specs.declared.error.DecimalError.TheVariants.{Syntax, Limit}
use Rattle.plural_operands.proofs.numbers.Refusals.{accepted, no_cause, carried}
use Rattle.plural_operands.proofs.operands.compact_text.long_operands.Goals as goal

pub returns-in-Ok-clause-kept : goal.returns-in-Ok-clause-kept
returns-in-Ok-clause-kept c = (c.in-Ok.number, c.in-Ok.ensures.number.0, c.in-Ok.ensures.number.1, c.in-Ok.ensures.number.2, c.from.ensures.0)

pub returns-in-Ok-clause-syntax : goal.returns-in-Ok-clause-syntax
returns-in-Ok-clause-syntax c = accepted _ Syntax (λ none. none c.in-Ok.number c.in-Ok.ensures.number.0)

pub returns-in-Ok-clause-limit : goal.returns-in-Ok-clause-limit
returns-in-Ok-clause-limit c = accepted _ Limit (no_cause c.in-Ok.number Limit c.in-Ok.ensures.limit)

pub returns-in-Err-clause-syntax : goal.returns-in-Err-clause-syntax
returns-in-Err-clause-syntax c = carried _ _ c.in-Err.error Syntax refl refl c.in-Err.ensures.syntax

pub returns-in-Err-clause-limit : goal.returns-in-Err-clause-limit
returns-in-Err-clause-limit c = carried _ _ c.in-Err.error Limit refl refl c.in-Err.ensures.limit
