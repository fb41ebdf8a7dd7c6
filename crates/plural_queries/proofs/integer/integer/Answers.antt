use Rattle.std.proofs.Common.{sym, ◌∙◌}
use Rattle.plural_queries.proofs.Integers.{over_limit}
use Rattle.plural_queries.proofs.integer.integer.Goals as goal

pub returns-in-Err : goal.returns-in-Err
returns-in-Err c =
    over_limit c.args.word.now c.in-Err.field-0 c.in-Err.ensures.value.0 (sym c.is_numeral.ensures ∙ c.if-not-is_numeral.false)
