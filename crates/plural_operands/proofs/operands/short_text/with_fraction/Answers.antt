use Rattle.std.proofs.Common.{List, ℕ}
use Rattle.plural_operands.proofs.numbers.ShortReading.{front_size, trimmed_if_least}
use Rattle.plural_operands.proofs.operands.short_text.with_fraction.Goals as goal

pub returns-clause-fraction : goal.returns-clause-fraction
returns-clause-fraction c =
    let h = c.short_front-f.ensures.front in
    let text : List ℕ = c.args.text.now in
    let rest : List ℕ = c.short_front-f.result.1.now in
    record {
      front = h.front;
      digits = h.digits;
      few = h.few;
      shown = front_size text h.front rest h.spelled;
      trimmed =
          trimmed_if_least _ _ _ _ c.without_zeros-w.ensures.divides c.without_zeros-w.ensures.least
          c.without_zeros-w.ensures.number;
      spelled = h.spelled;
    }
