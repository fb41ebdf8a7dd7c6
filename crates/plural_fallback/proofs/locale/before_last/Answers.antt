use Rattle.std.proofs.Common.{sym, arith}
use Rattle.plural_fallback.proofs.LastSeparator.{found_at}
use Rattle.plural_fallback.proofs.locale.before_last.Goals as goal

pub returns-then-is_separator : goal.returns-then-is_separator
returns-then-is_separator c =
    sym (found_at c.args.locale.now c.loop-end.end (omega arith) c.loop-end.invariant.0 (sym c.if-is_separator.ensures) c.loop-end.invariant.1)
