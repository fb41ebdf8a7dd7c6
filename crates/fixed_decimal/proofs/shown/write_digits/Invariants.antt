use Rattle.std.proofs.Common.{◌≤◌, ◌++◌, take, drop}
use Rattle.std.specs.Fmt.{HasWritten, IsPlainFormatter}
use Rattle.fixed_decimal.specs.Digits.{text_of}
use Rattle.fixed_decimal.proofs.shown.write_digits.Given as goal

-- The digits up to the index are printed.
abbrev pub invariant-loop-index : goal.invariant-loop-index
invariant-loop-index g l =
    (l.index ≤ l.count)
    × (IsPlainFormatter l.initial.f
    → HasWritten g.W.Write.write_str_gives l.initial.f
    (text_of (take l.index (drop l.from (l.number.whole ++ l.number.fraction)))) l.f)
