use Rattle.std.proofs.Common.{◌≡◌, ◌≤◌, length}
use Rattle.plural_operands.proofs.numbers.OperandTexts.{scanned}
use Rattle.plural_operands.proofs.operands.text.read_digits.Given as goal

-- the rest, scanned from the number so far, gives what the whole text does
abbrev pub invariant-loop-rest : goal.invariant-loop-rest
invariant-loop-rest l = record {
  same : scanned l.number l.rest ≡ scanned 0 l.text;
  behind : length l.rest ≤ length l.text;
}

abbrev pub decreases-loop-rest : goal.decreases-loop-rest
decreases-loop-rest l = length l.rest
