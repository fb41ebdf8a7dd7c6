use Rattle.std.proofs.Common.{◌≡◌, ℕ, ◌<◌, ◌≤◌, false}
use Rattle.plural_operands.specs.Operands.{of_whole}
use Rattle.rule_notes.specs.Inner.OwnNumbers.{is_own}
use Rattle.rule_notes.proofs.own_numbers.has_whole.Given as goal

-- no number so far
abbrev pub invariant-loop-number : goal.invariant-loop-number
invariant-loop-number l = (n : ℕ) → l.start ≤ n → n < l.number → is_own l.earlier l.rule (of_whole n) ≡ false
