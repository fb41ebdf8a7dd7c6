use Rattle.std.specs.Option.{option_copied}
use Rattle.plural_checker.specs.NumberChecks.{AreRightBelow}
use Rattle.plural_checker.proofs.number_check.check_numbers.Given as goal

-- nothing is wrong with the numbers so far
abbrev pub invariant-loop-index : goal.invariant-loop-index
invariant-loop-index l = AreRightBelow (option_copied l.rules) l.category l.numbers l.index
