use Rattle.std.proofs.Common.{◌≡◌, length}
use Rattle.format_arguments.specs.CountedArguments.{is_number_name}
use Rattle.format_arguments.proofs.name.is_number_name.Given as goal

-- no word so far names a number
abbrev pub invariant-words : goal.invariant-words
invariant-words l = is_number_name l.rest ≡ is_number_name l.name

abbrev pub decreases-words : goal.decreases-words
decreases-words l = length l.rest
