use Rattle.std.proofs.Common.{length}
use Rattle.message_format.specs.FormatArguments.{named_values_view}
use Rattle.plural_exports.proofs.ReadArguments.{IsReadBefore}
use Rattle.plural_exports.proofs.arguments.arguments_in.Given as goal

-- what is left is read behind the arguments so far
abbrev pub invariant-loop-left : goal.invariant-loop-left
invariant-loop-left l = IsReadBefore l.given (named_values_view l.arguments.items) l.left

abbrev pub decreases-loop-left : goal.decreases-loop-left
decreases-loop-left l = length l.left
