use Rattle.std.proofs.Common.{◌≡◌, length}
use Rattle.message_format.specs.FormatArguments.{named_values_view, value_named}
use Rattle.message_format.proofs.arguments.value_named.Given as goal

-- the value is that among the arguments that are left
abbrev pub invariant-loop-left : goal.invariant-loop-left
invariant-loop-left l = value_named l.name (named_values_view l.left) ≡ value_named l.name (named_values_view l.arguments)

abbrev pub decreases-loop-left : goal.decreases-loop-left
decreases-loop-left l = length l.left
