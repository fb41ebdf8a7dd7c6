use Rattle.std.proofs.Common.{◌≡◌, length}
use Rattle.std.specs.Prelude.{filter}
use Rattle.plural_checker.specs.TextChecks.{is_list_type}
use Rattle.plural_checker.proofs.list_order.next_type.Given as goal

-- the tokens so far name no type
abbrev pub invariant-loop-token : goal.invariant-loop-token
invariant-loop-token l = filter is_list_type l.initial.tokens ≡ filter is_list_type l.tokens

abbrev pub decreases-loop-token : goal.decreases-loop-token
decreases-loop-token l = length l.tokens
