use Rattle.std.proofs.Common.{◌≡◌, ◌≤◌, min, drop}
use Rattle.format_arguments.specs.declared.directive.TheConstants.{PLACE_LIMIT}
use Rattle.format_arguments.specs.DirectiveBytes.{number_from}
use Rattle.format_arguments.proofs.directive.place_of.Given as goal

-- the place of the digits so far, and then of the others, is that of all
abbrev pub invariant-loop-digit : goal.invariant-loop-digit
invariant-loop-digit l = record {
  same : min (number_from l.place (drop l.digit-index l.digits)) PLACE_LIMIT ≡ min (number_from 0 l.digits) PLACE_LIMIT;
  within : l.place ≤ PLACE_LIMIT;
}
