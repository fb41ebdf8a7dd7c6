use Rattle.std.proofs.Common.{◌≡◌, ◌++◌, [], false, length, reverse}
use Rattle.message_pattern.specs.declared.print.Spot.TheVariants.{Message}
use Rattle.message_pattern.specs.declared.text.Context.TheVariants.{Whole}
use Rattle.message_pattern.specs.PatternParts.{parts_view}
use Rattle.message_pattern.specs.Inner.PatternFold.{fold}
use Rattle.message_pattern.proofs.print.print_parts.Given as goal

-- behind the text so far, the rest prints what all parts do
abbrev pub invariant-loop-rest : goal.invariant-loop-rest
invariant-loop-rest l = record {
  text : l.text.items ++ fold l.context (reverse l.outer.items) l.spot (parts_view l.rest)
      ≡ l.initial.text.items ++ fold Whole [] (Message false) (parts_view l.parts);
}

abbrev pub decreases-loop-rest : goal.decreases-loop-rest
decreases-loop-rest l = length l.rest
