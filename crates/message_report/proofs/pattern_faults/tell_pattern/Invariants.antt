use Rattle.std.proofs.Common.{length}
use Rattle.message_pattern.specs.PatternParts.{parts_view}
use Rattle.message_report.specs.Inner.ArgumentViews.{languages_view}
use Rattle.message_report.specs.MessagePlaces.{pattern_place_view}
use Rattle.message_report.proofs.PatternTold.{GoingPattern}
use Rattle.message_report.proofs.pattern_faults.tell_pattern.Given as goal

-- the findings of the remaining parts complete those that were told
abbrev pub invariant-loop-left : goal.invariant-loop-left
invariant-loop-left l =
    GoingPattern (languages_view l.languages) (pattern_place_view l.place) (parts_view l.parts)
    (parts_view l.left) l.initial.found l.count l.found

abbrev pub decreases-loop-left : goal.decreases-loop-left
decreases-loop-left l = length l.left
