use Rattle.std.proofs.Common.{length, map, []}
use Rattle.message_pattern.specs.PatternParts.{selector_view}
use Rattle.message_report.specs.Inner.ArgumentViews.{plural_argument_view}
use Rattle.message_report.specs.Inner.LanguageViews.{language_view}
use Rattle.message_report.specs.MessagePlaces.{argument_place_view}
use Rattle.message_report.specs.MessagesReport.{branch_findings}
use Rattle.message_report.proofs.BranchLemmas.{GoingOn}
use Rattle.message_report.proofs.pattern_faults.tell_each_branch.Given as goal

-- the findings of the remaining branches complete those that were told
abbrev pub invariant-loop-left : goal.invariant-loop-left
invariant-loop-left l =
    GoingOn (language_view l.language) (argument_place_view l.place) (plural_argument_view l.argument) l.before l.initial.found l.count l.found
    (map selector_view l.seen.items) l.left
    (branch_findings (language_view l.language) (argument_place_view l.place) (plural_argument_view l.argument) []
    (plural_argument_view l.argument).branches)

abbrev pub decreases-loop-left : goal.decreases-loop-left
decreases-loop-left l = length l.left
