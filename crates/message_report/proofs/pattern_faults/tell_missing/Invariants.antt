use Rattle.std.proofs.Common.{length}
use Rattle.message_report.specs.Inner.ArgumentViews.{plural_argument_view}
use Rattle.message_report.specs.Inner.LanguageViews.{language_view}
use Rattle.message_report.specs.MessagePlaces.{argument_place_view}
use Rattle.message_report.specs.MessagesReport.{category_order, missing_findings}
use Rattle.message_report.proofs.TellLemmas.{Going}
use Rattle.message_report.proofs.pattern_faults.tell_missing.Given as goal

-- the findings of the remaining categories complete those that were told
abbrev pub invariant-loop-left : goal.invariant-loop-left
invariant-loop-left l =
    Going l.before l.initial.found l.count l.found
    (missing_findings (language_view l.language) (argument_place_view l.place) (plural_argument_view l.argument) l.left)
    (missing_findings (language_view l.language) (argument_place_view l.place) (plural_argument_view l.argument) category_order)

abbrev pub decreases-loop-left : goal.decreases-loop-left
decreases-loop-left l = length l.left
