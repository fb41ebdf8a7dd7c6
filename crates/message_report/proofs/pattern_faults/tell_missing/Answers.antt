use Rattle.std.proofs.Common.{◌-◌, List, length, take, drop, get_or, ap, refl}
use Rattle.icu_plurals.specs.Categories.{name_of}
use Rattle.icu_plurals.specs.declared.PluralCategory.{PluralCategory}
use Rattle.icu_plurals.specs.declared.PluralCategory.TheVariants.{Zero}
use Rattle.message_pattern.specs.PatternParts.{Keyword}
use Rattle.message_report.specs.Inner.ArgumentViews.{plural_argument_view}
use Rattle.message_report.specs.Inner.LanguageViews.{language_view}
use Rattle.message_report.specs.MessagePlaces.{argument_place_view}
use Rattle.message_report.specs.MessagesReport.{category_order, findings_at, missing_findings}
use Rattle.message_report.specs.PatternFaults.{missing_fault}
use Rattle.message_report.proofs.TellLemmas.{completes, continues, headed, none_left, starts}
use Rattle.message_report.proofs.pattern_faults.tell_missing.Goals as goal

pub loop-left-init : goal.loop-left-init
loop-left-init c =
    starts c.args.before c.args.found.now
    (missing_findings (language_view c.args.language.now) (argument_place_view c.args.place) (plural_argument_view c.args.argument) category_order)

pub loop-left-preserved : goal.loop-left-preserved
loop-left-preserved c =
    let cs = c.loop-left.left.now in
    let category = get_or cs 0 Zero in
    let rest = take (length cs - 1) (drop 1 cs) in
    let language = language_view c.args.language.now in
    let a = plural_argument_view c.args.argument in
    let place = argument_place_view c.args.place in
    continues c.args.before c.args.found.now c.loop-left.count c.loop-left.found c.in_ok-count.count c.tell_branch.new.found
    (findings_at place (Keyword (name_of category)) (missing_fault language a category)) (missing_findings language place a rest)
    (missing_findings language place a cs) (missing_findings language place a category_order)
    (ap (λ (l : List PluralCategory). missing_findings language place a l) (headed cs Zero (length cs) c.in-len1-up.len_at_least refl))
    c.loop-left.invariant
    (rw (c.missing_fault-fault.ensures, c.as_bytes.ensures.value, c.as_str.ensures) at c.in_ok-count.ensures)

pub returns : goal.returns
returns c =
    let language = language_view c.args.language.now in
    let a = plural_argument_view c.args.argument in
    let place = argument_place_view c.args.place in
    completes c.args.before c.args.found.now c.loop-left.count c.loop-left.found
    (missing_findings language place a c.loop-left.left.now) (missing_findings language place a category_order)
    (ap (λ (l : List PluralCategory). missing_findings language place a l) (none_left c.loop-left.left.now c.in_default.len_below))
    c.loop-left.invariant
