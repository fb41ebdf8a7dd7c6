use Rattle.std.proofs.Common.{◌-◌, [], List, length, map, take, drop, get_or, refl, ap, ◌∙◌}
use Rattle.message_pattern.specs.PatternParts.{parts_view, selector_view, branches_of}
use Rattle.message_pattern.specs.declared.part.Part as parts
use Rattle.message_pattern.specs.declared.part.Selector as selectors
use Rattle.message_report.specs.Inner.ArgumentViews.{plural_argument_view, branching}
use Rattle.message_report.specs.Inner.LanguageViews.{language_view}
use Rattle.message_report.specs.MessagePlaces.{argument_place_view}
use Rattle.message_report.specs.MessagesReport.{branch_findings}
use Rattle.message_report.specs.PatternFaults.{branch_fault}
use Rattle.message_report.proofs.BranchLemmas.{ends_branches, no_part, other_part, passes, tells_branch}
use Rattle.message_report.proofs.TellLemmas.{headed, none_left, starts}
use Rattle.message_report.proofs.pattern_faults.tell_each_branch.Goals as goal

pub loop-left-init : goal.loop-left-init
loop-left-init c = (
  [],
  ap (λ (l : List selectors.Selector). map selector_view l) c.new-seen.ensures.items,
  starts c.args.before c.args.found.now
      (branch_findings (language_view c.args.language.now) (argument_place_view c.args.place) (plural_argument_view c.args.argument) []
      (plural_argument_view c.args.argument).branches),
)

pub loop-left-preserved-then-part-argument : goal.loop-left-preserved-then-part-argument
loop-left-preserved-then-part-argument c =
    let ps = c.loop-left.left.now in
    let a = plural_argument_view c.args.argument in
    let place = argument_place_view c.args.place in
    let language = language_view c.args.language.now in
    passes language place a c.args.before c.args.found.now c.loop-left.count c.loop-left.found (map selector_view c.loop-left.seen.items) ps
    (take (length ps - 1) (drop 1 ps)) (get_or ps 0 no_part) (branch_findings language place a [] a.branches)
    (headed ps no_part (length ps) c.in-len1-up.len_at_least refl) c.if-part-argument.true c.loop-left.invariant

pub loop-left-preserved : goal.loop-left-preserved
loop-left-preserved c =
    let ps = c.loop-left.left.now in
    let rest = take (length ps - 1) (drop 1 ps) in
    let a = plural_argument_view c.args.argument in
    let place = argument_place_view c.args.place in
    let language = language_view c.args.language.now in
    tells_branch language place a c.args.before c.args.found.now c.loop-left.count c.loop-left.found
    (map selector_view c.loop-left.seen.items) ps rest (get_or ps 0 no_part) c.in-Branch.selector
    (branch_findings language place a [] a.branches) c.branch_fault-fault.result c.in_ok-count.count c.tell_branch.new.found
    (map selector_view c.remember.new.seen.items) (headed ps no_part (length ps) c.in-len1-up.len_at_least refl)
    c.if-part-argument.false c.in-Branch.is c.loop-left.invariant
    (c.branch_fault-fault.ensures
    ∙ ap (λ (l : List selectors.Selector). branch_fault language a (map selector_view l) (branching c.in-Branch.selector rest))
    c.as_slice.ensures.value)
    c.in_ok-count.ensures c.in_ok-remember.ensures

pub returns : goal.returns
returns c =
    let ps = c.loop-left.left.now in
    let a = plural_argument_view c.args.argument in
    let place = argument_place_view c.args.place in
    let language = language_view c.args.language.now in
    ends_branches language place a c.args.before c.args.found.now c.loop-left.count c.loop-left.found
    (map selector_view c.loop-left.seen.items) ps (branch_findings language place a [] a.branches)
    (ap (λ (l : List parts.Part). branches_of a.depth (parts_view l)) (none_left ps c.in_default.len_below)) c.loop-left.invariant

pub returns-in_default-piece : goal.returns-in_default-piece
returns-in_default-piece c =
    let ps = c.loop-left.left.now in
    let a = plural_argument_view c.args.argument in
    let place = argument_place_view c.args.place in
    let language = language_view c.args.language.now in
    ends_branches language place a c.args.before c.args.found.now c.loop-left.count c.loop-left.found
    (map selector_view c.loop-left.seen.items) ps (branch_findings language place a [] a.branches)
    (other_part a.depth ps (take (length ps - 1) (drop 1 ps)) (get_or ps 0 no_part)
    (headed ps no_part (length ps) c.in-len1-up.len_at_least refl) c.if-part-argument.false c.in_default-piece.not-Branch)
    c.loop-left.invariant
