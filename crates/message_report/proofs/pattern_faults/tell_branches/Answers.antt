use Rattle.std.proofs.Common.{[]}
use Rattle.message_report.specs.Inner.ArgumentViews.{plural_argument_view}
use Rattle.message_report.specs.Inner.LanguageViews.{language_view}
use Rattle.message_report.specs.MessagePlaces.{argument_place_view}
use Rattle.message_report.specs.MessagesReport.{branch_findings, category_order, missing_findings}
use Rattle.message_report.proofs.TellLemmas.{tells_if_ok}
use Rattle.message_report.proofs.pattern_faults.tell_branches.Goals as goal

pub returns : goal.returns
returns c =
    let language = language_view c.args.language.now in
    let place = argument_place_view c.args.place in
    let a = plural_argument_view c.args.argument in
    tells_if_ok c.args.before c.args.found.now c.in_ok-count.count c.tell_missing.new.found c.tell_each_branch.new.found
    (missing_findings language place a category_order) (branch_findings language place a [] a.branches) c.tell_each_branch.result
    c.in_ok-count.ensures c.tell_each_branch.ensures
