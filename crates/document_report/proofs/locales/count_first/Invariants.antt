use Rattle.std.proofs.Common.{◌≡◌, ◌+◌}
use Rattle.std.specs.Prelude.{count_by}
use Rattle.icu_plurals.specs.RangesJson.{keys_in}
use Rattle.document_report.specs.DocumentReport.{is_first_in}
use Rattle.serde_json.specs.View.{members_view, view}
use Rattle.document_report.proofs.locales.count_first.Given as goal

-- the count so far, plus the count of the remaining ones
abbrev pub invariant-loop-locale : goal.invariant-loop-locale
invariant-loop-locale l =
    let first = is_first_in l.part (view l.document) in
    l.count + count_by first (keys_in (members_view l.locale-iterator)) ≡ count_by first (keys_in (members_view l.members.entries))
