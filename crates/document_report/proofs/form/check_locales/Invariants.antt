use Rattle.std.proofs.Common.{◌≡◌}
use Rattle.document_report.specs.CheckedDocument.{locales_formed}
use Rattle.serde_json.specs.View.{members_view}
use Rattle.document_report.proofs.form.check_locales.Given as goal

-- the locales that were checked have the form
abbrev pub invariant-loop-locale : goal.invariant-loop-locale
invariant-loop-locale l =
    locales_formed l.part (members_view l.members.entries) ≡ locales_formed l.part (members_view l.locale-iterator)
