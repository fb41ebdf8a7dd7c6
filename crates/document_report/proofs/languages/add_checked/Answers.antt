use Rattle.std.proofs.Common.{ap, refl, subst}
use Rattle.serde_json.specs.Data.{Members}
use Rattle.serde_json.specs.View.{view}
use Rattle.plural_checker.specs.declared.Report.{Report as Checked}
use Rattle.document_report.specs.CheckedDocument.{members_or_none}
use Rattle.document_report.specs.DocumentPlaces.{locale_place_view}
use Rattle.document_report.specs.DocumentReport.{found_by_check, found_of_key, found_of_other, found_under_all, text_order, IsFoundInKey}
use Rattle.document_report.specs.FoundInDocuments.{cases_alone, together, IsFoundInDocumentMembers}
use Rattle.document_report.proofs.FoundParts.{five_more, on_ok}
use Rattle.document_report.proofs.languages.add_checked.Goals as goal

pub returns : goal.returns
returns c =
    let place = locale_place_view c.args.place in
    let value = view c.args.value.now in
    let checked : Checked = record { faults = c.args.faults.now; numbers = c.args.numbers } in
    on_ok c.add_categories.result
    (λ added. (
      together (found_of_key place) (together (found_of_other place value) (together (found_by_check place value checked) added.0)),
      (
        checked,
        added.0,
        c.requires,
        subst (λ (m : Members). IsFoundInDocumentMembers (IsFoundInKey place) m added.0) (ap members_or_none c.as_object.ensures) added.1,
        refl,
      ),
      five_more c.args.found.now (found_of_key place) (found_of_other place value)
          (found_under_all place value checked.faults text_order) (cases_alone checked.numbers) added.0
          c.add_key.new.found c.add_other.new.found c.add_texts.new.found c.add_cases.new.self c.add_categories.new.found
          c.in_ok-add_key.ensures c.in_ok-add_other.ensures c.in_ok-add_texts.ensures c.in_ok-add_cases.ensures added.2,
    ))
    c.add_categories.ensures
