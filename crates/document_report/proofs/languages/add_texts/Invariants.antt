use Rattle.std.proofs.Common.{◌≡◌, drop}
use Rattle.document_report.specs.DocumentPlaces.{locale_place_view}
use Rattle.document_report.specs.DocumentReport.{found_under_all, text_order}
use Rattle.document_report.specs.FoundInDocuments.{together}
use Rattle.serde_json.specs.View.{view}
use Rattle.document_report.proofs.languages.add_texts.Given as goal

-- what is found under the remaining categories completes what was found so far
abbrev pub invariant-loop-category : goal.invariant-loop-category
invariant-loop-category l =
    together l.found (found_under_all (locale_place_view l.place) (view l.value) l.faults (drop l.category-index text_order))
    ≡ together l.initial.found (found_under_all (locale_place_view l.place) (view l.value) l.faults text_order)
