use Rattle.std.proofs.Common.{ℕ, List, Option, get_or, ap, ◌∙◌}
use Rattle.serde_json.specs.Data.{Data}
use Rattle.serde_json.specs.Find.{get}
use Rattle.serde_json.specs.View.{view}
use Rattle.icu_plurals.specs.declared.PluralCategory.TheVariants.{Zero}
use Rattle.document_report.specs.DocumentPlaces.{locale_place_view}
use Rattle.document_report.specs.DocumentReport.{found_under, text_order}
use Rattle.document_report.specs.FoundInDocuments.{together}
use Rattle.document_report.proofs.FoundParts.{next_under}
use Rattle.document_report.proofs.languages.add_texts.Goals as goal

pub loop-category-preserved : goal.loop-category-preserved
loop-category-preserved c =
    let place = locale_place_view c.args.place in
    let value = view c.args.value.now in
    let now = c.loop-category.found in
    let category = get_or text_order c.loop-category.category-index Zero in
    next_under place value c.args.faults.now text_order c.loop-category.category-index Zero now c.add_text.new.found
    c.add_faults.new.found c.loop-category-test.true
    (c.in_ok-add_text.ensures
    ∙ ap (λ (under : Option Data). together now (found_under place category under))
    (c.get-under.ensures ∙ ap (λ (key : List ℕ). get key value) c.as_str.ensures))
    c.in_ok-add_faults.ensures
    ∙ c.loop-category.invariant
