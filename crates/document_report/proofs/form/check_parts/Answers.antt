use Rattle.std.specs.Prelude.{⊤}
use Rattle.std.proofs.lemmas.Result.{err_from_is_err_and}
use Rattle.serde_json.specs.Find.{get}
use Rattle.serde_json.specs.View.{view}
use Rattle.document_report.specs.CheckedDocument.{part_formed}
use Rattle.plural_documents.specs.Steps.{◌>>=◌}
use Rattle.plural_fallback.specs.LocalesJson.{part_name}
use Rattle.plural_fallback.specs.declared.locales.Part.TheVariants.{Cardinal, Ordinal, Ranges}
use Rattle.document_report.proofs.CheckFaults.{handed_on, of_second, refused_first}
use Rattle.document_report.proofs.form.check_parts.Goals as goal

pub returns-in_err-check_part : goal.returns-in_err-check_part
returns-in_err-check_part c =
    let value = view c.args.value.now in
    let cardinal = part_formed Cardinal (get (part_name Cardinal) value) in
    let ordinal = part_formed Ordinal (get (part_name Ordinal) value) in
    let ranges = part_formed Ranges (get (part_name Ranges) value) in
    refused_first (λ (done : ⊤). done) cardinal (λ _. ordinal >>= λ _. ranges)
    c.in_err-check_part.field-0.0 c.from_residual.result
    (handed_on _ _ (err_from_is_err_and c.from_residual.result c.from_residual.ensures.1)) c.in_err-check_part.ensures

pub returns-in_err-check_part-2 : goal.returns-in_err-check_part-2
returns-in_err-check_part-2 c =
    let value = view c.args.value.now in
    let cardinal = part_formed Cardinal (get (part_name Cardinal) value) in
    let ordinal = part_formed Ordinal (get (part_name Ordinal) value) in
    let ranges = part_formed Ranges (get (part_name Ranges) value) in
    of_second (λ (done : ⊤). done) cardinal tt (λ _. ordinal >>= λ _. ranges)
    c.from_residual-in_err-check_part-2.result c.in_ok-check_part.ensures
    (refused_first (λ (done : ⊤). done) ordinal (λ _. ranges)
    c.in_err-check_part-2.field-0.0 c.from_residual-in_err-check_part-2.result
    (handed_on _ _ (err_from_is_err_and c.from_residual-in_err-check_part-2.result c.from_residual-in_err-check_part-2.ensures.1))
    c.in_err-check_part-2.ensures)

pub returns : goal.returns
returns c =
    let value = view c.args.value.now in
    let cardinal = part_formed Cardinal (get (part_name Cardinal) value) in
    let ordinal = part_formed Ordinal (get (part_name Ordinal) value) in
    let ranges = part_formed Ranges (get (part_name Ranges) value) in
    of_second (λ (done : ⊤). done) cardinal tt (λ _. ordinal >>= λ _. ranges) c.check_part-3.result c.in_ok-check_part.ensures
    (of_second (λ (done : ⊤). done) ordinal tt (λ _. ranges) c.check_part-3.result c.in_ok-check_part-2.ensures c.check_part-3.ensures)
