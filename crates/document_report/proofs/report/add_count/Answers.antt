use Rattle.std.proofs.Common.{◌≡◌, ℕ, ap, sym, ◌∙◌, arith}
use Rattle.document_report.specs.DocumentReport.{found_of_count}
use Rattle.document_report.specs.FoundInDocuments.{together}
use Rattle.document_report.proofs.FoundParts.{on_ok}
use Rattle.document_report.proofs.report.add_count.Goals as goal

pub returns : goal.returns
returns c =
    let none : c.args.locales ≡ 0 = omega arith in
    on_ok c.add_fault.result
    (λ added. added ∙ ap (λ (n : ℕ). together c.args.found.now (found_of_count n)) (sym none))
    c.add_fault.ensures
