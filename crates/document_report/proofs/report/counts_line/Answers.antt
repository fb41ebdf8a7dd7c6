use Rattle.std.proofs.Common.{◌≡◌, ◌++◌, codes, string_bytes, sym, ◌∙◌}
use Rattle.std.specs.Fmt.{decimal}
use Rattle.std.proofs.lemmas.Result.{IfOk-weaker}
use Rattle.document_report.specs.ReportText.{counts_line}
use Rattle.document_report.proofs.LineTexts.{nine}
use Rattle.document_report.proofs.report.counts_line.Goals as goal

pub returns : goal.returns
returns c =
    let locales = decimal c.args.locales in
    let rules = decimal c.args.rules in
    let numbers = decimal c.args.numbers in
    let faults = decimal c.args.faults in
    IfOk-weaker c.format.result
    (λ s. string_bytes s
    ≡ codes "locales: " ++ (locales ++ (codes ", rules: " ++ (rules ++ (codes ", numbers: " ++ (numbers ++ (codes ", faults: "
    ++ (faults ++ codes "\n"))))))))
    (λ s. string_bytes s ≡ counts_line c.args.locales c.args.rules c.args.numbers c.args.faults)
    (λ s wrote. wrote
    ∙ sym (nine (codes "locales: ") locales (codes ", rules: ") rules (codes ", numbers: ") numbers (codes ", faults: ") faults
    (codes "\n")))
    c.format.ensures.ok
