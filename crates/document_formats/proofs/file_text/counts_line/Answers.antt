use Rattle.std.proofs.Common.{◌≡◌, ◌++◌, codes, string_bytes, sym, ◌∙◌}
use Rattle.std.specs.Fmt.{decimal}
use Rattle.std.proofs.lemmas.Result.{IfOk-weaker}
use Rattle.document_report.specs.ReportText.{counts_line}
use Rattle.document_formats.proofs.LinePieces.{nine_pieces}
use Rattle.document_formats.proofs.file_text.counts_line.Goals as goal

pub returns : goal.returns
returns c =
    let locales = decimal c.args.counts.locales in
    let rules = decimal c.args.counts.rules in
    let numbers = decimal c.args.counts.numbers in
    let faults = decimal c.args.counts.faults in
    IfOk-weaker c.format.result
    (λ s. string_bytes s
    ≡ codes "locales: " ++ (locales ++ (codes ", rules: " ++ (rules ++ (codes ", numbers: " ++ (numbers ++ (codes ", faults: "
    ++ (faults ++ codes "\n"))))))))
    (λ s. string_bytes s
    ≡ counts_line c.args.counts.locales c.args.counts.rules c.args.counts.numbers c.args.counts.faults)
    (λ s wrote. wrote
    ∙ sym (nine_pieces (codes "locales: ") locales (codes ", rules: ") rules (codes ", numbers: ") numbers (codes ", faults: ") faults
    (codes "\n")))
    c.format.ensures.ok
