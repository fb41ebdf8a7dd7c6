use Rattle.std.proofs.Common.{◌≡◌, ℕ, List, [], ◌++◌, codes, ap, append_assoc}
use Rattle.std.proofs.lemmas.List.{append-nil}
use Rattle.std.specs.Fmt.{decimal}
use Rattle.std.specs.List.{flat_map}
use Rattle.document_report.specs.ReportText.{findings_in, printed_finding}
use Rattle.document_notes.proofs.laws.no_notes_change_nothing.Goals as goal

-- the pieces of the counts, grouped from the right, or from the left
grouped : (a b c d e f g h n : List ℕ)
    → (a ++ (b ++ (c ++ (d ++ (e ++ (f ++ (g ++ (h ++ [])))))))) ++ n ≡ (((((((a ++ b) ++ c) ++ d) ++ e) ++ f) ++ g) ++ h) ++ n
grouped a b c d e f g h n = simp (append_assoc, append-nil)

pub returns : goal.returns
returns c report =
    ap (λ (counts : List ℕ). flat_map printed_finding (findings_in report) ++ counts)
    (grouped (codes "locales: ") (decimal report.locales) (codes ", rules: ") (decimal report.found.checked) (codes ", numbers: ")
    (decimal report.found.cases) (codes ", faults: ") (decimal report.found.faults) (codes "\n"))
