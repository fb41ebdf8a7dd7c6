use Rattle.std.proofs.Common.{◌≡◌, ℕ, ◌+◌, ap, ◌∙◌}
use Rattle.std.specs.Prelude.{◌==◌}
use Rattle.std.proofs.Math.Nat.{add-zero}
use Rattle.message_report.specs.FoundInMessages.{MessageFound, nothing_found_in_messages, messages_together}
use Rattle.message_report.specs.MessagesReportText.{counts_found}
use Rattle.message_report.specs.declared.counts.Counts.{Counts}
use Rattle.example_callers.proofs.translation.is_complete.Goals as goal

-- the faults of one file
of_one : (counts : Counts) (found first rest : MessageFound) → counts ≡ counts_found found → found ≡ messages_together first rest → rest ≡ nothing_found_in_messages
    → (counts.faults == 0) ≡ (first.faults == 0)
of_one counts found first rest counted both none =
    ap (λ (n : ℕ). n == 0)
    (ap (λ (c : Counts). c.faults) counted ∙ ap (λ (f : MessageFound). f.faults) both
    ∙ ap (λ (f : MessageFound). first.faults + f.faults) none ∙ add-zero first.faults)

pub returns-in-Ok : goal.returns-in-Ok
returns-in-Ok g c =
    let r = c.in-Ok.ensures.reports in (r.1.0, r.1.2, of_one c.in-Ok.counts r.0 r.1.0 r.1.1 r.2 r.1.4 r.1.3)
