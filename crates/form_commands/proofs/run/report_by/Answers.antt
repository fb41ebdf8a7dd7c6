use Rattle.std.proofs.Common.{Ok, Err, ap}
use Rattle.form_commands.specs.declared.error.FormsError.{FormsError}
use Rattle.form_commands.specs.declared.error.Verdict.{Verdict}
use Rattle.form_commands.proofs.LeftAlone.{report_left}
use Rattle.form_commands.proofs.run.report_by.Goals as goal

pub returns-in-Ok-clause-answers : goal.returns-in-Ok-clause-answers
returns-in-Ok-clause-answers g c = (Ok c.in-Ok.counts, c.in-Ok.ensures.reports, ap (λ (v : Verdict). Ok v) c.verdict_of.ensures)

pub returns-in-Err-clause-answers : goal.returns-in-Err-clause-answers
returns-in-Err-clause-answers g c = (Err c.in-Err.fault, c.in-Err.ensures.reports, ap (λ (e : FormsError). Err e) c.from.ensures)

pub returns-in-Err-clause-writes_nothing : goal.returns-in-Err-clause-writes_nothing
returns-in-Err-clause-writes_nothing g c =
    report_left _ c.in-Err.fault c.from.result c.from.ensures c.in-Err.ensures.writes_nothing
