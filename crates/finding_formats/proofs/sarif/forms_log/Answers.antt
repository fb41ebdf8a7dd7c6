use Rattle.finding_formats.proofs.sarif.forms_log.Goals as goal

pub returns : goal.returns
returns c = rw c.in_ok-rules.ensures.values at c.log_text.ensures
