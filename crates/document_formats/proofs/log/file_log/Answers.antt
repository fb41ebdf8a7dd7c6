use Rattle.document_formats.proofs.log.file_log.Goals as goal

pub returns : goal.returns
returns c = rw (c.in_ok-rules.ensures.values, c.in_ok-results.ensures.values, c.findings.ensures) at c.log_text.ensures
