use Rattle.document_formats.proofs.noted_log.noted_log.Goals as goal

pub returns : goal.returns
returns c = rw (c.in_ok-rules.ensures.values, c.in_ok-results.ensures.values) at c.log_text.ensures
