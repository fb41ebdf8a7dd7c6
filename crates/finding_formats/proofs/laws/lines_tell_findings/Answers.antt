use Rattle.finding_formats.proofs.ObjectLemmas as objects
use Rattle.finding_formats.proofs.laws.lines_tell_findings.Goals as goal

pub returns : goal.returns
returns c = objects.lines_tell_findings
