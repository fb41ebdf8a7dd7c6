use Rattle.document_formats.proofs.ReadReports as reports
use Rattle.document_formats.proofs.laws.lines_tell_reports.Goals as goal

pub returns : goal.returns
returns c = reports.lines_tell_reports
