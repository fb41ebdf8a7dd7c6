use Rattle.finding_formats.proofs.LocatedLemmas as told
use Rattle.finding_formats.proofs.laws.lines_tell_located.Goals as goal

pub returns : goal.returns
returns c = told.lines_tell_located
