use Rattle.std.proofs.Common.{length}
use Rattle.translation_files.proofs.json_file.count_text.push_counts.Given as goal

abbrev pub decreases-loop-rest : goal.decreases-loop-rest
decreases-loop-rest l = length l.rest
