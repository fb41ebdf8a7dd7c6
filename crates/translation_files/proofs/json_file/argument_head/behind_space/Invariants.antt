use Rattle.std.proofs.Common.{length}
use Rattle.translation_files.proofs.json_file.argument_head.behind_space.Given as goal

abbrev pub decreases-loop-rest : goal.decreases-loop-rest
decreases-loop-rest l = length l.rest
