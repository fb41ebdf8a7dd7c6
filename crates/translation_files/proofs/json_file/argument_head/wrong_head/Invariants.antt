use Rattle.std.proofs.Common.{length}
use Rattle.translation_files.proofs.json_file.argument_head.wrong_head.Given as goal

abbrev pub decreases-loop-rest : goal.decreases-loop-rest
decreases-loop-rest l = length l.rest
