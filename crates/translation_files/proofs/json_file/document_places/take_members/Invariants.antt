use Rattle.std.proofs.Common.{length}
use Rattle.translation_files.proofs.json_file.document_places.take_members.Given as goal

abbrev pub decreases-loop-member : goal.decreases-loop-member
decreases-loop-member l = length l.members
