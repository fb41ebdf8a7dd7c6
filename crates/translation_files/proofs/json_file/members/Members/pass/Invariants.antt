use Rattle.std.proofs.Common.{◌≤◌, length}
use Rattle.translation_files.proofs.json_file.members.Members.pass.Given as goal

abbrev pub invariant-loop-token : goal.invariant-loop-token
invariant-loop-token l = length l.self-inside.reader ≤ length l.initial.self-inside.reader

abbrev pub decreases-loop-token : goal.decreases-loop-token
decreases-loop-token l = length l.self-inside.reader
