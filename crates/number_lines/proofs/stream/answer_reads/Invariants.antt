use Rattle.std.proofs.Common.{◌≡◌, ℕ, List}
use Rattle.std.specs.Io.KnownBytes.{Appends, Consumes}
use Rattle.number_lines.specs.Inner.StreamSteps.{IsWrittenAfter}
use Rattle.number_lines.proofs.stream.answer_reads.Given as goal

-- the answers to the lines that have ended are written, and these rules are asked
abbrev pub invariant-loop : goal.invariant-loop
invariant-loop g l =
    (bytes text : List ℕ) × Consumes (g.N.Read.remaining l.initial.numbers) (g.N.Read.remaining l.numbers) bytes
    × Appends (g.W.Write.contents l.initial.writer) (g.W.Write.contents l.writer) text × IsWrittenAfter l.initial.asked bytes text l.lines
    × (l.asked ≡ l.initial.asked)
