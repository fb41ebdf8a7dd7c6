use Rattle.std.proofs.Common.{◌≡◌, ◌++◌, List, ℕ, Some, drop}
use Rattle.plural_documents.specs.Inner.WaitingSteps.{IsWaiting}
use Rattle.plural_documents.specs.PrintedKeys.{ended_line}
use Rattle.plural_documents.proofs.written_lines.print_line.Given as goal

-- the line's bytes before the start were written, or wait
abbrev pub invariant-loop : goal.invariant-loop
invariant-loop g l =
    (text : List ℕ) → g.T.Display.output l.line ≡ Some text → (printed : List ℕ) × (ended_line text ≡ printed ++ drop l.start
    (ended_line text))
    × IsWaiting (g.W.Write.contents l.initial.writer) (g.W.Write.contents l.writer) l.waiting.bytes.items
    (l.initial.waiting.bytes.items ++ printed)
