use Rattle.std.proofs.Common.{◌≡◌, ◌++◌, List, ℕ, Some, drop}
use Rattle.plural_documents.specs.Inner.WaitingSteps.{IsWaiting}
use Rattle.plural_documents.specs.WrittenLines.{shown_lines}
use Rattle.plural_documents.proofs.written_lines.print_lines.Given as goal

-- the lines so far were written, or wait
abbrev pub invariant-loop-thing : goal.invariant-loop-thing
invariant-loop-thing g l =
    (line_of : g.row.T.Denot → List ℕ) → ((thing : g.row.T.Denot) → g.T.Display.output thing ≡ Some (line_of thing)) → (text : List ℕ)
    × (text ++ shown_lines line_of (drop l.thing-index l.things) ≡ l.initial.waiting.bytes.items ++ shown_lines line_of l.things)
    × IsWaiting (g.W.Write.contents l.initial.writer) (g.W.Write.contents l.writer) l.waiting.bytes.items text
