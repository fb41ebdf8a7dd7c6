use Rattle.std.proofs.Common.{◌≡◌, ℕ, List, ◌++◌}
use Rattle.std.specs.Io.KnownBytes.{Appends}
use Rattle.plural_documents.proofs.output.write_output.Given as goal

-- what is no longer in `rest` was taken by the writer
abbrev pub invariant-loop : goal.invariant-loop
invariant-loop g l =
    (taken : List ℕ) × (l.initial.rest ≡ taken ++ l.rest)
    × Appends (g.W.Write.contents l.initial.writer) (g.W.Write.contents l.writer) taken
