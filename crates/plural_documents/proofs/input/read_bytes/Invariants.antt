use Rattle.std.proofs.Common.{◌≤◌, vec_len}
use Rattle.std.specs.Io.KnownBytes.{Consumes}
use Rattle.plural_documents.specs.declared.input.TheConstants.{MOST_BYTES}
use Rattle.plural_documents.proofs.input.read_bytes.Given as goal

-- what was read so far isn't too long
abbrev pub invariant-loop : goal.invariant-loop
invariant-loop g l =
    (vec_len l.bytes ≤ MOST_BYTES)
    × Consumes (g.R.Read.remaining l.initial.reader) (g.R.Read.remaining l.reader) l.bytes.items
