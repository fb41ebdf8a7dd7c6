use Rattle.std.proofs.Common.{sym, arith}
use Rattle.packed_pattern.proofs.PartPlaceNumbers.{no_number, number_there}
use Rattle.packed_pattern.proofs.placed.number_at.Goals as goal

pub returns-then-index-content-clause-number : goal.returns-then-index-content-clause-number
returns-then-index-content-clause-number c = λ count h.
    let there = number_there count c.args.index c.args.content.now h (omega arith) in
    cc

pub returns-else-index-content-clause-number : goal.returns-else-index-content-clause-number
returns-else-index-content-clause-number c = λ count h. sym (no_number count c.args.index c.args.content.now (omega arith))
