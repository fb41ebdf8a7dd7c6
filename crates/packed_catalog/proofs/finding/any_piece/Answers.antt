use Rattle.std.proofs.Common.{arith, ◌+◌, ◌*◌, ◌≡◌, suc, ap, length}
use Rattle.packed_catalog.specs.CatalogFaults.{count_in, start_of}
use Rattle.packed_catalog.proofs.BlockBytes.{starts_within}
use Rattle.packed_catalog.proofs.StandingPieces.{nothing_stands, range_stands}
use Rattle.packed_catalog.proofs.finding.any_piece.Goals as goal
use Rattle.packed_catalog.proofs.finding.any_piece.Goals.{then-start-end-via-then-start-end}
use Rattle.packed_catalog.proofs.finding.any_piece.Goals.{then-start-end-via-else-start-end+then-end-content}

pub returns-then-start-end-clause-piece : goal.returns-then-start-end-clause-piece
returns-then-start-end-clause-piece c = λ ends.
    let bytes = c.args.bytes.now in
    let k = c.args.k in
    let e : k + 1 ≡ suc k = omega arith in
    let end = ap (start_of bytes) e in
    let within = starts_within bytes ends (suc k) (omega (arith, c.requires.within)) in
    let rises = ends.rises k c.requires.within in
    elim c.then-start-end.branch [
      | then-start-end-via-then-start-end w ↦ absurd
          (omega (arith, w.if-start-end.true, c.start_of-start.ensures, c.start_of-end.ensures, end, rises))
      | then-start-end-via-else-start-end+then-end-content w ↦
          absurd (omega (arith, w.if-end-content.true, c.start_of-end.ensures, end, within, ap length c.requires.content))
    ]

pub returns-then-start-end-clause-stands : goal.returns-then-start-end-clause-stands
returns-then-start-end-clause-stands c = nothing_stands c.args.bytes.now

pub returns-clause-stands : goal.returns-clause-stands
returns-clause-stands c =
    let bytes = c.args.bytes.now in
    range_stands bytes c.args.content.now (4 + 8 * count_in bytes) c.start_of-start.result c.start_of-end.result c.requires.content
    (omega arith)
