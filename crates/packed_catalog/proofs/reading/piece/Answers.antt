use Rattle.std.proofs.Common.{arith, ◌+◌, ◌≡◌, suc, ap, length}
use Rattle.packed_catalog.specs.CatalogFaults.{start_of}
use Rattle.packed_catalog.proofs.BlockBytes.{starts_within}
use Rattle.packed_catalog.proofs.reading.piece.Goals as goal

pub slice_bounds-result-end : goal.slice_bounds-result-end
slice_bounds-result-end c =
    let bytes = c.args.bytes.now in
    let k = c.args.k in
    let e : k + 1 ≡ suc k = omega arith in
    let within = starts_within bytes c.requires.ends (suc k) (omega (arith, c.requires.within)) in
    omega (arith, c.start_of-2.ensures, ap (start_of bytes) e, within, ap length c.requires.content)
