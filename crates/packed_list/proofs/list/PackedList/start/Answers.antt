use Rattle.std.proofs.lemmas.Option.{slice_get_past}
use Rattle.packed_list.specs.ListBytes.{item_starts}
use Rattle.std.proofs.Common.{arith, sym}
use Rattle.packed_list.proofs.ListPlaces.{length-item_starts}
use Rattle.packed_list.proofs.list.PackedList.start.Goals as goal

pub returns-then-index-len : goal.returns-then-index-len
returns-then-index-len c = sym
    (slice_get_past (item_starts c.args.self.now) c.args.index (omega (arith, length-item_starts c.args.self.now)))
