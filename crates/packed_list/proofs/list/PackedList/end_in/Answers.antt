use Rattle.std.proofs.lemmas.Option.{slice_get_past}
use Rattle.packed_list.specs.ListBytes.{item_starts}
use Rattle.std.proofs.Common.{rules, arith, ◌+◌, ◌≤◌, length}
use Rattle.packed_list.proofs.ListPlaces.{length-item_starts}
use Rattle.packed_list.proofs.list.PackedList.end_in.Goals as goal

pub returns-else-index-count : goal.returns-else-index-count
returns-else-index-count c =
    let past : length (item_starts c.args.self.now) ≤ c.args.index + 1 = omega (arith, length-item_starts c.args.self.now) in
    rw (slice_get_past (item_starts c.args.self.now) (c.args.index + 1) past) (search rules)
