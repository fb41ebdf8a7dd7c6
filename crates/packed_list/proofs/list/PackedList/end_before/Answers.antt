use Rattle.std.proofs.Common.{rules, arith, ◌/◌, ◌≤◌, length}
use Rattle.std.proofs.lemmas.Option.{slice_get_past}
use Rattle.packed_list.specs.ListBytes.{item_starts}
use Rattle.packed_list.proofs.ListPlaces.{length-item_starts}
use Rattle.packed_list.proofs.list.PackedList.end_before.Goals as goal

pub returns-then-place-header : goal.returns-then-place-header
returns-then-place-header c =
    let past : length (item_starts c.args.self.now) ≤ c.args.place / 2 =
    omega (arith, length-item_starts c.args.self.now, c.requires.even, c.requires.header, c.requires.within, c.if-place-header.true) in
    rw (slice_get_past (item_starts c.args.self.now) (c.args.place / 2) past) (search rules)
