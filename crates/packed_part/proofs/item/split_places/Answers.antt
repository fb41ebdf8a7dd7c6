use Rattle.std.proofs.lemmas.List.{take_min, drop_min}
use Rattle.packed_part.specs.Inner.PartReading.{place_room}
use Rattle.packed_part.proofs.item.split_places.Goals as goal

pub returns-clause-places : goal.returns-clause-places
returns-clause-places c =
    let room = take_min (place_room c.args.tag) c.args.content.now in
    cc

pub returns-clause-own : goal.returns-clause-own
returns-clause-own c =
    let room = drop_min (place_room c.args.tag) c.args.content.now in
    cc
