use Rattle.std.proofs.Common.{◌≡◌, ◌++◌, drop, false, map}
use Rattle.serde_json.specs.View.{items_of, view}
use Rattle.serde_json.specs.Written.{items_have_float}
use Rattle.finding_formats.proofs.log.values_of.Given as goal

-- the values so far, none with a float, and then those of the remaining things
abbrev pub invariant-loop-thing : goal.invariant-loop-thing
invariant-loop-thing g l =
    (map view l.values.items ++ map (g.M.ValueMaker.data_of l.maker) (map g.M.ValueMaker.seen (drop l.thing-index l.things))
    ≡ map (g.M.ValueMaker.data_of l.maker) (map g.M.ValueMaker.seen l.things))
    × (items_have_float (items_of (map view l.values.items)) ≡ false)
