use Rattle.std.proofs.Common.{arith, ap, sym, ◌∙◌, Some}
use Rattle.std.specs.Prelude.{option_map}
use Rattle.plural_runtime.specs.RuleKinds.{range_or_value}
use Rattle.plural_runtime.specs.Inner.RuleReading.{ranges_in}
use Rattle.std.proofs.lemmas.Option.{slice_get_past}
use Rattle.plural_runtime.proofs.bytes.ItemRanges.{length-ranges_in, slice_get-ranges_in}
use Rattle.plural_runtime.proofs.relation.Relation.range.Goals as goal

pub range_at-requires : goal.range_at-requires
range_at-requires c = omega (arith, length-ranges_in c.args.self.now.ranges.now, c.len.ensures)

pub returns-then-index-len : goal.returns-then-index-len
returns-then-index-len c =
    let bytes = c.args.self.now.ranges.now in
    let inside = slice_get-ranges_in bytes c.args.index (omega (arith, length-ranges_in bytes, c.len.ensures, c.if-index-len.true)) in
    ap Some c.range_at.ensures ∙ sym (ap (option_map range_or_value) inside)

pub returns-else-index-len : goal.returns-else-index-len
returns-else-index-len c = sym
    (ap (option_map range_or_value) (slice_get_past (ranges_in c.args.self.now.ranges.now) c.args.index (omega (arith, c.len.ensures))))
