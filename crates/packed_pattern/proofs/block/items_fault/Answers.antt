use Rattle.std.proofs.Common.{◌∙◌, ap, map, refl, sym, arith}
use Rattle.std.proofs.lemmas.List.{length-map}
use Rattle.packed_pattern.specs.PatternBlocks.{items_fault}
use Rattle.packed_part.specs.Inner.PartReading.{part_in}
use Rattle.packed_pattern.proofs.BlockItems.{are_items, no_items_fault}
use Rattle.packed_pattern.proofs.block.items_fault.Goals as goal

pub first_misplaced-requires : goal.first_misplaced-requires
first_misplaced-requires c κs = (
  (refl, tt),
  (
    omega (arith, length-map c.args.list.now part_in),
    (are_items 0 c.args.list.now (sym c.first_fault_of.ensures ∙ c.in_default.is)).packable,
  ),
)

pub returns-then-is_block : goal.returns-then-is_block
returns-then-is_block c =
    let block = c.is_block.ensures c.if-is_block.true in
    sym (ap items_fault (sym block.packed) ∙ no_items_fault (map part_in c.args.list.now) block.packable block.nested)
