use Rattle.std.proofs.Common.{◌≡◌, ◌∙◌, ◌+◌, ◌<◌, arith, drop, length, sym, ap}
use Rattle.packed_pattern.specs.PatternBlocks.{first_item_fault, or_block_fault}
use Rattle.packed_pattern.proofs.BlockItems.{first_fault_step, item_there, or_fault_some, or_fault_none}
use Rattle.packed_pattern.proofs.block.first_fault_of.Goals as goal

pub returns-then-is_some : goal.returns-then-is_some
returns-then-is_some c =
    let items = c.args.list.now in
    let place = c.loop-place.place in
    let here : place < length items = omega (arith, c.len-place-end.ensures) in
    let others = first_item_fault (place + 1) (drop (place + 1) items) in
    let step : or_block_fault c.fault_at-fault.result others ≡ first_item_fault 0 items =
    ap (λ f. or_block_fault f others) (c.fault_at-fault.ensures _ (item_there items place here)) ∙ sym (first_fault_step items place here)
    ∙ c.loop-place.invariant in
    sym (or_fault_some c.fault_at-fault.result others (sym c.if-is_some.ensures)) ∙ step

pub loop-place-preserved : goal.loop-place-preserved
loop-place-preserved c =
    let items = c.args.list.now in
    let place = c.loop-place.place in
    let here : place < length items = omega (arith, c.len-place-end.ensures) in
    let others = first_item_fault (place + 1) (drop (place + 1) items) in
    let step : or_block_fault c.fault_at-fault.result others ≡ first_item_fault 0 items =
    ap (λ f. or_block_fault f others) (c.fault_at-fault.ensures _ (item_there items place here)) ∙ sym (first_fault_step items place here)
    ∙ c.loop-place.invariant in
    sym (or_fault_none c.fault_at-fault.result others (sym c.if-is_some.ensures)) ∙ step
