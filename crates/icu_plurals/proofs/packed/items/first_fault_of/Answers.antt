use Rattle.std.proofs.Common.{◌≡◌, ◌∷◌, ◌∙◌, arith, ap, length, sym}
use Rattle.icu_plurals.proofs.ElementsOneFault.{found_behind, found_here}
use Rattle.icu_plurals.proofs.packed.items.first_fault_of.Goals as goal

pub returns-then-is_some : goal.returns-then-is_some
returns-then-is_some c =
    let left : c.loop-index.item-iterator ≡ c.in-Some.item.now ∷ c.next.new.self = c.in-Some.ensures.steps in
    sym (found_here c.loop-index.index c.loop-index.item-iterator c.in-Some.item.now c.next.new.self c.fault_of-fault.result left
    c.fault_of-fault.ensures (sym c.if-is_some.ensures))
    ∙ c.loop-index.invariant.first

pub loop-index-preserved : goal.loop-index-preserved
loop-index-preserved c =
    let left : c.loop-index.item-iterator ≡ c.in-Some.item.now ∷ c.next.new.self = c.in-Some.ensures.steps in record {
      first =
          sym (found_behind c.loop-index.index c.loop-index.item-iterator c.in-Some.item.now c.next.new.self
          c.fault_of-fault.result left c.fault_of-fault.ensures (sym c.if-is_some.ensures))
          ∙ c.loop-index.invariant.first;
      counted = omega (arith, ap length left, c.loop-index.invariant.counted);
    }
