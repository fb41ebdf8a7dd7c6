use Rattle.std.proofs.Common.{◌≡◌, ◌∙◌, ◌+◌, arith, length, sym, ap}
use Rattle.plural_runtime.specs.PackedRelations.{first_relation_fault, or_else}
use Rattle.plural_runtime.proofs.bytes.RuleItems.{or_else_some, or_else_none}
use Rattle.plural_runtime.proofs.from_bytes.first_fault_of.Goals as goal

pub loop-place-init : goal.loop-place-init
loop-place-init c = record {
  count = omega (arith, ap length c.iter-item-items.ensures);
  left = ap (first_relation_fault 0) c.iter-item-items.ensures;
}

pub returns-then-is_some : goal.returns-then-is_some
returns-then-is_some c =
    let place = c.loop-place.place in
    let others = first_relation_fault (place + 1) c.next.new.self in
    let step : or_else c.fault_of-fault.result others ≡ first_relation_fault 0 c.args.list.now =
    ap (λ f. or_else f others) c.fault_of-fault.ensures ∙ ap (first_relation_fault place) (sym c.in-Some.ensures.steps)
    ∙ c.loop-place.invariant.left in
    sym (or_else_some c.fault_of-fault.result others (sym c.if-is_some.ensures)) ∙ step

pub loop-place-preserved : goal.loop-place-preserved
loop-place-preserved c =
    let place = c.loop-place.place in
    let others = first_relation_fault (place + 1) c.next.new.self in
    let step : or_else c.fault_of-fault.result others ≡ first_relation_fault 0 c.args.list.now =
    ap (λ f. or_else f others) c.fault_of-fault.ensures ∙ ap (first_relation_fault place) (sym c.in-Some.ensures.steps)
    ∙ c.loop-place.invariant.left in
    record {
      count = omega (arith, ap length c.in-Some.ensures.steps, c.loop-place.invariant.count);
      left = sym (or_else_none c.fault_of-fault.result others (sym c.if-is_some.ensures)) ∙ step;
    }

pub returns : goal.returns
returns c = ap (first_relation_fault c.loop-place.place) (sym c.in-None.ensures.steps.0) ∙ c.loop-place.invariant.left
