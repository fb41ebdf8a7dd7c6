use Rattle.std.proofs.Common.{◌∙◌, sym, ap, true, false}
use Rattle.std.specs.Fn.{iterate}
use Rattle.plural_runtime.specs.Inner.RuleReading.{ranges_in}
use Rattle.plural_runtime.proofs.counting.Counts.{step_left}
use Rattle.plural_runtime.proofs.counting.NeededGroups.{needed_from, needed_of_list-is}
use Rattle.plural_runtime.proofs.counting.RangeSteps.{range_step, nothing_needed, none_holds, whole_rest}
use Rattle.plural_runtime.proofs.resolver.any_holds.Goals as goal

pub returns-then-holds-clause-count : goal.returns-then-holds-clause-count
returns-then-holds-clause-count g c =
    let after_one = g.C.Counter.after_one in
    let split = c.split_at.ensures in
    let step =
    range_step c.args.value c.loop-others.rest.now c.split_at.result.0.now c.split_at.result.1.now true c.loop-others.invariant.some
    split.front split.back c.if-holds.ensures.answer in
    step_left after_one 0 _ c.loop-others.counter c.holds.new.counter step.needed c.holds.ensures.count
    ∙ c.loop-others.invariant.count
    ∙ ap (λ n. iterate after_one n c.args.counter.now) (sym (needed_of_list-is c.args.value (ranges_in c.args.ranges.now)))

pub returns-then-is_empty-2-clause-answer : goal.returns-then-is_empty-2-clause-answer
returns-then-is_empty-2-clause-answer g c =
    let split = c.split_at.ensures in
    let rest =
    whole_rest c.loop-others.rest.now c.split_at.result.1.now c.loop-others.invariant.whole c.loop-others.invariant.some split.back in
    let step =
    range_step c.args.value c.loop-others.rest.now c.split_at.result.0.now c.split_at.result.1.now false c.loop-others.invariant.some
    split.front split.back c.if-holds.ensures.answer in
    sym (none_holds c.args.value c.split_at.result.1.now (rest.short (sym c.if-is_empty-2.ensures))) ∙ sym step.any
    ∙ c.loop-others.invariant.left

pub returns-then-is_empty-2-clause-count : goal.returns-then-is_empty-2-clause-count
returns-then-is_empty-2-clause-count g c =
    let after_one = g.C.Counter.after_one in
    let split = c.split_at.ensures in
    let rest =
    whole_rest c.loop-others.rest.now c.split_at.result.1.now c.loop-others.invariant.whole c.loop-others.invariant.some split.back in
    let step =
    range_step c.args.value c.loop-others.rest.now c.split_at.result.0.now c.split_at.result.1.now false c.loop-others.invariant.some
    split.front split.back c.if-holds.ensures.answer in
    ap (λ n. iterate after_one n c.holds.new.counter)
    (sym (nothing_needed c.args.value c.split_at.result.1.now (rest.short (sym c.if-is_empty-2.ensures))))
    ∙ step_left after_one (needed_from c.args.value (ranges_in c.split_at.result.1.now)) _ c.loop-others.counter
    c.holds.new.counter step.needed c.holds.ensures.count
    ∙ c.loop-others.invariant.count
    ∙ ap (λ n. iterate after_one n c.args.counter.now) (sym (needed_of_list-is c.args.value (ranges_in c.args.ranges.now)))

pub loop-others-preserved : goal.loop-others-preserved
loop-others-preserved g c =
    let after_one = g.C.Counter.after_one in
    let split = c.split_at.ensures in
    let rest =
    whole_rest c.loop-others.rest.now c.split_at.result.1.now c.loop-others.invariant.whole c.loop-others.invariant.some split.back in
    let step =
    range_step c.args.value c.loop-others.rest.now c.split_at.result.0.now c.split_at.result.1.now false c.loop-others.invariant.some
    split.front split.back c.if-holds.ensures.answer in
    record {
      whole = rest.whole;
      some = rest.some (sym c.if-is_empty-2.ensures);
      left = sym step.any ∙ c.loop-others.invariant.left;
      count = step_left after_one (needed_from c.args.value (ranges_in c.split_at.result.1.now)) _ c.loop-others.counter
          c.holds.new.counter step.needed c.holds.ensures.count
          ∙ c.loop-others.invariant.count;
    }
