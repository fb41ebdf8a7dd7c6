use Rattle.std.proofs.Common.{◌∙◌, ◌++◌, ◌∷◌, [], arith, length, map, sym, ap, append_assoc, append-nil}
use Rattle.std.proofs.lemmas.List.{length-map}
use Rattle.plural_runtime.specs.RuleKinds.{item_of, range_or_value}
use Rattle.plural_runtime.specs.Inner.RuleViews.{lent_relation}
use Rattle.plural_runtime.proofs.truth.TreeGroups.{made_all}
use Rattle.plural_runtime.proofs.unpack.ranges_of.Goals as goal

pub loop-range-init : goal.loop-range-init
loop-range-init c =
    let ranges = (lent_relation c.args.relation.now).meaning.ranges in
    let all = c.into_iter-range-iterator.ensures.into_iter_gives ∙ c.ranges-range-items.ensures in
    let made = c.in_ok-items.ensures in
    record {
      room = omega (arith, made.len, made.exact, c.len.ensures, ap length all, length-map ranges range_or_value);
      made = ap (λ items. items ++ map item_of c.into_iter-range-iterator.result) made.items ∙ ap (map item_of) all ∙ made_all ranges;
    }

pub push_reserved-requires : goal.push_reserved-requires
push_reserved-requires c = omega (arith, ap length c.in-Some.ensures.steps, c.loop-range.invariant.room)

pub loop-range-preserved : goal.loop-range-preserved
loop-range-preserved c =
    let items = c.loop-range.items.items in
    let others = map item_of c.next.new.self in
    record {
      room = omega (
        arith,
        c.push_reserved.ensures.len,
        c.push_reserved.ensures.capacity,
        ap length c.in-Some.ensures.steps,
        c.loop-range.invariant.room,
      );
      made = ap (λ made. made ++ others) c.push_reserved.ensures.items ∙ append_assoc items (c.from.result ∷ []) others
          ∙ ap (λ item. items ++ item ∷ others) c.from.ensures ∙ ap (λ left. items ++ map item_of left) (sym c.in-Some.ensures.steps)
          ∙ c.loop-range.invariant.made;
    }

pub returns : goal.returns
returns c =
    let items = c.loop-range.items.items in
    sym (append-nil items) ∙ ap (λ left. items ++ map item_of left) (sym c.in-None.ensures.steps.0) ∙ c.loop-range.invariant.made
