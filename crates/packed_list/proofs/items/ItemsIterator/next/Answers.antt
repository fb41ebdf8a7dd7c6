use Rattle.std.specs.Iterator.{YieldsFirstRef}
use Rattle.std.specs.List.{slice_range}
use Rattle.std.specs.Prelude.{Some}
use Rattle.std.proofs.Common.{arith, ◌+◌, drop, subst, sym, ap, ◌∙◌}
use Rattle.packed_list.proofs.ListPlaces.{end_behind, next_part, yields}
use Rattle.packed_list.proofs.items.ItemsIterator.next.Goals as goal

pub part-item-requires-clause-order : goal.part-item-requires-clause-order
part-item-requires-clause-order c =
    (next_part c.self.inside.list c.self.inside.next c.self.inside.start c.end_in-end.result
    (omega (arith, c.self.invariant.count)) c.self.invariant.start c.end_in-end.ensures).below

pub part-item-requires-clause-within : goal.part-item-requires-clause-within
part-item-requires-clause-within c =
    let part = next_part c.self.inside.list c.self.inside.next c.self.inside.start c.end_in-end.result
    (omega (arith, c.self.invariant.count)) c.self.invariant.start c.end_in-end.ensures in
    rw c.self.invariant.content part.within

pub invariant_of-self : goal.invariant_of-self
invariant_of-self c = record {
  within = omega (arith, c.self.invariant.count);
  count = c.self.invariant.count;
  content = c.self.invariant.content;
  start = end_behind c.self.inside.list c.self.inside.next c.end_in-end.result
      (omega (arith, c.self.invariant.count)) c.end_in-end.ensures;
}

pub returns-clause-steps : goal.returns-clause-steps
returns-clause-steps c =
    let items = c.self.inside.list in
    let k = c.self.inside.next in
    let part = next_part items k c.self.inside.start c.end_in-end.result
    (omega (arith, c.self.invariant.count)) c.self.invariant.start c.end_in-end.ensures in
    let same = ap Some (c.part-item.ensures
    ∙ ap (λ bytes. slice_range bytes c.self.inside.start c.end_in-end.result) c.self.invariant.content) ∙ sym part.item in
    subst (λ rest. YieldsFirstRef (λ items. items) rest (Some c.part-item.result) (drop (k + 1) items)) c.self.view_is
    (yields items k (Some c.part-item.result) (omega (arith, c.self.invariant.count)) same)
