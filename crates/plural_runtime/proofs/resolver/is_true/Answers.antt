use Rattle.std.proofs.Common.{◌≡◌, ◌∙◌, ◌∷◌, ap, refl, subst, sym, true, false, IsTrue, []}
use Rattle.std.specs.Fn.{iterate}
use Rattle.std.specs.List.{list_all}
use Rattle.plural_runtime.specs.Inner.RuleReading.{relation_in}
use Rattle.plural_runtime.specs.PackedRelations.{is_relation}
use Rattle.plural_runtime.specs.PackedTruth.{is_true_at, needed_of_relation}
use Rattle.plural_runtime.proofs.walks.WalkSteps.{is_done, none_is_left, reads_next_group, reads_on, relations_after, relations_behind}
use Rattle.plural_runtime.proofs.walks.WalkSteps.{walk_begins, walk_is_done, walk_is_none, walks_on}
use Rattle.plural_runtime.proofs.resolver.is_true.Goals as goal

pub relations-init : goal.relations-init
relations-init g c =
    let number = c.args.operands.now in
    let rule = c.args.rule.now in
    let items = c.list.result in
    let item = c.in-Some.cursor.item in
    let rest = c.in-Some.cursor.rest in
    let whole = c.in-Some.ensures in
    let mark = ap (λ item. (relation_in item).and_or) (sym c.item.ensures) ∙ sym c.and_or_at.ensures ∙ c.in-And.is in
    let parts = relations_behind items item rest whole c.list.ensures.items in
    record {
      item = parts.0;
      items = parts.1;
      walk = walk_begins g.C.Counter.after_one number rule items item rest c.args.counter.now c.list.ensures.relations
          (reads_on number items item rest whole mark);
    }

pub returns-in_default-clause-answer : goal.returns-in_default-clause-answer
returns-in_default-clause-answer g c =
    let items = c.list.result in
    let none : items ≡ [] = c.in_default.ensures in
    (walk_is_none g.C.Counter.after_one c.args.operands.now c.args.rule.now items c.args.counter.now c.list.ensures.relations
    (is_done c.args.operands.now items (λ item rest e. cc))).tells

pub returns-in_default-clause-count : goal.returns-in_default-clause-count
returns-in_default-clause-count g c =
    let items = c.list.result in
    let none : items ≡ [] = c.in_default.ensures in
    (walk_is_none g.C.Counter.after_one c.args.operands.now c.args.rule.now items c.args.counter.now c.list.ensures.relations
    (is_done c.args.operands.now items (λ item rest e. cc))).counts

pub returns-in_default-and_or_at-clause-answer : goal.returns-in_default-and_or_at-clause-answer
returns-in_default-and_or_at-clause-answer g c =
    let items = c.list.result in
    let whole : items ≡ c.in-Some.cursor.item ∷ c.in-Some.cursor.rest = c.in-Some.ensures in
    let mark = ap (λ item. (relation_in item).and_or) (sym c.item.ensures) ∙ sym c.and_or_at.ensures ∙ c.in_default-and_or_at.is in
    (walk_is_none g.C.Counter.after_one c.args.operands.now c.args.rule.now items c.args.counter.now c.list.ensures.relations
    (is_done c.args.operands.now items (λ item rest e.
    let first : item ≡ c.in-Some.cursor.item = cc in ap (λ item. (relation_in item).and_or) first ∙ mark))).tells

pub returns-in_default-and_or_at-clause-count : goal.returns-in_default-and_or_at-clause-count
returns-in_default-and_or_at-clause-count g c =
    let items = c.list.result in
    let whole : items ≡ c.in-Some.cursor.item ∷ c.in-Some.cursor.rest = c.in-Some.ensures in
    let mark = ap (λ item. (relation_in item).and_or) (sym c.item.ensures) ∙ sym c.and_or_at.ensures ∙ c.in_default-and_or_at.is in
    (walk_is_none g.C.Counter.after_one c.args.operands.now c.args.rule.now items c.args.counter.now c.list.ensures.relations
    (is_done c.args.operands.now items (λ item rest e.
    let first : item ≡ c.in-Some.cursor.item = cc in ap (λ item. (relation_in item).and_or) first ∙ mark))).counts

pub returns-then-not-next_of_group-clause-answer : goal.returns-then-not-next_of_group-clause-answer
returns-then-not-next_of_group-clause-answer g c =
    let number = c.args.operands.now in
    let same = c.item-in-relations.ensures in
    let answer = c.if-relation_holds.ensures.answer ∙ ap (λ item. is_true_at number (relation_in item)) same in
    let count = c.relation_holds.ensures.count
    ∙ ap (λ item. iterate g.C.Counter.after_one (needed_of_relation number (relation_in item).meaning) c.relations.counter) same in
    (walk_is_done g.C.Counter.after_one number c.relations.cursor.item c.relations.cursor.rest c.relations.counter
    c.relation_holds.new.counter _ _ true c.relations.invariant.walk answer count
    (is_done number c.relations.cursor.rest (c.if-not-next_of_group.ensures.none refl))).tells

pub returns-then-not-next_of_group-clause-count : goal.returns-then-not-next_of_group-clause-count
returns-then-not-next_of_group-clause-count g c =
    let number = c.args.operands.now in
    let same = c.item-in-relations.ensures in
    let answer = c.if-relation_holds.ensures.answer ∙ ap (λ item. is_true_at number (relation_in item)) same in
    let count = c.relation_holds.ensures.count
    ∙ ap (λ item. iterate g.C.Counter.after_one (needed_of_relation number (relation_in item).meaning) c.relations.counter) same in
    (walk_is_done g.C.Counter.after_one number c.relations.cursor.item c.relations.cursor.rest c.relations.counter
    c.relation_holds.new.counter _ _ true c.relations.invariant.walk answer count
    (is_done number c.relations.cursor.rest (c.if-not-next_of_group.ensures.none refl))).counts

pub relations-preserved-else-not-next_of_group : goal.relations-preserved-else-not-next_of_group
relations-preserved-else-not-next_of_group g c =
    let number = c.args.operands.now in
    let items = c.relations.cursor.rest in
    let next = c.next_of_group.new.cursor.item in
    let rest = c.next_of_group.new.cursor.rest in
    let found = c.if-not-next_of_group.ensures.found refl in
    let same = c.item-in-relations.ensures in
    let answer = c.if-relation_holds.ensures.answer ∙ ap (λ item. is_true_at number (relation_in item)) same in
    let count = c.relation_holds.ensures.count
    ∙ ap (λ item. iterate g.C.Counter.after_one (needed_of_relation number (relation_in item).meaning) c.relations.counter) same in
    let parts = relations_behind items next rest found.0 c.relations.invariant.items in
    record {
      item = parts.0;
      items = parts.1;
      walk = walks_on g.C.Counter.after_one number c.relations.cursor.item items next rest c.relations.counter
          c.relation_holds.new.counter _ _ true c.relations.invariant.walk answer count
          (reads_on number items next rest found.0 found.1);
    }

pub returns-then-not-first_of_next_group-clause-answer : goal.returns-then-not-first_of_next_group-clause-answer
returns-then-not-first_of_next_group-clause-answer g c =
    let number = c.args.operands.now in
    let same = c.item-in-relations.ensures in
    let answer = c.if-relation_holds.ensures.answer ∙ ap (λ item. is_true_at number (relation_in item)) same in
    let count = c.relation_holds.ensures.count
    ∙ ap (λ item. iterate g.C.Counter.after_one (needed_of_relation number (relation_in item).meaning) c.relations.counter) same in
    (walk_is_done g.C.Counter.after_one number c.relations.cursor.item c.relations.cursor.rest c.relations.counter
    c.relation_holds.new.counter _ _ false c.relations.invariant.walk answer count
    (none_is_left number c.relations.cursor.rest (c.if-not-first_of_next_group.ensures.none refl))).tells

pub returns-then-not-first_of_next_group-clause-count : goal.returns-then-not-first_of_next_group-clause-count
returns-then-not-first_of_next_group-clause-count g c =
    let number = c.args.operands.now in
    let same = c.item-in-relations.ensures in
    let answer = c.if-relation_holds.ensures.answer ∙ ap (λ item. is_true_at number (relation_in item)) same in
    let count = c.relation_holds.ensures.count
    ∙ ap (λ item. iterate g.C.Counter.after_one (needed_of_relation number (relation_in item).meaning) c.relations.counter) same in
    (walk_is_done g.C.Counter.after_one number c.relations.cursor.item c.relations.cursor.rest c.relations.counter
    c.relation_holds.new.counter _ _ false c.relations.invariant.walk answer count
    (none_is_left number c.relations.cursor.rest (c.if-not-first_of_next_group.ensures.none refl))).counts

pub relations-preserved : goal.relations-preserved
relations-preserved g c =
    let number = c.args.operands.now in
    let items = c.relations.cursor.rest in
    let next = c.first_of_next_group.new.cursor.item in
    let rest = c.first_of_next_group.new.cursor.rest in
    let found = c.if-not-first_of_next_group.ensures.found refl in
    let same = c.item-in-relations.ensures in
    let answer = c.if-relation_holds.ensures.answer ∙ ap (λ item. is_true_at number (relation_in item)) same in
    let count = c.relation_holds.ensures.count
    ∙ ap (λ item. iterate g.C.Counter.after_one (needed_of_relation number (relation_in item).meaning) c.relations.counter) same in
    let left = relations_after found.0 (next ∷ rest) (subst (λ l. IsTrue (list_all is_relation l)) found.2 c.relations.invariant.items) in
    let parts = relations_behind (next ∷ rest) next rest refl left in
    record {
      item = parts.0;
      items = parts.1;
      walk = walks_on g.C.Counter.after_one number c.relations.cursor.item items next rest c.relations.counter
          c.relation_holds.new.counter _ _ false c.relations.invariant.walk answer count
          (reads_next_group number items found.0 next rest found.1 found.2 found.3);
    }
