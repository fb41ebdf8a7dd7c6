use Rattle.std.proofs.Common.{arith, true, ◌≡◌, sym, subst}
use Rattle.std.specs.Prelude.{map}
use Rattle.std.specs.List.{AllByRecursion, list_all}
use Rattle.packed_list.specs.ListBytes.{ListBytes}
use Rattle.packed_list.specs.Inner.ListReading.{AreBytes}
use Rattle.plural_runtime.specs.PackedRelations.{is_relation, relation_bytes}
use Rattle.plural_runtime.proofs.bytes.RuleItems.{is_rule, packed_are_relations}
use Rattle.plural_runtime.proofs.from_bytes.is_rule.Goals as goal

pub returns-in-Some-clause-rule : goal.returns-in-Some-clause-rule
returns-in-Some-clause-rule c = λ _.
    let bytes = c.args.bytes.now in
    let list = c.in-Some.ensures.list in
    let same = sym (c.read_again.ensures c.in-Some.field-0 bytes list) in
    is_rule bytes
    (subst (λ items. ListBytes items bytes) same list)
    (subst (AllByRecursion AreBytes) same (c.item_bytes.ensures c.in-Some.field-0 bytes list (λ i. omega (arith, c.type_inv.bytes i))))
    (subst (λ items. list_all is_relation items ≡ true) same c.in-Some.ensures.pass)

pub returns-in-None-clause-other : goal.returns-in-None-clause-other
returns-in-None-clause-other c = λ _ relations h.
    let fails = c.in-None.ensures.none (map relation_bytes relations) h.packed in
    let pass = packed_are_relations relations in
    absurd cc
