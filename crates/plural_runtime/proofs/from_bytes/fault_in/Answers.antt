use Rattle.std.proofs.Common.{arith, true, ◌≡◌, ◌∙◌, sym, ap, subst, None}
use Rattle.std.specs.Prelude.{Err}
use Rattle.std.specs.List.{AllByRecursion, list_all}
use Rattle.packed_list.specs.ListBytes.{ListBytes}
use Rattle.packed_list.specs.Inner.ListReading.{AreBytes}
use Rattle.plural_runtime.specs.PackedRelations.{first_relation_fault, is_relation}
use Rattle.plural_runtime.proofs.bytes.RuleFaults.{list_refused, item_refused}
use Rattle.plural_runtime.proofs.bytes.RuleItems.{is_rule, items_pass}
use Rattle.plural_runtime.proofs.from_bytes.fault_in.Goals as goal

pub first_fault_of-requires : goal.first_fault_of-requires
first_fault_of-requires c = c.in-Ok.ensures.ok.can_pack.count

pub returns-in-Err : goal.returns-in-Err
returns-in-Err c = λ fault. list_refused c.args.bytes.now c.in-Err.fault
    (λ items list. let e = c.in-Err.ensures.accepted items list in cc)
    (λ other. (
      (λ h. (c.in-Err.ensures.refused other).0 (ap Err h)),
      (λ h. let e = (c.in-Err.ensures.refused other).1 h in cc),
    )) fault

pub unreachable-requires : goal.unreachable-requires
unreachable-requires c =
    let bytes = c.args.bytes.now in
    let list = c.in-Ok.ensures.ok in
    let same = sym (c.read_again.ensures c.in-Ok.list bytes list) in
    let none : first_relation_fault 0 c.in-Ok.list ≡ None = sym c.first_fault_of.ensures ∙ c.in-None.is in
    c.requires _ (is_rule bytes
    (subst (λ items. ListBytes items bytes) same list)
    (subst (AllByRecursion AreBytes) same (c.item_bytes.ensures c.in-Ok.list bytes list (λ i. omega (arith, c.type_inv.bytes i))))
    (subst (λ items. list_all is_relation items ≡ true) same (items_pass 0 c.in-Ok.list none)))

pub returns : goal.returns
returns c = λ fault. item_refused c.args.bytes.now c.in-Ok.list c.in-Some.fault c.in-Ok.ensures.ok
    (sym c.first_fault_of.ensures ∙ c.in-Some.is)
    (λ others list. let e = c.in-Ok.ensures.accepted others list in let same : others ≡ c.in-Ok.list = cc in same)
    (λ other h. let e = (c.in-Ok.ensures.refused other).1 h in cc) fault
