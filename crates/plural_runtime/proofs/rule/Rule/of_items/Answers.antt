use Rattle.std.proofs.Common.{◌≡◌, ◌∙◌, List, ℕ, true, false, ap, sym, subst, inl, map}
use Rattle.std.specs.Prelude.{Ok}
use Rattle.packed_list.specs.ListBytes.{ListBytes, has_high_start}
use Rattle.plural_reference.specs.declared.ast.Condition.{Condition}
use Rattle.plural_runtime.specs.PackedTree.{packed, has_large_value}
use Rattle.plural_runtime.specs.PackedRelations.{RuleBytes, relation_bytes}
use Rattle.plural_runtime.proofs.trees.PackedTrees.{packing-high, packing-ok, small_tree}
use Rattle.plural_runtime.proofs.rule.Rule.of_items.Goals as goal

pub list_of-requires : goal.list_of-requires
list_of-requires g c = (packed c.requires.0, c.requires.2)

pub returns-in_default-clause-packs : goal.returns-in_default-clause-packs
returns-in_default-clause-packs g c condition small is =
    inl (sym (packing-high condition small (subst (λ items. has_high_start items ≡ true) is c.in_default.ensures.high)))

-- the bytes of a list of relations of a condition whose values fit
rule_bytes : (condition : Condition) (items : List (List ℕ)) (bytes : List ℕ) → has_large_value condition ≡ false
    → items ≡ map relation_bytes (packed condition) → ListBytes items bytes → RuleBytes (packed condition) bytes
rule_bytes condition items bytes small is list = record {
  fit = small_tree condition small;
  packed = subst (λ (items : List (List ℕ)). ListBytes items bytes) is list;
}

pub owned-requires : goal.owned-requires
owned-requires g c =
    let bytes = c.in-Ok.bytes.items in
    let condition = c.requires.0 in
    let here = rule_bytes condition _ bytes c.requires.1 (c.in-Some.ensures.ok ∙ c.requires.2) c.in-Ok.ensures in
    subst (λ relations. RuleBytes relations bytes) (sym (c.relations_read_again.ensures (packed condition) bytes here)) here

pub returns-in-Ok-clause-packs : goal.returns-in-Ok-clause-packs
returns-in-Ok-clause-packs g c condition small is =
    let bytes = c.in-Ok.bytes.items in
    let law = c.relations_read_again.ensures in
    let here = rule_bytes condition _ bytes small (c.in-Some.ensures.ok ∙ is) c.in-Ok.ensures in
    let same : c.owned.result ≡ packed condition = sym (law c.owned.result bytes c.owned.ensures) ∙ law (packed condition) bytes here in
    inl (ap Ok same ∙ sym (packing-ok condition small here.packed.can_pack.starts))
