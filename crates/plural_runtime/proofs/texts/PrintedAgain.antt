-- Rules that are packed from texts, printed and packed again.
use Rattle.std.proofs.Common.{◌≡◌, List, map, refl, sym, ap, ◌∙◌, subst, Bool, true, false}
use Rattle.std.specs.Prelude.{Ok}
use Rattle.packed_list.specs.ListBytes.{has_high_start}
use Rattle.plural_reference.specs.declared.ast.Condition.{Condition}
use Rattle.plural_reference.specs.PrintingLaws.{IsSpellable, ConditionsOfTextsAreSpellable, SpellableConditionsPrintBack}
use Rattle.plural_runtime.specs.PackedRelations.{PackedRelation, relation_bytes}
use Rattle.plural_runtime.specs.PackedTree.{packed, unpacked, has_large_value, packing}
use Rattle.plural_runtime.specs.RuleText.{PrintedRulesPackAgain}
use Rattle.plural_runtime.proofs.trees.PackedTrees.{packing-high, packing-ok}
use Rattle.plural_runtime.proofs.texts.SpellableTrees.{spellable_is_small, spellable_again}
use Rattle.plural_runtime.proofs.truth.TreeGroups.{packed-unpacked}

-- what packs has no high start, and is the tree's relations
packs_low : (condition : Condition) (relations : List PackedRelation) → has_large_value condition ≡ false
    → packing condition ≡ Ok relations → (has_high_start (map relation_bytes (packed condition)) ≡ false)
    × (relations ≡ packed condition)
packs_low condition relations small h = by (has_high_start (map relation_bytes (packed condition))) refl
  where
    by : (high : Bool) → has_high_start (map relation_bytes (packed condition)) ≡ high
        → (has_high_start (map relation_bytes (packed condition)) ≡ false) × (relations ≡ packed condition)
    by true e = let f = packing-high condition small e in cc
    by false e = let f = packing-ok condition small e in (e, cc)

-- a rule that is packed from a text is printed as a text that packs to the same rule
pub packs_again_when_printed : ConditionsOfTextsAreSpellable → SpellableConditionsPrintBack → PrintedRulesPackAgain
packs_again_when_printed of_texts print_back text rule relations h packs =
    let spellable = of_texts text rule.condition (h.0, h.1, (h.2.0, h.2.1)) in
    let low = packs_low rule.condition relations (spellable_is_small rule.condition spellable) packs in
    let tree_spellable : IsSpellable (unpacked relations) =
    subst (λ rs. IsSpellable (unpacked rs)) (sym low.1) (spellable_again rule.condition spellable) in
    let same : packed (unpacked relations) ≡ relations = packed-unpacked relations in
    let still_low : has_high_start (map relation_bytes (packed (unpacked relations))) ≡ false =
    ap (λ rs. has_high_start (map relation_bytes rs)) (same ∙ low.1) ∙ low.0 in (
      (print_back (unpacked relations) tree_spellable).1,
      packing-ok (unpacked relations) (spellable_is_small (unpacked relations) tree_spellable) still_low ∙ ap Ok same,
    )
