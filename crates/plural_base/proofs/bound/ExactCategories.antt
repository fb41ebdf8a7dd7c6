-- Within the bound the category is the one that the exact number has.
use Rattle.std.proofs.Common.{◌≡◌, ℕ, List, ◌++◌, flat_map, Bool, true, false, refl, sym, ap, subst, ◌∙◌, inl, Option, Some, None, Ok, Err}
use Rattle.std.specs.Prelude.{if◌then◌else◌}
use Rattle.std.proofs.lemmas.List.Elements.{Contains-append_left, Contains-append_right}
use Rattle.fixed_decimal.specs.Places.{Places}
use Rattle.plural_reference.specs.declared.ast.Condition.{Condition}
use Rattle.plural_reference.specs.declared.error.ParseError.TheVariants.{ValueTooLarge}
use Rattle.plural_reference.specs.Exactness.{exact_truth}
use Rattle.plural_reference.specs.ExactnessLaws.{ConditionsAgree, IsKept}
use Rattle.plural_operands.specs.Operands.{Operands}
use Rattle.plural_reference.specs.Lexer.{TextReads}
use Rattle.plural_reference.specs.Samples.{ReadsCondition}
use Rattle.plural_reference.specs.Truth.{groups_of}
use Rattle.plural_runtime.specs.declared.error.RuleError.TheVariants.{Parse, StartLimit}
use Rattle.plural_runtime.specs.PackedRelations.{PackedRelation}
use Rattle.plural_runtime.specs.PackedTree.{packed, has_large_value, packing}
use Rattle.plural_runtime.specs.PackedTruth.{packed_truth}
use Rattle.plural_runtime.specs.RuleOfText.{IsPackedFrom, TextsGiveOneAnswer}
use Rattle.plural_base.specs.declared.five.Five.{Five}
use Rattle.plural_base.specs.FiveRules.{FiveRules, Paired, passes, first_category, moduli_of_relation, moduli_of_rule, moduli_of}
use Rattle.plural_base.specs.RuleTexts.{IsRuleOf, AreRulesOf, AreReadAs}
use Rattle.plural_base.proofs.choice.Choice.{same_choice}
use Rattle.plural_base.proofs.bound.ConditionsAdmitted.{Covers, condition_admitted}
use Rattle.plural_base.proofs.bound.PackedConditions.{AreLaterFilled, packed_truth-packed, read_is_filled}

-- ---- What is packed

-- what is packed without a fault is the relations, and has no large value
packs : (large high : Bool) (relations rule : List PackedRelation)
    → (if large then Err (Parse ValueTooLarge) else (if high then Err StartLimit else Ok relations)) ≡ Ok rule
    → (rule ≡ relations) × (large ≡ false)
packs true high relations rule h = cc
packs false true relations rule h = cc
packs false false relations rule h = (cc, refl)

-- a condition that packs gives its relations, and has no value above 32 bits
pub packing-ok : (condition : Condition) (rule : List PackedRelation) → packing condition ≡ Ok rule
    → (rule ≡ packed condition) × (has_large_value condition ≡ false)
unfolding packing
packing-ok condition rule h = packs (has_large_value condition) _ (packed condition) rule h

-- ---- One rule

-- a condition that a text is read as has relations in all groups but the first
reads_filled : (text : List ℕ) (condition : Condition) → TextReads ReadsCondition text condition → AreLaterFilled (groups_of condition)
reads_filled text condition reads =
    let rule = reads.2.0 in
    let spelled = reads.2.1 in
    let P : Condition → Type 0 = λ c. AreLaterFilled (groups_of c) in
    subst P reads.2.2 (read_is_filled reads.0 rule.condition spelled.0 spelled.1)

-- the rule that a text gives is the packing of the condition that the text is read as
packed_from : TextsGiveOneAnswer → (text : List ℕ) (condition : Condition) (rule : List PackedRelation)
    → IsPackedFrom text (Ok rule) → TextReads ReadsCondition text condition → packing condition ≡ Ok rule
packed_from one_answer text condition rule gives reads =
    (one_answer text (packing condition)).0 (inl (condition, reads, refl)) ∙ sym ((one_answer text (Ok rule)).0 (inl gives))

-- a rule is true of the kept operands exactly if the condition of its text is true of the exact
-- ones
rule_alike : ConditionsAgree → TextsGiveOneAnswer → (x : Places) (e : ℕ) (moduli : List ℕ) (cut exact : Operands)
    → IsKept x e moduli cut exact → (text : Option (List ℕ)) (condition : Option Condition) (rule : Option (List PackedRelation))
    → IsRuleOf text rule → Paired (TextReads ReadsCondition) text condition → Covers moduli (moduli_of_rule rule)
    → passes (packed_truth cut) rule ≡ passes (exact_truth exact) condition
rule_alike agree one_answer x e moduli cut exact kept None None None gives read covers = refl
rule_alike agree one_answer x e moduli cut exact kept (Some text) (Some condition) (Some rule) gives read covers =
    let packs = packing-ok condition rule (packed_from one_answer text condition rule gives read) in
    let P : List PackedRelation → Type 0 = λ r. Covers moduli (flat_map moduli_of_relation r) in
    let covered : Covers moduli (flat_map moduli_of_relation (packed condition)) = subst P packs.0 covers in
    ap (packed_truth cut) packs.0
    ∙ packed_truth-packed cut condition (reads_filled text condition read)
    ∙ agree x e moduli cut exact condition kept (condition_admitted moduli condition packs.1 covered)
rule_alike agree one_answer x e moduli cut exact kept None None (Some rule) gives read covers = absurd gives
rule_alike agree one_answer x e moduli cut exact kept None (Some condition) rule gives read covers = absurd read
rule_alike agree one_answer x e moduli cut exact kept (Some text) None rule gives read covers = absurd read
rule_alike agree one_answer x e moduli cut exact kept (Some text) (Some condition) None gives read covers = absurd gives

-- ---- Five rules

-- rules that are read from texts choose the category that the exact number has by their conditions
pub first_category-exact : ConditionsAgree → TextsGiveOneAnswer → (x : Places) (e : ℕ) (cut exact : Operands)
    → (texts : Five (Option (List ℕ))) (conditions : Five (Option Condition)) (rules : FiveRules)
    → IsKept x e (moduli_of rules) cut exact → AreRulesOf texts rules → AreReadAs texts conditions
    → first_category (packed_truth cut) rules ≡ first_category (exact_truth exact) conditions
first_category-exact agree one_answer x e cut exact texts conditions rules kept given read =
    let a = moduli_of_rule rules.zero in
    let b = moduli_of_rule rules.one in
    let c = moduli_of_rule rules.two in
    let d = moduli_of_rule rules.few in
    let f = moduli_of_rule rules.many in
    let alike = rule_alike agree one_answer x e (moduli_of rules) cut exact kept in
    same_choice
    (alike texts.zero conditions.zero rules.zero given.zero read.zero
    (λ m h. Contains-append_left (a ++ b ++ c ++ d) f m
    (Contains-append_left (a ++ b ++ c) d m (Contains-append_left (a ++ b) c m (Contains-append_left a b m h)))))
    (alike texts.one conditions.one rules.one given.one read.one
    (λ m h. Contains-append_left (a ++ b ++ c ++ d) f m
    (Contains-append_left (a ++ b ++ c) d m (Contains-append_left (a ++ b) c m (Contains-append_right a b m h)))))
    (alike texts.two conditions.two rules.two given.two read.two
    (λ m h. Contains-append_left (a ++ b ++ c ++ d) f m (Contains-append_left (a ++ b ++ c) d m (Contains-append_right (a ++ b) c m h))))
    (alike texts.few conditions.few rules.few given.few read.few
    (λ m h. Contains-append_left (a ++ b ++ c ++ d) f m (Contains-append_right (a ++ b ++ c) d m h)))
    (alike texts.many conditions.many rules.many given.many read.many (λ m h. Contains-append_right (a ++ b ++ c ++ d) f m h))
