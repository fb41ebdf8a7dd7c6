-- The rules of a language as one block of bytes: a packed list of the rules that are present
-- (docs/FORMATS.md).
--     rule_items rules      the items of the list: each the byte of a key, and the bytes of its
--         rule
--     RulesBytes rules bytes      the bytes encode the rules
--     HasRulesFault bytes fault      why other bytes are refused
--     RulesHaveOneEncoding      rules have the same bytes if and only if they are the same
--         (`laws::rules_have_one_encoding`)
use Rattle.std.specs.Prelude.{◌≡◌, ◌↔◌, ◌⊎◌, ℕ, ◌+◌, ◌<◌, ◌≤◌, List, [], ◌∷◌, ◌++◌, Option, Some, None, ⊤}
use Rattle.packed_list.specs.ListBytes.{ListBytes, HasFault}
use Rattle.plural_runtime.specs.PackedRelations.{PackedRelation, RuleBytes, packed_bytes, HasRuleFault}
use Rattle.plural_runtime.specs.declared.error.RuleBytesError.{RuleBytesError}
use Rattle.plural_base.specs.FiveRules.{FiveRules}
use Rattle.plural_base.specs.declared.rules.bytes.error.RulesBytesError.{RulesBytesError}
use Rattle.plural_base.specs.declared.rules.bytes.error.RulesBytesError.TheVariants as errors

-- ---- The bytes

-- the item of a rule, if present: its key, and its bytes
abbrev pub keyed : ℕ → Option (List PackedRelation) → List (List ℕ)
keyed key None = []
keyed key (Some rule) = (key ∷ packed_bytes rule) ∷ []

-- the items of the rules that are present: 0 is the key of zero, 1 of one, 2 of two, 3 of few, 4 of
-- many
abbrev pub rule_items : FiveRules → List (List ℕ)
rule_items rules = keyed 0 rules.zero ++ (keyed 1 rules.one ++ (keyed 2 rules.two ++ (keyed 3 rules.few ++ keyed 4 rules.many)))

-- a rule, if present, has bytes
abbrev pub CanPackRule : Option (List PackedRelation) → Type 0
CanPackRule None = ⊤
CanPackRule (Some rule) = RuleBytes rule (packed_bytes rule)

-- each rule that is present has bytes
pub record CanPackRules (rules : FiveRules) : Type 0 where
  pub zero : CanPackRule rules.zero
  pub one : CanPackRule rules.one
  pub two : CanPackRule rules.two
  pub few : CanPackRule rules.few
  pub many : CanPackRule rules.many

-- the bytes encode the rules
pub record RulesBytes (rules : FiveRules) (bytes : List ℕ) : Type 0 where
  pub can_pack : CanPackRules rules
  pub packed : ListBytes (rule_items rules) bytes

-- Rules have the same bytes if and only if they are the same.
abbrev pub RulesHaveOneEncoding : Type 0
RulesHaveOneEncoding =
    (rules others : FiveRules) (a b : List ℕ) → RulesBytes rules a → RulesBytes others b → (a ≡ b) ↔ (rules ≡ others)

-- ---- What is wrong with bytes that aren't rules

-- the key is one of the five, and not below the least that it may be
abbrev pub IsKeyFrom : ℕ → ℕ → Type 0
IsKeyFrom least key = (least ≤ key) × (key ≤ 4)

-- it is below the least, or above the five
abbrev pub IsBadKey : ℕ → ℕ → Type 0
IsBadKey least key = (key < least) ⊎ (4 < key)

-- the bytes encode a rule
abbrev pub AreRule : List ℕ → Type 0
AreRule bytes = (rule : List PackedRelation) × RuleBytes rule bytes

-- they are refused as the rule of the item at a place
abbrev pub IsRuleRefused : ℕ → List ℕ → Option RulesBytesError → Type 0
IsRuleRefused place bytes fault = (found : RuleBytesError) × HasRuleFault bytes found × (fault ≡ Some (errors.Rule place found))

-- What is wrong with the first bad item, or none if no item is bad. The first item is at the given
-- place and has at least the given key; each other one has a greater key than the item before it.
abbrev pub FirstRuleFault : ℕ → ℕ → List (List ℕ) → Option RulesBytesError → Type 0
FirstRuleFault place least [] fault = fault ≡ None
FirstRuleFault place least ([] ∷ items) fault = fault ≡ Some (errors.ItemEmpty place)
FirstRuleFault place least ((key ∷ bytes) ∷ items) fault =
    (IsBadKey least key × (fault ≡ Some (errors.Key place)))
    ⊎ ((IsKeyFrom least key × IsRuleRefused place bytes fault)
    ⊎ (IsKeyFrom least key × AreRule bytes × FirstRuleFault (place + 1) (key + 1) items fault))

-- bytes are refused with a fault: they aren't a packed list, or it is that of the first bad item
abbrev pub HasRulesFault : List ℕ → RulesBytesError → Type 0
HasRulesFault bytes (errors.List fault) = HasFault bytes fault
HasRulesFault bytes fault = (items : List (List ℕ)) × ListBytes items bytes × FirstRuleFault 0 0 items (Some fault)
