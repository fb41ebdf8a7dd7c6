-- The block of the rules of five texts, and whether a text is a rule from its first byte to its
-- last. An empty text isn't a rule. Faults are looked for in this order: a text that isn't UTF-8,
-- the first text that gives no rule, rules too long for a block.
--     AreRulesFrom texts answer      the bytes of the block, or the fault
--     IsWholeness text answer      whether the text is a rule as a whole
use Rattle.std.specs.Prelude.{◌≡◌, ◌↔◌, ℕ, Bool, List, [], ◌∷◌, Option, Some, None, Result, Ok, Err, IsTrue}
use Rattle.std.specs.Str.{IsUtf8}
use Rattle.icu_plurals.specs.declared.PluralCategory.{PluralCategory}
use Rattle.icu_plurals.specs.declared.provider.rules.runtime.ast.RuleError.TheVariants as rule
use Rattle.icu_plurals.specs.declared.Five.{Five}
use Rattle.icu_plurals.specs.FiveRules.{FiveRules, five}
use Rattle.icu_plurals.specs.ListBytes.{has_high_start}
use Rattle.icu_plurals.specs.RuleTexts.{AreRulesOf, IsFirstRefused}
use Rattle.icu_plurals.specs.RulesBytes.{RulesBytes, rule_items}
use Rattle.icu_plurals.specs.Samples.{TextIsRule}
use Rattle.plural_documents.specs.Steps.{Then}
use Rattle.plural_exports.specs.declared.fault.Fault.{Fault}
use Rattle.plural_exports.specs.declared.fault.Fault.TheVariants.{Memory, Utf8, Text, RulesLimit}

-- each is UTF-8
pub record AreUtf8 (texts : Five (List ℕ)) : Type 0 where
  pub zero : IsUtf8 texts.zero
  pub one : IsUtf8 texts.one
  pub two : IsUtf8 texts.two
  pub few : IsUtf8 texts.few
  pub many : IsUtf8 texts.many

-- the text of a rule, if it has any byte
abbrev pub text_given : List ℕ → Option (List ℕ)
text_given [] = None
text_given (byte ∷ text) = Some (byte ∷ text)

-- the text, if there is any byte, or the fault of bytes that aren't UTF-8
abbrev pub ReadsGiven : List ℕ → Result (Option (List ℕ)) Fault → Type 0
ReadsGiven bytes (Ok text) = IsUtf8 bytes × (text ≡ text_given bytes)
ReadsGiven bytes (Err fault) = (fault ≡ Utf8) × ¬ (IsUtf8 bytes)

-- the bytes of five rules
abbrev pub texts_given : Five (List ℕ) → Five (Option (List ℕ))
texts_given texts =
    five (text_given texts.zero) (text_given texts.one) (text_given texts.two) (text_given texts.few) (text_given texts.many)

-- the texts, or one isn't UTF-8
abbrev pub ReadsTexts : Five (List ℕ) → Result (Five (Option (List ℕ))) Fault → Type 0
ReadsTexts bytes (Ok texts) = AreUtf8 bytes × (texts ≡ texts_given bytes)
ReadsTexts bytes (Err fault) = (fault ≡ Utf8) × ¬ (AreUtf8 bytes)

-- some text is the first that gives no rule, for this reason; or memory ran out for a text, and all
-- before it give rules
abbrev pub IsTextsFault : Five (Option (List ℕ)) → Fault → Type 0
IsTextsFault texts Memory = (category : PluralCategory) × IsFirstRefused texts category rule.Memory
IsTextsFault texts (Text rule.Memory) = ⊥
IsTextsFault texts (Text fault) = (category : PluralCategory) × IsFirstRefused texts category fault
IsTextsFault texts fault = ⊥

-- the rules of the texts
abbrev pub GiveRules : Five (Option (List ℕ)) → Result FiveRules Fault → Type 0
GiveRules texts (Ok rules) = AreRulesOf texts rules
GiveRules texts (Err fault) = IsTextsFault texts fault

-- rules have no block: one would start after place 65535; or none would, and memory ran out
abbrev pub IsPackFault : FiveRules → Fault → Type 0
IsPackFault rules Memory = ¬ (IsTrue (has_high_start (rule_items rules)))
IsPackFault rules RulesLimit = IsTrue (has_high_start (rule_items rules))
IsPackFault rules fault = ⊥

-- the block of the rules
abbrev pub PackRules : FiveRules → Result (List ℕ) Fault → Type 0
PackRules rules (Ok bytes) = RulesBytes rules bytes
PackRules rules (Err fault) = IsPackFault rules fault

-- the block of the rules of five texts
abbrev pub AreRulesFrom : Five (List ℕ) → Result (List ℕ) Fault → Type 0
AreRulesFrom texts = Then (ReadsTexts texts) (λ given. Then (GiveRules given) PackRules)

-- ---- One text

abbrev pub IsWholeness : List ℕ → Result Bool Fault → Type 0
IsWholeness text (Ok whole) = IsTrue whole ↔ TextIsRule text
IsWholeness text (Err fault) = fault ≡ Memory
