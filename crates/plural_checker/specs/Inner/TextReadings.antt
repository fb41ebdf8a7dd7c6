-- Not a definition of the subject: what a text is read as, once, as a tree, for views and private
-- contracts.
use Rattle.std.specs.Prelude.{◌≡◌, ◌⊎◌, ℕ, List, Option, Ok, Err, IsTrue, IsFalse}
use Rattle.icu_plurals.specs.declared.Five.{Five}
use Rattle.icu_plurals.specs.declared.PluralCategory.{PluralCategory}
use Rattle.icu_plurals.specs.declared.provider.rules.reference.ParseError.{ParseError}
use Rattle.icu_plurals.specs.declared.provider.rules.reference.ast.Rule as tree
use Rattle.icu_plurals.specs.declared.provider.rules.runtime.ast.RuleError.TheVariants.{Parse}
use Rattle.icu_plurals.specs.FiveRules.{FiveRules, passes}
use Rattle.icu_plurals.specs.Lexer.{TextReads}
use Rattle.icu_plurals.specs.PackedRelations.{PackedRelation}
use Rattle.icu_plurals.specs.PackedTree.{packed, packing}
use Rattle.icu_plurals.specs.RuleOfText.{TextGives}
use Rattle.icu_plurals.specs.RuleTexts.{IsRuleOf}
use Rattle.icu_plurals.specs.Samples.{ReadsRule}
use Rattle.plural_reference.specs.FaultPlaces.{TextFaultyAt}
use Rattle.plural_checker.specs.Findings.{Findings, FindsBoth}
use Rattle.plural_checker.specs.LanguageTexts.{SixTexts, is_long}
use Rattle.plural_checker.specs.TextChecks.{IsFoundInCondition, IsFoundInReading, IsFoundInSamples}
use Rattle.plural_checker.specs.declared.read_text.NoRule.{NoRule}
use Rattle.plural_checker.specs.declared.read_text.NoRule.TheVariants as norule
use Rattle.plural_checker.specs.declared.read_text.Reading.{Reading}
use Rattle.plural_checker.specs.declared.read_text.Reading.TheVariants.{Long, Refused, Rule}

-- the text is long; or it is read as no rule, or as one that can be packed
abbrev pub IsRuleReading : List ℕ → Reading → Type 0
IsRuleReading text Long = IsTrue (is_long text)
IsRuleReading text (Refused fault) = IsFalse (is_long text) × TextGives text (Err (Parse fault.kind)) × TextFaultyAt text fault.kind fault.byte
IsRuleReading text (Rule rule) =
    IsFalse (is_long text) × TextReads ReadsRule text rule × (packing rule.condition ≡ Ok (packed rule.condition))

-- ---- Packed rules

-- the text isn't long, and this is its rule; or both are absent
abbrev pub IsShortRuleOf : Option (List ℕ) → Option (List PackedRelation) → Type 0
IsShortRuleOf text rule = IsFalse (passes is_long text) × IsRuleOf text rule

-- the text is long, or gives no rule
abbrev pub HasNoRule : List ℕ → Type 0
HasNoRule text = IsTrue (is_long text) ⊎ ((fault : ParseError) × TextGives text (Err (Parse fault)))

-- the fact, unless memory ran out
abbrev pub IfRefused : NoRule → Type 0 → Type 0
IfRefused norule.Refused Fact = Fact
IfRefused norule.Memory Fact = Unit {0}

-- ---- Findings

-- what is found in a text that is read as this rule
abbrev pub IsFoundInRead : Option FiveRules → PluralCategory → List ℕ → tree.Rule → Findings → Type 0
IsFoundInRead rules category text rule =
    FindsBoth (IsFoundInReading category text rule)
    (FindsBoth (IsFoundInCondition category rule) (IsFoundInSamples rules category rule.samples))

-- five texts and that of other
abbrev pub six : Five (Option (List ℕ)) → Option (List ℕ) → SixTexts
six five other = record { five = five; other = other }
