-- The notes of a language's rules.
--     HasCondition text condition      the condition of a text that is present, not long and a rule
--     AreCategoryRulesOf texts rules      the conditions of five texts, from zero to many, as far as there
--         are any
--     AreRuleNotes earlier rules notes      the notes of each rule, beside the earlier ones
--     AreNotesOf texts notes      the notes of five texts
use Rattle.std.specs.Prelude.{◌≡◌, ◌⊎◌, ℕ, List, [], ◌∷◌, ◌++◌, map, Option, Some, None, IsFalse, IsTrue, codes}
use Rattle.plural_base.specs.declared.category.PluralCategory.{PluralCategory}
use Rattle.plural_base.specs.declared.category.PluralCategory.TheVariants.{Zero, One, Two, Few, Many}
use Rattle.plural_base.specs.declared.five.Five.{Five}
use Rattle.plural_checker.specs.LanguageTexts.{is_long}
use Rattle.plural_reference.specs.Lexer.{TextFaulty, TextReads}
use Rattle.plural_reference.specs.Samples.{FaultyRule, ReadsCondition}
use Rattle.plural_reference.specs.declared.ast.Condition.{Condition}
use Rattle.plural_reference.specs.declared.error.ParseError.{ParseError}
use Rattle.rule_notes.specs.ConditionCauses.{AreConditionCauses, IsNotedIf, NotesBoth}
use Rattle.rule_notes.specs.EarlierRules.{AreAlikeCauses, IsTakenByEarlier}
use Rattle.rule_notes.specs.declared.category_rule.CategoryRule.{CategoryRule}
use Rattle.rule_notes.specs.declared.cause.Cause.{Cause}
use Rattle.rule_notes.specs.declared.cause.Cause.TheVariants.{Taken, UpsideDown, Empty, Alike}
use Rattle.rule_notes.specs.declared.note.Note.{Note}
use Rattle.std.specs.Fmt.{decimal}
use Rattle.plural_base.specs.Categories.{name_of}

-- ---- The rules of texts

abbrev pub HasCondition : Option (List ℕ) → Option Condition → Type 0
HasCondition None condition = condition ≡ None
HasCondition (Some text) (Some condition) = IsFalse (is_long text) × TextReads ReadsCondition text condition
HasCondition (Some text) None = IsTrue (is_long text) ⊎ ((fault : ParseError) × TextFaulty FaultyRule text fault)

abbrev pub rule_if : PluralCategory → Option Condition → List CategoryRule
rule_if category None = []
rule_if category (Some condition) = record { category = category; condition = condition } ∷ []

-- the rule of a category is added to earlier ones, if its text has a condition
abbrev pub AddsRule : PluralCategory → Option (List ℕ) → List CategoryRule → List CategoryRule → Type 0
AddsRule category text earlier rules = (condition : Option Condition) × HasCondition text condition × (rules ≡ earlier ++ rule_if category condition)

abbrev pub AreCategoryRulesOf : Five (Option (List ℕ)) → List CategoryRule → Type 0
AreCategoryRulesOf texts rules =
    (zero one two few : List CategoryRule) × AddsRule Zero texts.zero [] zero × AddsRule One texts.one zero one
    × AddsRule Two texts.two one two × AddsRule Few texts.few two few × AddsRule Many texts.many few rules

-- ---- Notes

-- its condition by itself, and then beside the earlier ones
abbrev pub AreRuleCauses : List CategoryRule → CategoryRule → List Cause → Type 0
AreRuleCauses earlier rule =
    NotesBoth (AreConditionCauses rule.condition) (NotesBoth (AreAlikeCauses earlier rule) (IsNotedIf (IsTakenByEarlier earlier rule) Taken))

-- under its category
abbrev pub notes_under : PluralCategory → List Cause → List Note
notes_under category causes = map (λ cause. record { category = category; cause = cause }) causes

abbrev pub AreNotesOfRule : List CategoryRule → CategoryRule → List Note → Type 0
AreNotesOfRule earlier rule notes =
    (causes : List Cause) × AreRuleCauses earlier rule causes × (notes ≡ notes_under rule.category causes)

abbrev pub AreRuleNotes : List CategoryRule → List CategoryRule → List Note → Type 0
AreRuleNotes earlier [] notes = notes ≡ []
AreRuleNotes earlier (rule ∷ rules) notes =
    NotesBoth (AreNotesOfRule earlier rule) (AreRuleNotes (earlier ++ rule ∷ []) rules) notes

abbrev pub AreNotesOf : Five (Option (List ℕ)) → List Note → Type 0
AreNotesOf texts notes = (rules : List CategoryRule) × AreCategoryRulesOf texts rules × AreRuleNotes [] rules notes

-- ---- the texts of notes

-- `range 4..2 is upside down`, `n % 10 = 12 is never true`, `same condition as one`
abbrev pub note_cause_text : Cause → List ℕ
note_cause_text (UpsideDown start end) = codes "range " ++ (decimal start ++ (codes ".." ++ (decimal end ++ codes " is upside down")))
note_cause_text (Empty relation) = relation ++ codes " is never true"
note_cause_text (Alike category) = codes "same condition as " ++ name_of category
note_cause_text Taken = codes "earlier rules have all its numbers, of 0 to 9999, 0.0 to 99.9 and 0.00 to 99.99"

-- `few: range 4..2 is upside down`
abbrev pub note_text : Note → List ℕ
note_text note = name_of note.category ++ (codes ": " ++ note_cause_text note.cause)

-- ---- what the notes of texts are is determined

-- five texts have one list of notes
abbrev pub HaveOneListOfNotes : Type 0
HaveOneListOfNotes = (texts : Five (Option (List ℕ))) (notes others : List Note) → AreNotesOf texts notes → AreNotesOf texts others → notes ≡ others
