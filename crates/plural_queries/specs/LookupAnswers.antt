-- The answer to a query of a document, and the line for a truth value.
--     AnswersLookup lookup document answer      the answer to a query of a document
use Rattle.std.specs.Prelude.{◌≡◌, ℕ, List, [], ◌∷◌, ◌++◌, Bool, Result, Ok, Err, codes, if◌then◌else◌}
use Rattle.plural_queries.specs.Input.{WholeDocument, elements_for, ranged_for, rules_for}
use Rattle.plural_queries.specs.Lines.{AreRuleLines, IsCategoryLine, IsElementLine, IsMessageLine, IsRangeLine}
use Rattle.plural_queries.specs.Queries.{Lookup, number_category, range_category, printed_rules, number_element, number_message}
use Rattle.plural_queries.specs.declared.error.RunError.{RunError}

-- a line with the name of a truth value
abbrev pub truth_line : Bool → List ℕ
truth_line holds = (if holds then codes "true" else codes "false") ++ 10 ∷ []

-- a text for the given value, or the fault in its place
abbrev pub AnswersFrom : {A : Type 0} → (A → List ℕ → Type 0) → Result A RunError → Result (List ℕ) RunError → Type 0
AnswersFrom IsText (Ok given) (Ok text) = IsText given text
AnswersFrom IsText (Ok given) (Err fault) = ⊥
AnswersFrom IsText (Err fault) answer = answer ≡ Err fault

-- the answer to a query of a document: a line, or the fault of what the document has for the locale
abbrev pub AnswersLookup : Lookup → WholeDocument → Result (List ℕ) RunError → Type 0
AnswersLookup (number_category locale type x) document = AnswersFrom (IsCategoryLine x) (rules_for type locale document)
AnswersLookup (range_category locale type x y) document = AnswersFrom (IsRangeLine x y) (ranged_for type locale document)
AnswersLookup (printed_rules locale type) document = AnswersFrom AreRuleLines (rules_for type locale document)
AnswersLookup (number_element locale type x) document = AnswersFrom (IsElementLine x) (elements_for type locale document)
AnswersLookup (number_message locale type x word) document = AnswersFrom (IsMessageLine x word) (elements_for type locale document)
