-- What is kept of a document for a query.
use Rattle.std.specs.Prelude.{◌≡◌, ⊤, ℕ, List, codes, bytes_eq, if◌then◌else◌, Some, Result, Ok, Err}
use Rattle.plural_queries.specs.LookupAnswers.{AnswersLookup}
use Rattle.plural_queries.specs.Input.{WholeDocument}
use Rattle.plural_queries.specs.CallAnswers.{GivesRunFault}
use Rattle.plural_queries.specs.QueryViews.{document_view}
use Rattle.plural_queries.specs.Queries.{Lookup, number_category, range_category, printed_rules, number_element, number_message}
use Rattle.plural_queries.specs.declared.document.Document.{Document as CodeDocument}
use Rattle.plural_queries.specs.declared.document.ElementsSieve.{ElementsSieve}
use Rattle.plural_queries.specs.declared.error.RunError.{RunError}
use Rattle.plural_queries.specs.declared.error.RunError.TheVariants.{Json}
use Rattle.plural_documents.specs.Inputs.{json_of}
use Rattle.plural_documents.specs.Outlines.{HeldText, IsHeld}
use Rattle.plural_documents.specs.Steps.{value_or_fault}
use Rattle.plural_documents.specs.declared.Portion.{Portion}
use Rattle.plural_documents.specs.declared.Portion.TheVariants as kept
use Rattle.serde_json.specs.Data.{Data}
use Rattle.serde_json.specs.Find.{get}
use Rattle.serde_json.specs.View.{view}
use Rattle.serde_json.specs.declared.Value.{Value}

-- the elements
abbrev pub keeps_elements : ElementsSieve → List ℕ → Portion ElementsSieve
keeps_elements sieve key = if bytes_eq key (codes "elements") then kept.Whole else kept.Nothing

-- the locale that is asked for
abbrev pub locale_of : Lookup → List ℕ
locale_of (number_category locale type x) = locale
locale_of (range_category locale type x y) = locale
locale_of (printed_rules locale type) = locale
locale_of (number_element locale type x) = locale
locale_of (number_message locale type x word) = locale

-- the text of the bytes, which write a value
abbrev pub GivesJsonText : List ℕ → Result HeldText RunError → Type 0
GivesJsonText bytes (Ok text) = (value : Data) × IsHeld text value × (json_of bytes ≡ Some value)
GivesJsonText bytes (Err e) = GivesRunFault (λ fault. value_or_fault Json (json_of bytes) ≡ Err fault) e

-- both have the same elements
abbrev pub HaveElements : Data → Data → Type 0
HaveElements value whole = get (codes "elements") value ≡ get (codes "elements") whole

-- they do if elements are asked for
abbrev pub HaveWanted : Lookup → Data → Data → Type 0
HaveWanted (number_category locale type x) value whole = ⊤
HaveWanted (range_category locale type x y) value whole = ⊤
HaveWanted (printed_rules locale type) value whole = ⊤
HaveWanted (number_element locale type x) value whole = HaveElements value whole
HaveWanted (number_message locale type x word) value whole = HaveElements value whole

-- the value has the wanted elements of what is held
abbrev pub GivesElements : Lookup → HeldText → Result Value RunError → Type 0
GivesElements lookup text (Ok value) = (held : Data) → IsHeld text held → HaveWanted lookup (view value) held
GivesElements lookup text (Err e) = GivesRunFault (λ fault. ⊥) e

-- what answers the query of a part answers that of the whole
abbrev pub ServesLookup : Lookup → WholeDocument → WholeDocument → Type 0
ServesLookup lookup whole part = (answer : Result (List ℕ) RunError) → AnswersLookup lookup part answer → AnswersLookup lookup whole answer

-- a document that serves as this one, or its fault
abbrev pub GivesServing : Lookup → Result WholeDocument RunError → Result CodeDocument RunError → Type 0
GivesServing lookup stands (Ok document) = (whole : WholeDocument) × (stands ≡ Ok whole) × ServesLookup lookup whole (document_view document)
GivesServing lookup stands (Err e) = GivesRunFault (λ fault. stands ≡ Err fault) e
