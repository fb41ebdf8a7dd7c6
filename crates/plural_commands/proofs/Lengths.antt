-- The faults that a document doesn't give: for its length, and of the words.
use Rattle.std.proofs.Common.{◌≡◌, ℕ, codes, Bool, true, false, cond, nat_lt, length, List, Option, Some, None, Result, Ok, Err, sym, ap, subst}
use Rattle.serde_json.specs.Data.{Data}
use Rattle.serde_json.specs.Find.{get}
use Rattle.icu_plurals.specs.declared.JsonError.{JsonError}
use Rattle.icu_plurals.specs.declared.PluralRuleType.{PluralRuleType}
use Rattle.icu_plurals.specs.DocumentJson.{document_of_json, found, rows_for}
use Rattle.plural_queries.specs.LookupAnswers.{AnswersFrom, AnswersLookup}
use Rattle.plural_commands.specs.Answer.{AnswersQuery}
use Rattle.plural_queries.specs.Input.{WholeDocument, document_in, document_of, document_of_value, or_bad}
use Rattle.plural_queries.specs.Input.{elements_at_key, elements_for, ranged_for, rules_for, ruled_with}
use Rattle.plural_queries.specs.Lines.{AreRuleLines, IsCategoryLine, IsElementLine, IsMessageLine, IsRangeLine}
use Rattle.plural_queries.specs.Queries.{Lookup, number_category, range_category, number_element, number_message, printed_rules}
use Rattle.plural_queries.specs.Queries.{Query, of_document, truth}
use Rattle.plural_queries.specs.CallAnswers.{GivesTextAfterReading, Text}
use Rattle.plural_documents.specs.Steps.{After, ◌>>=◌, value_or_fault}
use Rattle.plural_documents.specs.Inputs.{most_bytes, json_of}
use Rattle.plural_queries.specs.declared.error.RunError.{RunError}
use Rattle.plural_queries.specs.declared.error.RunError.TheVariants.{Usage, TooLong, Json, Document, Locale}

-- a fault that no document has
record IsOther (fault : RunError) : Type 0 where
  not_json : Json ≡ fault → ⊥
  not_locale : Locale ≡ fault → ⊥
  not_document : (refusal : JsonError) → Document refusal ≡ fault → ⊥

-- too long an input
length_is_other : IsOther TooLong
length_is_other = record { not_json = λ h. cc; not_locale = λ h. cc; not_document = λ refusal h. cc }

-- words that are no command
usage_is_other : IsOther Usage
usage_is_other = record { not_json = λ h. cc; not_locale = λ h. cc; not_document = λ refusal h. cc }

-- the fault of an error is the fault
fault_of : {A : Type 0} (e fault : RunError) → ◌≡◌ {A = Result A RunError} (Err e) (Err fault) → e ≡ fault
fault_of e fault h = cc

-- two steps don't have a fault if neither step does
of_steps : {A B : Type 0} (fault : RunError) (value : Result A RunError) (next : A → Result B RunError)
    → (value ≡ Err fault → ⊥) → ((x : A) → next x ≡ Err fault → ⊥) → (value >>= next) ≡ Err fault → ⊥
of_steps fault (Ok x) next first second h = second x h
of_steps {A} fault (Err e) next first second h = first (ap Err (fault_of e fault h))

-- nor does the lookup of a locale
of_locale : {A : Type 0} (fault : RunError) → IsOther fault → (o : Option A) → value_or_fault Locale o ≡ Err fault → ⊥
of_locale fault other None h = other.not_locale (fault_of Locale fault h)
of_locale fault other (Some x) h = cc

-- nor a text that is no JSON
of_value : {A : Type 0} (fault : RunError) → IsOther fault → (o : Option A) → value_or_fault Json o ≡ Err fault → ⊥
of_value fault other None h = other.not_json (fault_of Json fault h)
of_value fault other (Some x) h = cc

-- nor a document that is refused
of_refusal : {A : Type 0} (fault : RunError) → IsOther fault → (s : Result A JsonError) → or_bad s ≡ Err fault → ⊥
of_refusal fault other (Ok x) h = cc
of_refusal fault other (Err e) h = other.not_document e (fault_of (Document e) fault h)

-- nor the document of bytes
of_bytes : (fault : RunError) → IsOther fault → (bytes : List ℕ) → document_of bytes ≡ Err fault → ⊥
of_bytes fault other bytes =
    of_steps fault (value_or_fault Json (json_of bytes)) document_of_value (of_value fault other (json_of bytes))
    (λ value. of_steps fault (or_bad (document_of_json value)) (λ maps. Ok (record { value = value; maps = maps }))
    (of_refusal fault other (document_of_json value)) (λ maps h. cc))

-- nor the rules of a locale
of_rules : (fault : RunError) → IsOther fault → (type : PluralRuleType) (locale : List ℕ) (document : WholeDocument)
    → rules_for type locale document ≡ Err fault → ⊥
of_rules fault other type locale document = of_locale fault other (found locale (rows_for type document.maps))

-- nor its rules with its ranges
of_ranged : (fault : RunError) → IsOther fault → (type : PluralRuleType) (locale : List ℕ) (document : WholeDocument)
    → ranged_for type locale document ≡ Err fault → ⊥
of_ranged fault other type locale document =
    of_steps fault (rules_for type locale document)
    (λ rules. value_or_fault Locale (found locale document.maps.ranges) >>= λ ranges. Ok (record { rules = rules; ranges = ranges }))
    (of_rules fault other type locale document)
    (λ rules. of_steps fault (value_or_fault Locale (found locale document.maps.ranges))
    (λ ranges. Ok (record { rules = rules; ranges = ranges }))
    (of_locale fault other (found locale document.maps.ranges)) (λ ranges h. cc))

-- nor the elements with the rules
of_elements : (fault : RunError) → IsOther fault → (type : PluralRuleType) (locale : List ℕ) (document : WholeDocument)
    → elements_for type locale document ≡ Err fault → ⊥
of_elements fault other type locale document =
    let key : Option Data = get (codes "elements") document.value in
    of_steps fault (or_bad (elements_at_key key)) (ruled_with type locale document) (of_refusal fault other (elements_at_key key))
    (λ elements. of_steps fault (rules_for type locale document) (λ rules. Ok (record { elements = elements; rules = rules }))
    (of_rules fault other type locale document) (λ rules h. cc))

-- if the given value isn't the fault, neither is the answer
of_given : {A : Type 0} (fault : RunError) (IsText : A → List ℕ → Type 0) (given : Result A RunError)
    → (given ≡ Err fault → ⊥) → AnswersFrom IsText given (Err fault) → ⊥
of_given fault IsText (Ok x) none h = h
of_given fault IsText (Err e) none h = let same : fault ≡ e = cc in none (ap Err (sym same))

-- no query of a document has the fault as its answer
of_lookup : (fault : RunError) → IsOther fault → (lookup : Lookup) (document : WholeDocument)
    → AnswersLookup lookup document (Err fault) → ⊥
of_lookup fault other (number_category locale type x) document =
    of_given fault (IsCategoryLine x) (rules_for type locale document) (of_rules fault other type locale document)
of_lookup fault other (range_category locale type x y) document =
    of_given fault (IsRangeLine x y) (ranged_for type locale document) (of_ranged fault other type locale document)
of_lookup fault other (printed_rules locale type) document =
    of_given fault AreRuleLines (rules_for type locale document) (of_rules fault other type locale document)
of_lookup fault other (number_element locale type x) document =
    of_given fault (IsElementLine x) (elements_for type locale document) (of_elements fault other type locale document)
of_lookup fault other (number_message locale type x word) document =
    of_given fault (IsMessageLine x word) (elements_for type locale document) (of_elements fault other type locale document)

-- nor has one after a document without the fault
after_document : (fault : RunError) → IsOther fault → (lookup : Lookup) (document : Result WholeDocument RunError)
    → (document ≡ Err fault → ⊥) → After (AnswersLookup lookup) document (Err fault) → ⊥
after_document fault other lookup (Ok document) none h = of_lookup fault other lookup document h
after_document fault other lookup (Err e) none h = let same : fault ≡ e = cc in none (ap Err (sym same))

-- the bytes of an input give no fault for its length
pub text_not_long : (lookup : Lookup) (bytes : List ℕ)
    → After (AnswersLookup lookup) (document_of bytes) (Err TooLong) → ⊥
text_not_long lookup bytes =
    after_document TooLong length_is_other lookup (document_of bytes) (of_bytes TooLong length_is_other bytes)

-- an input has no fault of the words
input_not_usage : (input : List ℕ) → document_in input ≡ Err Usage → ⊥
input_not_usage input = of_test (nat_lt most_bytes (length input))
  where
    of_test : (b : Bool) → cond b (Err TooLong) (document_of input) ≡ Err Usage → ⊥
    of_test true h = let same : TooLong ≡ Usage = fault_of TooLong Usage h in cc
    of_test false h = of_bytes Usage usage_is_other input h

-- nor has the answer to a query
query_not_usage : (query : Query) (input : List ℕ) → AnswersQuery query input (Err Usage) → ⊥
query_not_usage (truth condition n) input h = cc
query_not_usage (of_document lookup) input h =
    after_document Usage usage_is_other lookup (document_in input) (input_not_usage input) h

-- nor a call that gives it
pub answer_not_usage : (query : Query) (input : List ℕ) (r : Result Text RunError)
    → GivesTextAfterReading (AnswersQuery query input) r → r ≡ Err Usage → ⊥
answer_not_usage query input r given is =
    let there : GivesTextAfterReading (AnswersQuery query input) (Err Usage)
    = subst (λ (a : Result Text RunError). GivesTextAfterReading (AnswersQuery query input) a) is given in
    query_not_usage query input there
