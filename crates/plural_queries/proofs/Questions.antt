-- What a command asks for.
use Rattle.std.proofs.Common.{◌≡◌, ◌↔◌, ◌<◌, ◌≤◌, ◌^◌, ℕ, Bool, true, false, not, cond, nat_lt, List, length, Option, Some, Result, Ok, Err}
use Rattle.std.proofs.Common.{refl, ap, subst, inl, inr}
use Rattle.std.proofs.lemmas.Bool.{cases_lt}
use Rattle.std.specs.Str.Parse.{digits_value}
use Rattle.icu_plurals.specs.declared.DecimalError.{DecimalError}
use Rattle.icu_plurals.specs.declared.DecimalError.TheVariants as decimal
use Rattle.icu_plurals.specs.Written.{CompactNumber, WritesCompact, IsCompactOverLimit}
use Rattle.plural_queries.specs.Commands.{Command, test, category, range, print, select, message}
use Rattle.plural_queries.specs.CallAnswers.{GivesRunFault, GivesQuery, IsOfDocument, IsOfKind}
use Rattle.plural_queries.specs.NumberWords.{ReadsConditionWord, ReadsNumberWord, IsNumberWordFault, IsNumberOf, integer_of, is_numeral}
use Rattle.plural_queries.specs.Queries.{AsksDocument, CommandAsks, IsAsked, Query, of_document, truth}
use Rattle.plural_queries.specs.Queries.{number_category, range_category, printed_rules, number_element, number_message}
use Rattle.plural_documents.specs.Steps.{After, HasNoFault, Then}
use Rattle.plural_queries.specs.declared.error.RunError.{RunError}
use Rattle.plural_queries.specs.declared.error.RunError.TheVariants.{Usage, Number}
use Rattle.plural_queries.specs.declared.query.Query.{Query as CodeQuery}
use Rattle.plural_queries.proofs.Faults.{no_fault_of_both}

-- a query is no fault
pub asked_has_no_fault : (query : Query) → HasNoFault (IsAsked query)
asked_has_no_fault query fault h = cc

-- a word that has neither fault of form nor of limit has no fault
pub read_has_no_fault : (word : List ℕ) (r : Result CompactNumber DecimalError) → (r ≡ Err decimal.Syntax → ⊥) → (r ≡ Err decimal.Limit → ⊥)
    → (r ≡ Err decimal.Syntax) ↔ ((y : CompactNumber) → ¬ (WritesCompact word y))
    → (r ≡ Err decimal.Limit) ↔ ((y : CompactNumber) × WritesCompact word y × IsCompactOverLimit y)
    → HasNoFault (ReadsNumberWord word)
read_has_no_fault word r no_syntax no_limit syntax limit e h = of_fault h.0 h.2
  where
    of_fault : (fault : DecimalError) → IsNumberWordFault word fault → ⊥
    of_fault decimal.Syntax there = no_syntax (syntax.1 there)
    of_fault decimal.Limit there = no_limit (limit.1 there)
    of_fault decimal.Memory there = there

-- a word that isn't short is long
pub long_word : (word : List ℕ) → (length word ≤ 16 → ⊥) → 16 < length word
long_word word none = elim (cases_lt 16 (length word)) [
  | inl long ↦ long
  | inr short ↦ absurd (none short)
]

-- a word of an integer has no fault of usage
integer_not_usage : (word : List ℕ) → integer_of word ≡ Err Usage → ⊥
integer_not_usage word = of_tests (not (is_numeral word)) (nat_lt (digits_value 10 word) (2 ^ 64))
  where
    of_tests : (a b : Bool)
        → ◌≡◌ {A = Result ℕ RunError}
        (cond a (Err (Number decimal.Syntax)) (cond b (Ok (digits_value 10 word)) (Err (Number decimal.Limit)))) (Err Usage) → ⊥
    of_tests true b h = cc
    of_tests false true h = cc
    of_tests false false h = cc

-- nor has one of a condition
condition_not_usage : (word : List ℕ) → ReadsConditionWord word (Err Usage) → ⊥
condition_not_usage word h = let is = h.1 in cc

-- nor has one of a number
number_not_usage : (word : List ℕ) → ReadsNumberWord word (Err Usage) → ⊥
number_not_usage word h = let is = h.1 in cc

-- nor has a query
asked_not_usage : (query : Query) → IsAsked query (Err Usage) → ⊥
asked_not_usage query h = cc

-- nor have two steps of which neither has one
steps_not_usage : {A B : Type 0} (First : Result A RunError → Type 0) (Next : A → Result B RunError → Type 0)
    → (First (Err Usage) → ⊥) → ((x : A) → Next x (Err Usage) → ⊥) → Then First Next (Err Usage) → ⊥
steps_not_usage {A} {B} First Next none nones h = of_either h.0 h.1 h.2
  where
    of_either : (first : Result A RunError) → First first → After Next first (Err Usage) → ⊥
    of_either (Ok x) is h = nones x h
    of_either (Err e) is h = let same : e ≡ Usage = cc in none (subst (λ (f : RunError). First (Err f)) same is)

-- nor has a value with a relation after it
value_not_usage : {A B : Type 0} (Next : A → Result B RunError → Type 0) (given : Result A RunError)
    → (given ≡ Err Usage → ⊥) → ((x : A) → Next x (Err Usage) → ⊥) → After Next given (Err Usage) → ⊥
value_not_usage Next (Ok x) none nones h = nones x h
value_not_usage Next (Err e) none nones h = let same : e ≡ Usage = cc in none (ap Err same)

-- nor has a number that a query asks for
number_asked_not_usage : (word : List ℕ) (query : CompactNumber → Query) → Then (ReadsNumberWord word) (λ n. IsAsked (query n)) (Err Usage)
    → ⊥
number_asked_not_usage word query =
    steps_not_usage (ReadsNumberWord word) (λ n. IsAsked (query n)) (number_not_usage word) (λ n. asked_not_usage (query n))

-- so no command has one
asks_not_usage : (command : Command) → CommandAsks (Some command) (Err Usage) → ⊥
asks_not_usage (test condition integer) =
    steps_not_usage (ReadsConditionWord condition) (λ tree. After (λ n. IsAsked (truth tree n)) (integer_of integer))
    (condition_not_usage condition)
    (λ tree. value_not_usage (λ n. IsAsked (truth tree n)) (integer_of integer) (integer_not_usage integer)
    (λ n. asked_not_usage (truth tree n)))
asks_not_usage (category locale type number) = number_asked_not_usage number (λ x. of_document (number_category locale type x))
asks_not_usage (range locale type start end) =
    steps_not_usage (ReadsNumberWord start)
    (λ x. Then (ReadsNumberWord end) (λ y. IsAsked (of_document (range_category locale type x y))))
    (number_not_usage start) (λ x. number_asked_not_usage end (λ y. of_document (range_category locale type x y)))
asks_not_usage (print locale type) = asked_not_usage (of_document (printed_rules locale type))
asks_not_usage (select locale type number) = number_asked_not_usage number (λ x. of_document (number_element locale type x))
asks_not_usage (message locale type number) = number_asked_not_usage number (λ x. of_document (number_message locale type x number))

-- and no call that reads its words gives one
pub command_not_usage : (command : Command) (r : Result CodeQuery RunError) → GivesQuery (Some command) r → r ≡ Err Usage → ⊥
command_not_usage command r given is =
    let there : GivesQuery (Some command) (Err Usage) = subst (λ (a : Result CodeQuery RunError). GivesQuery (Some command) a) is given in
    asks_not_usage command there

-- `?` passes on a fault of the command
pub refused_command : (command : Option Command) (e : RunError) (r : Result CodeQuery RunError)
    → r ≡ Err e → GivesRunFault (λ fault. CommandAsks command (Err fault)) e → GivesQuery command r
refused_command command e r is h = rw is h

-- a number that was read is asked for, and its words have no fault
pub number_asked : (word : List ℕ) (query : CompactNumber → Query) (x : CompactNumber)
    → IsNumberOf word x → HasNoFault (ReadsNumberWord word)
    → Then (ReadsNumberWord word) (λ n. IsAsked (query n)) (Ok (query x))
    × HasNoFault (Then (ReadsNumberWord word) (λ n. IsAsked (query n)))
number_asked word query x is none =
    ((Ok x, is, refl), no_fault_of_both (ReadsNumberWord word) (λ n. IsAsked (query n)) none (λ n. asked_has_no_fault (query n)))

-- a command that asks a document gives a query of a document
pub needs : (command : Option Command) (query : Query) → IsOfKind command query → AsksDocument command → IsOfDocument query
needs command (truth condition n) kind asks = kind asks
needs command (of_document lookup) kind asks = tt

-- a query of a document comes from such a command, without a fault
pub settled : (command : Option Command) (query : Query) → IsOfKind command query
    → ¬ (AsksDocument command × HasNoFault (CommandAsks command)) → ¬ (IsOfDocument query)
settled command (truth condition n) kind none h = h
settled command (of_document lookup) kind none h = none kind

-- and this one has no fault and needs the input
pub needs_input : (command : Option Command) (query : Query) → IsOfKind command query → IsOfDocument query
    → AsksDocument command × HasNoFault (CommandAsks command)
needs_input command (truth condition n) kind of = absurd of
needs_input command (of_document lookup) kind of = kind
