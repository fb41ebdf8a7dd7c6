-- What is kept of a document answers a query as the document does.
use Rattle.std.proofs.Common.{◌≡◌, ℕ, List, codes, Option, Some, None, Result, Ok, Err, refl, sym, ap, subst, ◌∙◌}
use Rattle.std.specs.Prelude.{option_and_then}
use Rattle.std.specs.Cow.{cow_str_bytes}
use Rattle.icu_plurals.specs.DocumentJson.{Document as Maps, document_for, document_of_json, found, of_locale, with_locale}
use Rattle.icu_plurals.specs.Json.{Stands}
use Rattle.icu_plurals.specs.FiveRules.{FiveRules}
use Rattle.icu_plurals.specs.PackedElements.{PackedElements}
use Rattle.icu_plurals.specs.declared.PluralRuleType.{PluralRuleType}
use Rattle.icu_plurals.specs.declared.PluralRuleType.TheVariants.{Cardinal, Ordinal}
use Rattle.plural_queries.specs.LookupAnswers.{AnswersFrom}
use Rattle.plural_queries.specs.Input.{RuledElements, WholeDocument, document_of_value, elements_at_key, elements_for, or_bad}
use Rattle.plural_queries.specs.Input.{ranged_for, ruled_with, rules_for}
use Rattle.plural_queries.specs.Lines.{AreRuleLines, IsCategoryLine, IsElementLine, IsMessageLine, IsRangeLine}
use Rattle.plural_queries.specs.Queries.{Lookup, number_category, range_category, printed_rules, number_element, number_message}
use Rattle.plural_queries.specs.CallAnswers.{GivesRunFault, GivesAnswerText, Text}
use Rattle.plural_queries.specs.KeptDocuments.{HaveElements, HaveWanted, ServesLookup, keeps_elements, locale_of}
use Rattle.plural_queries.specs.declared.document.ElementsSieve.{ElementsSieve}
use Rattle.plural_queries.specs.declared.error.RunError.{RunError}
use Rattle.plural_queries.proofs.Faults.{mapped, no_error, same_error}
use Rattle.plural_documents.proofs.HeldOutlines.{held_same}
use Rattle.plural_documents.proofs.LocaleServes.{row_found}
use Rattle.plural_documents.proofs.OutlineLemmas.{found_kept}
use Rattle.plural_documents.proofs.OutlinedLemmas.{some_is}
use Rattle.plural_documents.specs.Outlines.{HeldText, IsHeld, IsOutlineOf, outline, outline_members}
use Rattle.plural_documents.specs.Steps.{◌>>=◌}
use Rattle.plural_documents.specs.declared.Portion.TheVariants as portion
use Rattle.serde_json.specs.Data.{Data, null, boolean, number, string, array, object}
use Rattle.serde_json.specs.Find.{get, get_member}

-- ---- Elements

all_kept : (value : Option Data) → option_and_then (outline keeps_elements portion.Whole) value ≡ value
all_kept None = refl
all_kept (Some value) = refl

elements_in : (sieve : ElementsSieve) (whole part : Data) → outline keeps_elements (portion.Members sieve) whole ≡ Some part
    → HaveElements part whole
elements_in sieve null part is = ap (get (codes "elements")) (sym (some_is null part is))
elements_in sieve (boolean b) part is = ap (get (codes "elements")) (sym (some_is (boolean b) part is))
elements_in sieve (number n) part is = ap (get (codes "elements")) (sym (some_is (number n) part is))
elements_in sieve (string s) part is = ap (get (codes "elements")) (sym (some_is (string s) part is))
elements_in sieve (array items) part is = ap (get (codes "elements")) (sym (some_is (array items) part is))
elements_in sieve (object ms) part is =
    ap (get (codes "elements")) (sym (some_is (object (outline_members keeps_elements sieve ms)) part is))
    ∙ found_kept ElementsSieve keeps_elements sieve (codes "elements") ms ∙ all_kept (get_member (codes "elements") ms)

-- the outline has the elements of what is held
pub elements_kept : (sieve : ElementsSieve) (text : HeldText) (part : Data) → IsOutlineOf keeps_elements sieve text part
    → (held : Data) → IsHeld text held → HaveElements part held
elements_kept sieve text part (whole, is_held, outlined) held is_other =
    elements_in sieve whole part outlined ∙ ap (get (codes "elements")) (held_same text whole held is_held is_other)

-- ---- Maps

abbrev with_rules : PackedElements → FiveRules → Result RuledElements RunError
with_rules elements rules = Ok (record { elements = elements; rules = rules })

-- a document with what the maps have for a locale
module _ (held : Data) (maps : Maps) (locale : List ℕ) (part : WholeDocument) (is : part.maps ≡ of_locale locale maps) where
  abbrev whole : WholeDocument
  whole = record { value = held; maps = maps }

  rules_kept : (type : PluralRuleType) → rules_for type locale part ≡ rules_for type locale whole
  rules_kept Cardinal = rw (is, row_found locale (found locale maps.cardinal)) refl
  rules_kept Ordinal = rw (is, row_found locale (found locale maps.ordinal)) refl

  ranged_kept : (type : PluralRuleType) → ranged_for type locale part ≡ ranged_for type locale whole
  ranged_kept type = rw (rules_kept type, is, row_found locale (found locale maps.ranges)) refl

  elements_with : HaveElements part.value held → (type : PluralRuleType) → elements_for type locale part ≡ elements_for type locale whole
  elements_with same type =
      ap (λ (key : Option Data). or_bad (elements_at_key key) >>= ruled_with type locale part) same
      ∙ by (or_bad (elements_at_key (get (codes "elements") held)))
    where
      by : (given : Result PackedElements RunError) → (given >>= ruled_with type locale part) ≡ (given >>= ruled_with type locale whole)
      by (Ok elements) = ap (λ (rules : Result FiveRules RunError). rules >>= with_rules elements) (rules_kept type)
      by (Err e) = refl

-- where the elements are the same, so are the wanted ones
pub wanted : (lookup : Lookup) (value held : Data) → HaveElements value held → HaveWanted lookup value held
wanted (number_category locale type x) value held same = tt
wanted (range_category locale type x y) value held same = tt
wanted (printed_rules locale type) value held same = tt
wanted (number_element locale type x) value held same = same
wanted (number_message locale type x word) value held same = same

-- the answer of what is kept
pub serves : (lookup : Lookup) (held : Data) (maps : Maps) (part : WholeDocument) → part.maps ≡ of_locale (locale_of lookup) maps
    → HaveWanted lookup part.value held → ServesLookup lookup (record { value = held; maps = maps }) part
serves (number_category locale type x) held maps part is wanted answer h =
    subst (λ given. AnswersFrom (IsCategoryLine x) given answer) (rules_kept held maps locale part is type) h
serves (range_category locale type x y) held maps part is wanted answer h =
    subst (λ given. AnswersFrom (IsRangeLine x y) given answer) (ranged_kept held maps locale part is type) h
serves (printed_rules locale type) held maps part is wanted answer h =
    subst (λ given. AnswersFrom AreRuleLines given answer) (rules_kept held maps locale part is type) h
serves (number_element locale type x) held maps part is wanted answer h =
    subst (λ given. AnswersFrom (IsElementLine x) given answer) (elements_with held maps locale part is wanted type) h
serves (number_message locale type x word) held maps part is wanted answer h =
    subst (λ given. AnswersFrom (IsMessageLine x word) given answer) (elements_with held maps locale part is wanted type) h

-- ---- The document

abbrev with_maps : Data → Maps → Result WholeDocument RunError
with_maps value maps = Ok (record { value = value; maps = maps })

pub document_there : (value : Data) (maps : Maps) → document_of_json value ≡ Ok maps
    → document_of_value value ≡ Ok (record { value = value; maps = maps })
document_there value maps is = ap (λ (stands : Stands Maps). or_bad stands >>= with_maps value) is

refused_by : (value : Data) (locale : List ℕ) (stands : Stands Maps) (fault : RunError) → or_bad (with_locale locale stands) ≡ Err fault
    → (or_bad stands >>= with_maps value) ≡ Err fault
refused_by value locale (Ok maps) fault is = absurd (no_error is)
refused_by value locale (Err refusal) fault is = same_error is

-- a refusal of what is of a locale is one of the document
pub document_refused : (value : Data) (locale : List ℕ) (e : RunError)
    → GivesRunFault (λ fault. or_bad (document_for locale value) ≡ Err fault) e
    → GivesRunFault (λ fault. document_of_value value ≡ Err fault) e
document_refused value locale e h =
    mapped (λ fault. or_bad (document_for locale value) ≡ Err fault) (λ fault. document_of_value value ≡ Err fault)
    (λ fault is. refused_by value locale (document_of_json value) fault is) e h

-- what is of a locale comes from the maps of the document
pub maps_there : (value : Data) (locale : List ℕ) (stands : Stands Maps) (some : Maps) → or_bad (with_locale locale stands) ≡ Ok some
    → (maps : Maps) × (stands ≡ Ok maps) × (some ≡ of_locale locale maps)
maps_there value locale (Ok maps) some is = let same : some ≡ of_locale locale maps = cc in (maps, refl, same)
maps_there value locale (Err refusal) some is = absurd (no_error (sym is))

-- ---- Answers

-- a text that is the answer to one is that to another
pub answer_mapped : (P Q : Result (List ℕ) RunError → Type 0) → ((answer : Result (List ℕ) RunError) → P answer → Q answer)
    → (r : Result Text RunError) → GivesAnswerText P r → GivesAnswerText Q r
answer_mapped P Q f (Ok text) h = f (Ok (cow_str_bytes text)) h
answer_mapped P Q f (Err e) h = mapped (λ fault. P (Err fault)) (λ fault. Q (Err fault)) (λ fault. f (Err fault)) e h
