-- The values under the keys of forms, member by member.
use Rattle.std.proofs.Common.{◌≡◌, Bool, true, false, List, Option, Some, None, ℕ, refl, sym, ap, ◌∙◌}
use Rattle.std.proofs.Common.{Ordering, Less, Equal, Greater, is_eq, nat_cmp}
use Rattle.std.specs.Cmp.Lexicographic.{slice_cmp}
use Rattle.std.specs.Ordering.{match_ordering}
use Rattle.std.specs.Prelude.{◌||◌, IsFalse, bytes_eq, not}
use Rattle.std.proofs.lemmas.Map.Text.{is_eq-slice_cmp}
use Rattle.serde_json.specs.Data.{Data, Members, member, object}
use Rattle.serde_json.specs.Find.{as_object, get_member}
use Rattle.message_report.specs.FormFaults.{Language}
use Rattle.message_report.specs.FoundInMessages.{MessageFound}
use Rattle.message_report.specs.Inner.FormValues.{first_of, under_key, value_of_form, IsFoundByValues}
use Rattle.message_report.specs.MessageForms.{form_under, is_form_name}
use Rattle.message_report.specs.MessagePlaces.{MessagePlace}
use Rattle.message_report.specs.MessagesReport.{other_keys, IsFoundInForm}
use Rattle.message_report.specs.declared.form.Form.{Form}
use Rattle.message_report.specs.declared.form.Form.TheVariants.{ExplicitZero, ExplicitOne}
use Rattle.message_report.specs.declared.form_values.FormValues.{FormValues}
use Rattle.message_report.proofs.FormLemmas.{form_fault_is}

-- nothing comes behind the last member
pub first_alone : (found : Option Data) → first_of found None ≡ found
first_alone None = refl
first_alone (Some value) = refl

-- the first under a key is the first member, or among the rest
among : (key name : List ℕ) (value : Data) (rest : Members)
    → first_of (under_key (bytes_eq key name) value) (get_member key rest) ≡ get_member key (member name value rest)
among key name value rest = by (slice_cmp nat_cmp key name) (bytes_eq key name) (is_eq-slice_cmp key name)
  where
    by : (order : Ordering) (same : Bool) → is_eq order ≡ same
        → first_of (under_key same value) (get_member key rest)
        ≡ match_ordering order (get_member key rest) (Some value) (get_member key rest)
    by Less same is = rw (sym is) refl
    by Equal same is = rw (sym is) refl
    by Greater same is = rw (sym is) refl

-- one member is taken
pub next_value : (key name : List ℕ) (value : Data) (rest : Members) (old new all : Option Data)
    → new ≡ first_of old (under_key (bytes_eq key name) value)
    → first_of old (get_member key (member name value rest)) ≡ all → first_of new (get_member key rest) ≡ all
next_value key name value rest old new all step so_far =
    ap (λ (found : Option Data). first_of found (get_member key rest)) step ∙ by old ∙ so_far
  where
    by : (found : Option Data) → first_of (first_of found (under_key (bytes_eq key name) value)) (get_member key rest)
        ≡ first_of found (get_member key (member name value rest))
    by None = among key name value rest
    by (Some first) = refl

-- as long as each key names a form, the others are among the rest
pub next_other : (name : List ℕ) (value : Data) (rest : Members) (old new : Bool) (all : List (List ℕ))
    → new ≡ (old || not (is_form_name name)) → (IsFalse old → other_keys (member name value rest) ≡ all)
    → IsFalse new → other_keys rest ≡ all
next_other name value rest true new all step so_far none = absurd cc
next_other name value rest false new all step so_far none = by (is_form_name name) refl
  where
    by : (named : Bool) → is_form_name name ≡ named → other_keys rest ≡ all
    by true named = let whole : other_keys (member name value rest) ≡ all = so_far refl in rw named at whole
    by false named = absurd cc

-- a value that is an object with these members
pub object_with : (value : Data) (members : Members) → as_object value ≡ Some members → value ≡ object members
object_with value members is = by value is
  where
    by : (value : Data) → as_object value ≡ Some members → value ≡ object members
    by (object ms) same = cc
    by _ same = absurd cc

-- what is found by the values is what is found in the message that has them
pub found_by_values : (language : Option Language) (needs_number : Bool) (place : MessagePlace) (values : FormValues) (message : Data)
    → ((form : Form) → value_of_form form values ≡ form_under form message) → (form : Form) (found : MessageFound)
    → IsFoundByValues language needs_number place values form found → IsFoundInForm language needs_number place message form found
found_by_values language needs_number place values message are form found by_values =
    let zero = are ExplicitZero in
    let one = are ExplicitOne in (
      by_values.0,
      form_fault_is language form message _ _ _ by_values.0 (rw zero refl) (rw one refl) (are form) by_values.1,
      by_values.2 ∙ rw (are form) refl,
    )
