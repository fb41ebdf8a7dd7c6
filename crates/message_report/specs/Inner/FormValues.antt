-- Not a definition of the subject: what a message has under the keys of its forms, found by one walk
-- over its members.
use Rattle.std.specs.Prelude.{◌≡◌, Bool, true, false, Option, Some, None, is_some}
use Rattle.std.specs.Option.{option_and_then}
use Rattle.serde_json.specs.Data.{Data}
use Rattle.icu_plurals.specs.declared.PluralCategory.TheVariants.{Zero, One, Two, Few, Many, Other}
use Rattle.message_report.specs.FormFaults.{Language, told_of}
use Rattle.message_report.specs.FoundInMessages.{MessageFound, messages_together}
use Rattle.message_report.specs.Inner.FormSteps.{HasFaultOf, value_count, value_lent}
use Rattle.message_report.specs.MessagePlaces.{MessagePlace}
use Rattle.message_report.specs.MessagesReport.{found_of_fault}
use Rattle.message_report.specs.declared.fault.FormFault.{FormFault}
use Rattle.message_report.specs.declared.form.Form.{Form}
use Rattle.message_report.specs.declared.form.Form.TheVariants.{ExplicitZero, ExplicitOne, Category}
use Rattle.message_report.specs.declared.form.OwnForms.{OwnForms}
use Rattle.message_report.specs.declared.form_values.FormValues.{FormValues}

abbrev pub value_of_form : Form → FormValues → Option Data
value_of_form ExplicitZero values = value_lent values.zero
value_of_form ExplicitOne values = value_lent values.one
value_of_form (Category Zero) values = value_lent values.categories.zero
value_of_form (Category One) values = value_lent values.categories.one
value_of_form (Category Two) values = value_lent values.categories.two
value_of_form (Category Few) values = value_lent values.categories.few
value_of_form (Category Many) values = value_lent values.categories.many
value_of_form (Category Other) values = value_lent values.other

abbrev pub own_forms : FormValues → OwnForms
own_forms values = record {
  zero = is_some (value_of_form ExplicitZero values);
  one = is_some (value_of_form ExplicitOne values);
}

-- the first of two that is there
abbrev pub first_of : Option Data → Option Data → Option Data
first_of None later = later
first_of (Some value) later = Some value

-- a value, if it stands under the key
abbrev pub under_key : Bool → Data → Option Data
under_key true value = Some value
under_key false value = None

-- in a form, by what stands under the keys
abbrev pub IsFoundByValues : Option Language → Bool → MessagePlace → FormValues → Form → MessageFound → Type 0
IsFoundByValues language needs_number place values form found =
    (fault : Option FormFault) × HasFaultOf language (own_forms values).zero (own_forms values).one form (value_of_form form values) fault
    × (found
    ≡ messages_together (value_count (value_of_form form values)) (found_of_fault place form (option_and_then (told_of needs_number) fault)))
