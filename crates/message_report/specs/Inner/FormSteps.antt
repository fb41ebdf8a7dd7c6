-- Not a definition of the subject: the fault of a form by what a message has under its key.
use Rattle.std.specs.Prelude.{◌≡◌, Bool, Option, Some, None, is_some, option_map, if◌then◌else◌}
use Rattle.std.specs.Borrow.{Bor}
use Rattle.serde_json.specs.Data.{Data}
use Rattle.serde_json.specs.View.{view}
use Rattle.serde_json.specs.declared.Value.{Value}
use Rattle.message_report.specs.FormFaults.{Language, form_value_fault, HasFaultUnder}
use Rattle.message_report.specs.FoundInMessages.{MessageFound, nothing_found_in_messages, one_form}
use Rattle.message_report.specs.Inner.LanguageViews.{language_view}
use Rattle.message_report.specs.declared.fault.FormFault.{FormFault}
use Rattle.message_report.specs.declared.form.Form.{Form}
use Rattle.message_report.specs.declared.form.Form.TheVariants.{ExplicitZero, ExplicitOne, Category}
use Rattle.message_report.specs.declared.language.Language.{Language as CodeLanguage}

abbrev pub language_lent : Option (Bor CodeLanguage) → Option Language
language_lent language = option_map (λ l. language_view l.now) language

abbrev pub value_lent : Option (Bor Value) → Option Data
value_lent value = option_map (λ v. view v.now) value

-- by whether exactly 0 and exactly 1 have forms of their own
abbrev pub HasFaultOf : Option Language → Bool → Bool → Form → Option Data → Option FormFault → Type 0
HasFaultOf language own_zero own_one ExplicitZero value fault = fault ≡ form_value_fault value
HasFaultOf language own_zero own_one ExplicitOne value fault = fault ≡ form_value_fault value
HasFaultOf None own_zero own_one (Category category) value fault = fault ≡ form_value_fault value
HasFaultOf (Some language) own_zero own_one (Category category) value fault =
    HasFaultUnder language category (language.numbers category own_zero own_one) value fault

-- a value that is there is counted
abbrev pub value_count : Option Data → MessageFound
value_count value = if is_some value then one_form else nothing_found_in_messages
