-- The forms of a message, by what it has under their keys.
use Rattle.std.proofs.Common.{◌≡◌, Bool, Option, Some, None, ap, subst}
use Rattle.std.specs.Borrow.{Bor}
use Rattle.std.specs.Prelude.{option_copied, option_map}
use Rattle.serde_json.specs.Data.{Data}
use Rattle.message_report.specs.FormFaults.{Language, HasFormFault}
use Rattle.message_report.specs.Inner.FormSteps.{language_lent, HasFaultOf}
use Rattle.message_report.specs.Inner.LanguageViews.{language_view}
use Rattle.message_report.specs.MessageForms.{form_under, has_form}
use Rattle.message_report.specs.declared.fault.FormFault.{FormFault}
use Rattle.message_report.specs.declared.form.Form.{Form}
use Rattle.message_report.specs.declared.form.Form.TheVariants.{ExplicitZero, ExplicitOne, Category}
use Rattle.message_report.specs.declared.language.Language.{Language as CodeLanguage}

-- the fault by what stands under the key is that of the form in the message
in_message : (language : Option Language) (form : Form) (message : Data) (fault : Option FormFault)
    → HasFaultOf language (has_form ExplicitZero message) (has_form ExplicitOne message) form (form_under form message) fault
    → HasFormFault language form message fault
in_message language ExplicitZero message fault has = has
in_message language ExplicitOne message fault has = has
in_message None (Category category) message fault has = has
in_message (Some language) (Category category) message fault has = has

pub form_fault_is : (language : Option Language) (form : Form) (message : Data) (own_zero own_one : Bool) (value : Option Data)
    (fault : Option FormFault) → own_zero ≡ has_form ExplicitZero message → own_one ≡ has_form ExplicitOne message
    → value ≡ form_under form message → HasFaultOf language own_zero own_one form value fault
    → HasFormFault language form message fault
form_fault_is language form message own_zero own_one value fault is_zero is_one is has =
    in_message language form message fault
    (subst (λ (zero : Bool). HasFaultOf language zero (has_form ExplicitOne message) form (form_under form message) fault) is_zero
    (subst (λ (one : Bool). HasFaultOf language own_zero one form (form_under form message) fault) is_one
    (subst (λ (v : Option Data). HasFaultOf language own_zero own_one form v fault) is has)))

-- a language that is lent is the language
pub lent_language : (lent : Option (Bor CodeLanguage)) (language : Option CodeLanguage) → option_copied lent ≡ language
    → language_lent lent ≡ option_map language_view language
lent_language None language same = ap (option_map language_view) same
lent_language (Some l) language same = ap (option_map language_view) same
