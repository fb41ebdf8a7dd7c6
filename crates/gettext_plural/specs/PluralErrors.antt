-- The texts that the errors print.
use Rattle.std.specs.Prelude.{ℕ, List, ◌++◌, codes}
use Rattle.std.specs.Fmt.{decimal}
use Rattle.gettext_plural.specs.declared.error.FaultKind.{FaultKind}
use Rattle.gettext_plural.specs.declared.error.FaultKind.TheVariants.{TooLong, NoCount, BadCount, NoExpression, ExpectedOperand, ExpectedOperator, Unfinished}
use Rattle.gettext_plural.specs.declared.error.IndexError.{IndexError}
use Rattle.gettext_plural.specs.declared.error.IndexError.TheVariants.{DividesByZero, TooLarge}
use Rattle.gettext_plural.specs.declared.error.PluralFormsError.{PluralFormsError}
use Rattle.gettext_plural.specs.declared.error.PluralFormsError.TheVariants as errors

abbrev pub fault_kind_text : FaultKind → List ℕ
fault_kind_text TooLong = codes "the text has more than 1000 bytes"
fault_kind_text NoCount = codes "no 'nplurals='"
fault_kind_text BadCount = codes "expected a number of forms from 1 to 100"
fault_kind_text NoExpression = codes "no 'plural='"
fault_kind_text ExpectedOperand = codes "expected a number, 'n', '!' or '('"
fault_kind_text ExpectedOperator = codes "expected an operator"
fault_kind_text Unfinished = codes "a '(' or a '?' isn't closed"

abbrev pub plural_forms_error_text : PluralFormsError → List ℕ
plural_forms_error_text (errors.Fault kind place) = fault_kind_text kind ++ codes " at byte " ++ decimal place
plural_forms_error_text errors.Memory = codes "out of memory"

abbrev pub index_error_text : IndexError → List ℕ
index_error_text DividesByZero = codes "the expression divides by 0"
index_error_text (TooLarge value) = codes "the index " ++ decimal value ++ codes " isn't below the number of forms"
