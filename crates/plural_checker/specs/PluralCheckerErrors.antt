-- The texts that faults print.
use Rattle.std.specs.Prelude.{ℕ, List, ◌++◌, codes}
use Rattle.std.specs.Fmt.{decimal}
use Rattle.icu_plurals.specs.Categories.{name_of}
use Rattle.icu_plurals.specs.Written.{error_text}
use Rattle.icu_plurals.specs.Serializer.{sample_range_text}
use Rattle.plural_reference.specs.PluralReferenceErrors.{parse_error_text}
use Rattle.number_categories.specs.WholeNumbers.{wrong_number_text}
use Rattle.plural_checker.specs.declared.fault.Fault.{Fault}
use Rattle.plural_checker.specs.declared.fault.RangeFault.{RangeFault}
use Rattle.plural_checker.specs.declared.fault.RangeFault.TheVariants.{End, Uneven, Long, Down, Wide}
use Rattle.plural_checker.specs.declared.fault.SampleFault.{SampleFault}
use Rattle.plural_checker.specs.declared.fault.SampleFault.TheVariants.{Range, Number}
use Rattle.plural_checker.specs.declared.fault.TextFault.{TextFault}
use Rattle.plural_checker.specs.declared.fault.TextFault.TheVariants.{TooLong, Unread, Partly, Order, Condition, Sample}

abbrev pub range_fault_text : RangeFault → List ℕ
range_fault_text (End error) = codes ": " ++ error_text error
range_fault_text Uneven = codes " has ends of different forms"
range_fault_text Long = codes " has more than 18 digits"
range_fault_text Down = codes " goes down"
range_fault_text Wide = codes " has more than 100 numbers"

-- the range or the number, and its fault
abbrev pub sample_fault_text : SampleFault → List ℕ
sample_fault_text (Range range fault) = sample_range_text range ++ range_fault_text fault
sample_fault_text (Number number fault) = number ++ wrong_number_text fault

abbrev pub rule_text_fault_text : TextFault → List ℕ
rule_text_fault_text (TooLong bytes) = codes "text of " ++ decimal bytes ++ codes " bytes"
rule_text_fault_text (Unread kind byte) = parse_error_text kind ++ codes " at byte " ++ decimal byte
rule_text_fault_text (Partly printed) = codes "read as " ++ printed
rule_text_fault_text Order = codes "samples out of order"
rule_text_fault_text Condition = codes "has a condition"
rule_text_fault_text (Sample type fault) = codes "sample " ++ sample_fault_text fault

abbrev pub fault_text : Fault → List ℕ
fault_text fault = name_of fault.category ++ codes ": " ++ rule_text_fault_text fault.kind
