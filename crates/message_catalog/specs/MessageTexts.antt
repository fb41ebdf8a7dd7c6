-- The texts that the errors print.
use Rattle.std.specs.Prelude.{ℕ, List, ◌++◌, codes}
use Rattle.std.specs.Fmt.{decimal}
use Rattle.message_pattern.specs.PatternAnswers.{pattern_fault_text}
use Rattle.message_format.specs.FormatMeaning.{format_error_text}
use Rattle.packed_catalog.specs.CatalogFaults.{catalog_error_text, pack_catalog_error_text}
use Rattle.packed_pattern.specs.PatternBlocks.{block_error_text, pack_pattern_error_text}
use Rattle.message_catalog.specs.declared.error.MessageCatalogError.{MessageCatalogError}
use Rattle.message_catalog.specs.declared.error.MessageCatalogError.TheVariants as errors
use Rattle.message_catalog.specs.declared.error.SayError.{SayError}
use Rattle.message_catalog.specs.declared.error.SayError.TheVariants as saying
use Rattle.message_catalog.specs.declared.error.TextFault.{TextFault}
use Rattle.message_catalog.specs.declared.error.TextFault.TheVariants as fault
use Rattle.message_catalog.specs.declared.error.PackMessagesError.{PackMessagesError}
use Rattle.message_catalog.specs.declared.error.PackMessagesError.TheVariants as packing

-- why bytes aren't a catalogue of messages
abbrev pub message_catalog_error_text : MessageCatalogError → List ℕ
message_catalog_error_text (errors.Catalog fault) = catalog_error_text fault
message_catalog_error_text (errors.Pattern place fault) = codes "entry " ++ decimal place ++ codes ": " ++ block_error_text fault

-- why a message isn't said
abbrev pub say_error_text : SayError → List ℕ
say_error_text saying.NoKey = codes "no message has the key"
say_error_text (saying.Format error) = format_error_text error

-- what is wrong with the text of a pattern
abbrev pub text_fault_text : TextFault → List ℕ
text_fault_text (fault.Text kind place) = pattern_fault_text kind ++ codes " at byte " ++ decimal place
text_fault_text (fault.Pattern error) = pack_pattern_error_text error

-- why messages can't be packed
abbrev pub pack_messages_error_text : PackMessagesError → List ℕ
pack_messages_error_text (packing.Message place of_text) = codes "message " ++ decimal place ++ codes ": " ++ text_fault_text of_text
pack_messages_error_text (packing.Catalog error) = pack_catalog_error_text error
pack_messages_error_text packing.Memory = codes "out of memory"
