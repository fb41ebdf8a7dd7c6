-- The code of each cause of a document's finding, a word that stays the same.
--     document_code_of cause      the code of a cause
--     document_code_name code      its word
use Rattle.std.specs.Prelude.{ℕ, List, [], ◌∷◌, codes, map}
use Rattle.document_report.specs.declared.cause.Cause.{Cause}
use Rattle.document_report.specs.declared.cause.Cause.TheVariants as cause
use Rattle.document_report.specs.declared.entry.EntryFault.{EntryFault}
use Rattle.document_report.specs.declared.entry.EntryFault.TheVariants as entry
use Rattle.finding_formats.specs.FindingCodes.{place_among}
use Rattle.plural_checker.specs.declared.fault.TextFault.{TextFault}
use Rattle.plural_checker.specs.declared.fault.TextFault.TheVariants as text
use Rattle.document_formats.specs.declared.code.Code.{Code}
use Rattle.document_formats.specs.declared.code.Code.TheVariants.{NotAPart, NoObject, LongKey, KeyWithUnderscore, NoOther, NoText, LongText, Unread, PartlyRead, SampleOrder, Condition}
use Rattle.document_formats.specs.declared.code.Code.TheVariants.{WrongSample, NotACategory, NoRules, RangeKey, RangeValue, NoRule, LongParent, EndlessChain, NoLocale, More}

abbrev pub code_of_text : TextFault → Code
code_of_text (text.TooLong bytes) = LongText
code_of_text (text.Unread kind byte) = Unread
code_of_text (text.Partly printed) = PartlyRead
code_of_text text.Order = SampleOrder
code_of_text text.Condition = Condition
code_of_text (text.Sample type fault) = WrongSample

abbrev pub code_of_entry : EntryFault → Code
code_of_entry entry.RangeKey = RangeKey
code_of_entry entry.NoText = NoText
code_of_entry entry.RangeValue = RangeValue
code_of_entry (entry.NoRule category) = NoRule

abbrev pub document_code_of : Cause → Code
document_code_of cause.NotAPart = NotAPart
document_code_of cause.NoObject = NoObject
document_code_of cause.LongKey = LongKey
document_code_of cause.KeyWithUnderscore = KeyWithUnderscore
document_code_of cause.NoOther = NoOther
document_code_of cause.NoText = NoText
document_code_of (cause.Text fault) = code_of_text fault
document_code_of cause.NotACategory = NotACategory
document_code_of cause.NoCardinalRules = NoRules
document_code_of (cause.Entry fault) = code_of_entry fault
document_code_of cause.LongParent = LongParent
document_code_of cause.EndlessChain = EndlessChain
document_code_of cause.NoLocale = NoLocale
document_code_of (cause.More count) = More

abbrev pub document_code_name : Code → List ℕ
document_code_name NotAPart = codes "not-a-part"
document_code_name NoObject = codes "no-object"
document_code_name LongKey = codes "long-key"
document_code_name KeyWithUnderscore = codes "key-with-underscore"
document_code_name NoOther = codes "no-other"
document_code_name NoText = codes "no-text"
document_code_name LongText = codes "long-text"
document_code_name Unread = codes "unread"
document_code_name PartlyRead = codes "partly-read"
document_code_name SampleOrder = codes "sample-order"
document_code_name Condition = codes "condition"
document_code_name WrongSample = codes "wrong-sample"
document_code_name NotACategory = codes "not-a-category"
document_code_name NoRules = codes "no-rules"
document_code_name RangeKey = codes "range-key"
document_code_name RangeValue = codes "range-value"
document_code_name NoRule = codes "no-rule"
document_code_name LongParent = codes "long-parent"
document_code_name EndlessChain = codes "endless-chain"
document_code_name NoLocale = codes "no-locale"
document_code_name More = codes "more"

-- what a code means, in a sentence
abbrev pub document_code_meaning : Code → List ℕ
document_code_meaning NotAPart = codes "A key of the document names no part."
document_code_meaning NoObject = codes "The parents aren't an object."
document_code_meaning LongKey = codes "The key of a locale has more than 255 bytes."
document_code_meaning KeyWithUnderscore = codes "The key of a locale has an underscore."
document_code_meaning NoOther = codes "The rules of a locale have no text of other."
document_code_meaning NoText = codes "The value of a category, a range or a parent isn't a text."
document_code_meaning LongText = codes "The text of a rule has too many bytes."
document_code_meaning Unread = codes "The text can't be read as a rule."
document_code_meaning PartlyRead = codes "Part of the text of a rule isn't read."
document_code_meaning SampleOrder = codes "The lists of samples are out of order."
document_code_meaning Condition = codes "The text of other has a condition."
document_code_meaning WrongSample = codes "Something is wrong with a sample."
document_code_meaning NotACategory = codes "A key of a locale's rules names no category."
document_code_meaning NoRules = codes "A locale has ranges and no cardinal rules."
document_code_meaning RangeKey = codes "A key of a locale's ranges names no range."
document_code_meaning RangeValue = codes "The value of a range names no category."
document_code_meaning NoRule = codes "A category of a range has no cardinal rule."
document_code_meaning LongParent = codes "The parent of a locale has more than 255 bytes."
document_code_meaning EndlessChain = codes "The chain of a locale's parents doesn't end."
document_code_meaning NoLocale = codes "The document has no locale."
document_code_meaning More = codes "Further faults of a text are only counted."

-- all codes, in the order of the list of rules
abbrev pub all_document_codes : List Code
all_document_codes =
    NotAPart ∷ NoObject ∷ LongKey ∷ KeyWithUnderscore ∷ NoOther ∷ NoText ∷ LongText ∷ Unread ∷ PartlyRead ∷ SampleOrder
    ∷ Condition ∷ WrongSample ∷ NotACategory ∷ NoRules ∷ RangeKey ∷ RangeValue ∷ NoRule ∷ LongParent ∷ EndlessChain ∷ NoLocale ∷ More ∷ []

-- its place in that list
abbrev pub document_code_place : Code → ℕ
document_code_place code = place_among (document_code_name code) (map document_code_name all_document_codes)
