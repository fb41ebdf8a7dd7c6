-- reports that grow
pub mod Growth
-- the digits of an end
pub mod AllDigits
-- rules of few bytes
pub mod FewBytes
-- what is read from a text
pub mod TextsRead
-- the order of lists of samples
pub mod ListOrders
-- the zeros at the end of a fraction
pub mod TrailingZeros
-- the texts of steps
pub mod StepTexts
-- numbers that are checked by their operands
pub mod ShortChecks
-- the words of a text
pub mod SampleLemmas
