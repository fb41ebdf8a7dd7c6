-- The operands of a number: how they are computed from its digits or read from a text, and the laws
-- on them.
pub mod Numbers
pub mod Fractions
pub mod Conversion
pub mod OperandLawsProved
pub mod OperandTexts
pub mod ShortReading
pub mod Shifts
pub mod NamedOnce
pub mod Refusals
