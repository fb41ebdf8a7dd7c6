pub mod Operands
pub mod OperandText
pub mod OperandLaws
-- not definitions of the subject
pub mod Inner
