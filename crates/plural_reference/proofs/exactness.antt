-- When conditions are true of the kept operands exactly if they are of the exact number.
pub mod Folds
pub mod Agreement
pub mod GroupsAgree
pub mod ExactnessLawsProved
mod WorkedOperands
