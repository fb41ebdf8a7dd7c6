-- The exactness bound: kept and exact operands choose alike.
pub mod Moduli
pub mod PackedConditions
pub mod ConditionsAdmitted
pub mod ExactCategories
