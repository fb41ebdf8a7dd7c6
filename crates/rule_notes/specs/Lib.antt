-- what is noted of a condition by itself
pub mod ConditionCauses
-- what is noted of it beside earlier ones
pub mod LookedAtNumbers
pub mod EarlierRules
-- the notes of a language's rules
pub mod RuleNotes
-- no definitions of the subject
pub mod Inner
