-- The texts that are printed, their tokens, and that what is printed is read as what it was printed
-- from.
pub mod Writes
pub mod SpellableConditions
pub mod PrintedTokens
pub mod PrintedConditions
pub mod PrintedDigits
pub mod PrintedSamples
pub mod PrintedRules
pub mod PrintedBack
