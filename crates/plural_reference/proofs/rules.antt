-- What is read of a whole rule: of every list of tokens one thing is read or it has one fault, and
-- so it is with every text.
pub mod RuleReadings
pub mod RuleTexts
pub mod Answered
pub mod WholeRules
pub mod FaultBytes
pub mod WorkedRuleTexts
