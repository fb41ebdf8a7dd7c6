-- Rules that come from texts, and texts that are printed.
pub mod JoinedTexts
pub mod RuleTexts
pub mod SpellableTrees
pub mod PrintedAgain
pub mod FaultKinds
pub mod TextAnswers
pub mod TextItems
