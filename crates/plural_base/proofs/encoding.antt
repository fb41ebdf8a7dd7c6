-- Rules as bytes: one encoding, and the first fault.
pub mod RawCategories
pub mod OneRulesEncoding
pub mod RuleItemFaults
