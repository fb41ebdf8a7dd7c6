-- The bytes of relations and rules: what is written, what is read again, and the faults.
pub mod KindsAgain
pub mod ItemBytes
pub mod FirstBytes
pub mod ItemRanges
pub mod RuleItems
pub mod RuleFaults
