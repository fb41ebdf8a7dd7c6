-- No definitions of the subject: readers and steps, for views and private contracts.
pub mod RuleReading
pub mod RuleViews
pub mod TextItems
