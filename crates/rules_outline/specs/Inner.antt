-- Not definitions of the subject: what is kept of a document, and the steps of private calls.
pub mod RulesOutline
