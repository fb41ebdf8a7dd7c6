pub mod HeldTokens
pub mod TextTokens
-- not definitions of the subject
pub mod Inner
