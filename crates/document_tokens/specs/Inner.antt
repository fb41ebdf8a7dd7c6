-- Not definitions of the subject: steps of private calls.
pub mod OpenKinds
pub mod OpenBrackets
pub mod HeldParts
