-- No definitions of the subject: readers and steps, for views and private contracts.
pub mod UnsignedInside
pub mod TextParts
pub mod RoundingSteps
pub mod PlainSides
