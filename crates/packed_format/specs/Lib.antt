-- arguments by place
pub mod PlacedArguments
-- not definitions of the subject
pub mod Inner
