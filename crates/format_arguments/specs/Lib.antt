-- arguments of texts
pub mod DirectiveBytes
pub mod DirectiveTables
pub mod Directives
pub mod CutTexts
pub mod ToldArguments
pub mod SameArguments
pub mod CountedArguments
-- not definitions of the subject
pub mod Inner
