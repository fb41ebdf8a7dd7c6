pub mod Lexer
pub mod PluralReferenceErrors
pub mod Parser
pub mod Samples
pub mod FaultPlaces
pub mod Serializer
pub mod Reading
pub mod RelationSinks
pub mod Truth
pub mod Exactness
pub mod ReadingLaws
pub mod ExactnessLaws
pub mod PrintingLaws
-- not definitions of the subject
pub mod Inner
