-- the bytes of patterns, passed on
pub use Rattle.pattern_bytes.specs.PatternBytes
-- patterns of messages
pub mod PatternParts
pub mod PatternText
pub mod PatternStyles
pub mod PatternHeads
pub mod PatternReading
pub mod PatternGrammar
pub mod PatternAnswers
pub mod PatternPrinting
pub mod StyledParts
-- not definitions of the subject
pub mod Inner
