-- the bytes of patterns
pub mod PatternBytes
