pub mod ListBytes
pub mod Inner
