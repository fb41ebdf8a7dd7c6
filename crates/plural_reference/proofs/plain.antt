-- Samples that are left out: the bytes behind them are those behind their tokens.
pub mod PlainBytes
pub mod PlainLists
