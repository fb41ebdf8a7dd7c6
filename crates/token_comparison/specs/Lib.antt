-- texts that have the same tokens
pub mod SameTokens
