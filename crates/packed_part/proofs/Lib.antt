pub mod Joined
pub mod Forms
