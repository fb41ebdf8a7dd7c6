-- messages
pub mod Messages
