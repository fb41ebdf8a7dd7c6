pub mod tokens
pub mod reading
pub mod samples
pub mod rules
pub mod plain
pub mod printing
pub mod exactness
