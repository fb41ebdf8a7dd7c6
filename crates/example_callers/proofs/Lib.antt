pub mod NumberFaults
pub mod Chosen
pub mod Exponents
