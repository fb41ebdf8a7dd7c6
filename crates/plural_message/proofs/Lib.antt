pub mod Chosen
pub mod Given
pub mod Fillings
pub mod OneWay
