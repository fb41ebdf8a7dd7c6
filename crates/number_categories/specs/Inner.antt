-- the least numbers of each category
pub mod SoughtNumbers
pub mod ToldRemainders
