-- the least numbers of each category
pub mod SeenNumbers
pub mod ToldLists
pub mod Soughts
