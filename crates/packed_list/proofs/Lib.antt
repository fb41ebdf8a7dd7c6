mod TwoBytes
mod ListPlaces
mod CursorPlaces
mod OneList
mod Accepted
mod Refused
mod ToldItems
mod WorkedLists
