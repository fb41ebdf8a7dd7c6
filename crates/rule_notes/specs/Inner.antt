-- causes as lists that tests make, and lists that grow
pub mod CauseLists
-- numbers that no earlier rule has
pub mod OwnNumbers
