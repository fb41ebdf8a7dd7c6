-- what the tests of relations decide
pub mod NeverTrueTests
-- lists of causes
pub mod ListedCauses
-- the operands of decimals
pub mod Decimals
-- numbers that are found
pub mod OwnNumbersFound
-- notes one after the other
pub mod NoteGrowth
-- the conditions of texts
pub mod TextConditions
-- one list
pub mod OneList
