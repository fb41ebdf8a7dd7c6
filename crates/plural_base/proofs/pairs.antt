-- Ranges, their names and their texts.
pub mod RangeNames
pub mod FirstHyphens
pub mod RangeTexts
pub mod RangesWritten
pub mod RangeRefusals
pub mod RangeMembers
pub mod RangesAgain
