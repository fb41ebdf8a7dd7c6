pub mod ChosenLemmas
pub mod EachFound
pub mod FormLemmas
pub mod FormValueLemmas
pub mod KeywordLemmas
pub mod KnownRules
pub mod LanguageLemmas
pub mod MessagesFound
pub mod PartLemmas
-- rules that choose alike for whole numbers that leave the same by 100
pub mod Periods
-- findings of patterns
pub mod BranchLemmas
pub mod KindLemmas
pub mod OwnBranches
pub mod PatternTold
pub mod TellLemmas
pub mod TextLemmas
pub mod TextLists
pub mod ToldLemmas
