-- No definitions of the subject: readers and steps, for views and private contracts.
pub mod RulesSteps
pub mod JsonSteps
pub mod CategoryValues
pub mod KeyedItems
pub mod Masks
pub mod WholeNumbers
pub mod FractionClasses
pub mod OrderedRules
pub mod AskedRules
