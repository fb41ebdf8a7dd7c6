-- No definitions of the subject: readers and steps, for views and private contracts.
pub mod ElementsReading
pub mod ElementsViews
