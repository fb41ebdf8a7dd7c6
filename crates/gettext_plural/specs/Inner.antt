-- No definitions of the subject: a reader of expressions, and views of private types, for private
-- contracts.
pub mod PluralMachine
pub mod FormulaViews
