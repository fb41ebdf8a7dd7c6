-- No definitions of the subject: views of private types, for private contracts.
pub mod DraftViews
pub mod FrontViews
pub mod LineViews
pub mod QuotedViews
