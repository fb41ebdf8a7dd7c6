-- No definitions of the subject: views, and what private functions tell.
pub mod KeyedViews
pub mod WordViews
