-- Not definitions of the subject: views of private values.
pub mod WordViews
