pub mod ReadCalls
pub mod ReadForms
