pub mod FieldLemmas
pub mod ReadLemmas
pub mod RestLemmas
pub mod TableLemmas
