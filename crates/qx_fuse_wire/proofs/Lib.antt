pub mod FormLemmas
pub mod MeaningLemmas
pub mod NumberLemmas
pub mod PairLemmas
pub mod ReplyLemmas
