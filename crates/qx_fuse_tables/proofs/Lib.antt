pub mod NodeLemmas
pub mod NumberLemmas
pub mod PathLemmas
pub mod ThreadLemmas
pub mod ToldLemmas
