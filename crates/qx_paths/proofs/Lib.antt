pub mod MountLemmas
pub mod PathLemmas
pub mod ReadLemmas
pub mod RowLemmas
