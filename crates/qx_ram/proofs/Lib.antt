-- what a write comes to
pub mod WriteLemmas
