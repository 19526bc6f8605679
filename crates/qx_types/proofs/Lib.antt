mod Different
pub mod LimitLemmas
pub mod Managers
