pub mod CommandLemmas
pub mod Invoked
pub mod LimitLemmas
pub mod Written
