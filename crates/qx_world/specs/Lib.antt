pub mod Lending
pub mod Outcomes
pub mod Seats
pub mod Steps
pub mod Trace
pub mod inner
