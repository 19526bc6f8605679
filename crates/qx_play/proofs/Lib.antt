pub mod PlayedSteps
pub mod Replayed
pub mod Rounds
pub mod Serving
pub mod Shown
