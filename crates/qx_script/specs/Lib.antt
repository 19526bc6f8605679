pub mod Lines
pub mod Replay
pub mod Script
pub mod Settings
pub mod StepText
