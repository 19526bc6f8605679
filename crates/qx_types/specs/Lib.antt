pub mod Configuration
pub mod Cut
pub mod Flags
pub mod Managers
pub mod Optional
pub mod Step
pub mod UserLimits
