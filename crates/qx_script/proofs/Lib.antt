pub mod ReadBack
pub mod ReadCommands
pub mod ReadScripts
pub mod Replays
pub mod SettingLemmas
