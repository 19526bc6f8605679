pub mod Count
pub mod Devices
pub mod Latch
pub mod Listed
pub mod Mailbox
pub mod Pump
pub mod Row
pub mod Word
