pub mod RingLends
pub mod Table
