pub mod Play
pub mod Printed
pub mod inner
