pub mod Knots
pub mod Rows
pub mod Readings
pub mod Plainly
pub mod Examples
