pub mod Columns
pub mod Fences
pub mod Law
pub mod Names
pub mod Walk
