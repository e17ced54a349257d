pub mod Levels
pub mod Knots
pub mod Steps
