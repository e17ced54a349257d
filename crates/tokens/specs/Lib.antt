pub mod Looks
pub mod Words
