pub mod Classes
pub mod Fields
pub mod Nesting
pub mod Pages
pub mod Steps
pub mod Taken
pub mod Values
pub mod Words
