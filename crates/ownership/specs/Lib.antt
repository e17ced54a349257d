pub mod Ownership
pub mod Plainly
