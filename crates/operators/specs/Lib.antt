pub mod Codes
pub mod Ranks
pub mod Spellings
pub mod Signs
pub mod Ranges
