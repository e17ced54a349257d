pub mod Table
pub mod GoodSigns
pub mod Marked
pub mod Examples
