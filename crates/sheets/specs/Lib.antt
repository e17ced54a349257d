pub mod Model
pub mod States
pub mod Sheets
