pub mod Moves
pub mod Machine
