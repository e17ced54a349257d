pub mod Knot
pub mod Heads
pub mod Tails
pub mod Grammar
