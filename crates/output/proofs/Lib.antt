pub mod Lent
pub mod Loops
