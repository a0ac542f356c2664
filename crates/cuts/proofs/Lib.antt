pub mod Gives
pub mod Loops
pub mod Credits
pub mod Threes
pub mod Kept
