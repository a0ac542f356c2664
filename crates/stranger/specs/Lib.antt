pub mod Counter
pub mod Through
pub mod Counting
pub mod Passing
