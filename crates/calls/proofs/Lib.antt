pub mod Floors
pub mod Runs
