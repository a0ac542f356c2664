pub mod Options
pub mod Outcomes
pub mod Walks
pub mod InStep
pub mod Counts
pub mod Shut
pub mod Layers
