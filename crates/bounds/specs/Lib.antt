pub mod Faults
pub mod Narrow
pub mod Bounds
pub mod Bytes
