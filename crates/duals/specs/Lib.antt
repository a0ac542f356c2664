pub mod Duals
pub mod Bottoms
