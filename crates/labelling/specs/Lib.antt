pub mod Members
pub mod Labelling
pub mod Moments
pub mod Lowest
