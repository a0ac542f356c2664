pub mod Fits
pub mod Kept
