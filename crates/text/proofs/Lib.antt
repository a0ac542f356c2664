pub mod Fronts
pub mod Reading
pub mod Trips
pub mod Loops
