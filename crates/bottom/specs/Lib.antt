pub mod Driving
pub mod Laws
