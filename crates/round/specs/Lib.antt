pub mod Round
pub mod Laws
pub mod Arrivals
pub mod Told
