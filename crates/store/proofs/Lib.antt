pub mod Weights
pub mod Places
pub mod Offers
pub mod Turns
pub mod Numbers
pub mod Alike
