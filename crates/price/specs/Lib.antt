pub mod Labels
pub mod Places
pub mod Progress
pub mod Desks
pub mod Routes
pub mod Prices
