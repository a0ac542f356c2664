pub mod Places
pub mod Works
