pub mod Town
pub mod Laws
pub mod Told
