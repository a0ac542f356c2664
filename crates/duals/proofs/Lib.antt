pub mod Credits
pub mod Plans
pub mod Legs
pub mod Lawful
