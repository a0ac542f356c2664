pub mod TwoVisits
pub mod ThreeVisits
pub mod CutVisits
pub mod Penalty
pub mod Told
