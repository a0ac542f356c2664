pub mod LineTrips
pub mod StopLoop
pub mod LegLoop
pub mod Opening
pub mod Mixed
pub mod StopTrips
pub mod LegTrips
pub mod DeckTrips
