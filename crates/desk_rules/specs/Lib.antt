-- Which rules of its kind an order breaks, but for those of the map.
pub mod Asked
pub mod OpeningAsked
pub mod StandingAsked
