pub mod FourStops
