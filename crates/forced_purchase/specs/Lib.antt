pub mod Shortfall
pub mod Raise
pub mod Forced
pub mod ForcedLaws
