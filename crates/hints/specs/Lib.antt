-- What a line with a fault was meant to be.
pub mod Choice
pub mod Mail
pub mod Meant
pub mod Slip
pub mod Words
