pub mod NextKind
pub mod Fall
pub mod Then
pub mod Raised
pub mod Dangers
pub mod Laws
