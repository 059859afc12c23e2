mod Chart
mod Orders
pub mod Operating
pub mod Tokens
