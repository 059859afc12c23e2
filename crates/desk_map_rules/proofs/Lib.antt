pub mod Answered
pub mod Walks
