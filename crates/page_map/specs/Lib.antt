pub mod ClosedWords
pub mod News
pub mod SceneShown
pub mod TokensShown
