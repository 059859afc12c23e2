-- What the desk finds of a game as it stands.
pub mod RoundName
pub mod Statement
