-- The rounds of a play are written one after the other, as they are played.
use Rattle.std.specs.Prelude.{ℕ, List, Option}
use Rattle.std.specs.Io.KnownBytes.{Appends}
use Rattle.report.specs.Parts.{IsTextOfSteps}
use Rattle.rounds.specs.Steps.{Stays, Underway, started}
use Rattle.rounds.specs.declared.game.End.{End}
use Rattle.umpire.specs.Failure.{AppendsPrefix}

-- the texts of some rounds of a file, from its first on, follow what the writer held; so far play
-- has come
pub record WritesRounds (file : List ℕ) (play : Underway) (old new : Option (List ℕ)) : Type 0 where
  pub steps : ℕ
  pub text : List ℕ
  pub is_text : IsTextOfSteps steps (started file) play text
  pub written : Appends old new text

-- the texts of all rounds do, and a step has returned that play has stopped
pub record WritesAllRounds (file : List ℕ) (ended : Underway) (old new : Option (List ℕ)) : Type 0 where
  pub last : Underway
  pub rounds : WritesRounds file last old new
  pub end : End
  pub stays : Stays last end ended

-- a prefix of the texts of some rounds does
pub record WritesPrefixOfRounds (file : List ℕ) (old new : Option (List ℕ)) : Type 0 where
  pub steps : ℕ
  pub play : Underway
  pub text : List ℕ
  pub is_text : IsTextOfSteps steps (started file) play text
  pub prefix : AppendsPrefix old new text

-- these are the texts of all rounds of a file, one after the other, and a step has returned that
-- play has stopped
pub record IsTextOfRounds (file : List ℕ) (ended : Underway) (text : List ℕ) : Type 0 where
  pub steps : ℕ
  pub last : Underway
  pub is_text : IsTextOfSteps steps (started file) last text
  pub end : End
  pub stays : Stays last end ended
