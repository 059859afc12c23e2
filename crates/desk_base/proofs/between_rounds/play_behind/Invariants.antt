use Rattle.std.proofs.Common.{◌≡◌}
use Rattle.desk_base.proofs.PlayedLemmas.{HasNotPlayed}
use Rattle.desk_base.specs.Moments.{IsFromStart}
use Rattle.rounds.specs.Steps.{IsUnbroken, places_ahead}
use Rattle.desk_base.proofs.between_rounds.play_behind.Given as goal

-- no fault has broken play off, its file is that of the sheets, it has come from the start of that file, and it
-- has not played the round
abbrev pub invariant-loop-play : goal.invariant-loop-play
invariant-loop-play l = IsUnbroken l.play × (l.play.file ≡ l.sheets) × IsFromStart l.sheets l.play × HasNotPlayed l.play l.asked

-- each round has a later place than the one before
abbrev pub decreases-loop-play : goal.decreases-loop-play
decreases-loop-play l = places_ahead l.play
