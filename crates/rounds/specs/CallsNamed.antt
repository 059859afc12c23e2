-- The calls of a game are for rounds that a line can name. By the sequence their numbers begin with
-- 1, and no set has more than three operating rounds. None is past 99,999, because a round is
-- played once every seat has a sheet for it, and no line can name a later one.
use Rattle.std.specs.Prelude.{ℕ, List, Ok}
use Rattle.std.specs.List.{AllByRecursion}
use Rattle.operating.specs.Calls.{Call}
use Rattle.rounds.specs.GameCalls.{GameCalls}
use Rattle.rounds.specs.Play.{Played}
use Rattle.sheets.specs.File.{IsAccepted}
use Rattle.tables.specs.Round.{IsNamed}

abbrev pub CallsAreNamed : Type 0
CallsAreNamed =
    (file : List ℕ) (played : Played) (calls : List Call) → IsAccepted file →
    GameCalls file (Ok played) calls → AllByRecursion (λ call. IsNamed call.round) calls
