-- What may be done in a round that comes: before an operating round the standing lines of the players and the turns of the
-- companies, before another what each player may do in their first turn.
use Rattle.std.specs.Prelude.{◌≡◌, ℕ, Bool, List, [], Option, Some, None}
use Rattle.desk_base.specs.Played.{moment_after}
use Rattle.desk_base.specs.Positions.{IsAt}
use Rattle.desk_base.specs.declared.positions.Position.{Position}
use Rattle.desk_may.specs.Offerers.{presidents_of}
use Rattle.foresight.specs.Ahead.{opened_state}
use Rattle.page_lays.specs.Players.{ArePlayersIn, AreStandingIn}
use Rattle.page_lays.specs.Turns.{AreTurnsIn, is_wanted}
use Rattle.page_lays.specs.declared.company_turns.Turn.{Turn}
use Rattle.page_lays.specs.declared.may.May.{May}
use Rattle.page_lays.specs.declared.players.Player.{Player}
use Rattle.rounds.specs.declared.game.End.{End}
use Rattle.rounds.specs.declared.game.End.TheVariants.{Awaiting, Bank, Bankrupt}
use Rattle.tables.specs.declared.roster.Company.{Company}
use Rattle.tables.specs.declared.round.Round.{Round}
use Rattle.tables.specs.declared.round.Round.TheVariants.{Opening, Stock, Operating}
use Rattle.totals.specs.LookBack.{Game}

-- the players and the turns of companies of whom is told, by the kind of the round
abbrev pub AreToldIn : (Company → Bool) → Round → List ℕ → Game → List Player → List Turn → Type 0
AreToldIn is_asked (Opening number) file game players turns =
    ArePlayersIn (Opening number) game game.seats players × (turns ≡ [])
AreToldIn is_asked (Stock set) file game players turns =
    ArePlayersIn (Stock set) game game.seats players × (turns ≡ [])
AreToldIn is_asked (Operating set number) file game players turns =
    AreStandingIn (Operating set number) game game.seats players
    × AreTurnsIn is_asked (opened_state file None (Operating set number) game) turns

-- what may be done, in the game before the round, of an order file of which these companies are asked for
pub record IsMayIn (companies : List Company) (round : Round) (file : List ℕ) (game : Game) (may : May) : Type 0 where
  pub its : may.round ≡ round
  pub presidents : may.presidents.items ≡ presidents_of game.events
  pub told : AreToldIn (is_wanted companies) round file game may.players.items may.turns.items

-- what may be done in the round that a game awaits, and nothing once the game is over
abbrev pub IsMayAt : List Company → List ℕ → Game → End → Option May → Type 0
IsMayAt companies file game (Awaiting round) (Some may) = IsMayIn companies round file game may
IsMayAt companies file game (Awaiting round) None = ⊥
IsMayAt companies file game Bank may = may ≡ None
IsMayAt companies file game Bankrupt may = may ≡ None

-- what may be done in the round that comes in the game of a file after a round, or after the last that it plays if none
-- is named
pub record IsMayNext (file : List ℕ) (after : Option Round) (companies : List Company) (may : Option May) : Type 0 where
  pub coming : Position
  pub is_coming : IsAt file (moment_after after) coming
  pub is_may : IsMayAt companies file coming.history coming.end may
