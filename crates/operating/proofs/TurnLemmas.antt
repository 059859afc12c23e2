-- A company's turn leaves the seats as they are, and its president sits at the table.
use Rattle.std.proofs.Common.{◌≡◌, ℕ, ◌<◌, true, IfSome, Option, Some, None, subst, sym, List, ap}
use Rattle.history.specs.Sound.{IsSound}
use Rattle.operating.proofs.Seated.{president_seated}
use Rattle.operating.proofs.TurnLaws.{only_adds}
use Rattle.operating.specs.Turn.{IsCompanyTurn}
use Rattle.tables.specs.declared.roster.Company.{Company}
use Rattle.tables.specs.declared.round.Round.{Round}
use Rattle.tables.specs.declared.seat.Seat.{Seat}
use Rattle.totals.specs.LookBack.{Game}
use Rattle.totals.specs.Shares.{is_floated, president_of}

-- the president of a company that has floated is at the table then
pub president_there : (old paid : Game) (company : Company) (president : Option Seat) → IsSound old
    → is_floated old.events company ≡ true → president ≡ president_of old.events company → paid.seats ≡ old.seats
    → IfSome president (λ seat. seat.0 < paid.seats)
president_there old paid company None sound floated is same = tt
president_there old paid company (Some seat) sound floated is same =
    subst (λ (n : ℕ). seat.0 < n) (sym same) (president_seated old company seat sound floated (sym is))

-- a turn leaves the seats as they are
pub seats_stay : (file : List ℕ) (round : Round) (company : Company) (old new : Game)
    → IsCompanyTurn file round company old new → new.seats ≡ old.seats
seats_stay file round company old new turn =
    ap (λ (game : Game). game.seats) (only_adds file round company old new turn).added
