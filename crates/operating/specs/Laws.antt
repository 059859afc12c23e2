-- Laws of company turns.
use Rattle.std.specs.Prelude.{◌≡◌, ℕ, true, false, ◌||◌, List, ◌++◌, is_some}
use Rattle.std.specs.List.{list_any}
use Rattle.events.specs.Event.{round_begun_by}
use Rattle.events.specs.declared.event.Event.{Event}
use Rattle.totals.specs.LookBack.{Game}
use Rattle.totals.specs.Operating.{has_operated}
use Rattle.operating.specs.HomeToken.{has_home_token}
use Rattle.operating.specs.Turn.{IsCompanyTurn}
use Rattle.tables.specs.Roster.{same_company}
use Rattle.tables.specs.declared.roster.Company.{Company}
use Rattle.tables.specs.declared.round.Round.{Round}

-- after a turn a company has operated exactly if it had before, or the turn was its own
abbrev pub CompanyOperates : Type 0
CompanyOperates =
    (file : List ℕ) (round : Round) (company : Company) (old new : Game) →
    IsCompanyTurn file round company old new → (other : Company)
    → has_operated new.events other ≡ (has_operated old.events other || same_company company other)

-- none of these events begins a round
abbrev pub BeginsNoRound : List Event → Type 0
BeginsNoRound events = list_any (λ event. is_some (round_begun_by event)) events ≡ false

-- after is before with more events, none of which begins a round
pub record OnlyAdds (before after : Game) : Type 0 where
  pub more : List Event
  pub added : after ≡ record { seats = before.seats; events = before.events ++ more }
  pub no_round : BeginsNoRound more

-- a turn only adds events to the list, and begins no round
abbrev pub TurnOnlyAdds : Type 0
TurnOnlyAdds =
    (file : List ℕ) (round : Round) (company : Company) (old new : Game) → IsCompanyTurn file round company old new
    → OnlyAdds old new

-- after its turn a token of the company lies at its home, whatever events come after: no turn
-- places another there for nothing
abbrev pub HomeTokenLies : Type 0
HomeTokenLies =
    (file : List ℕ) (round : Round) (company : Company) (old new : Game) →
    IsCompanyTurn file round company old new → (more : List Event) → has_home_token (new.events ++ more) company ≡ true

-- a turn has at most one outcome
abbrev pub OneCompanyTurn : Type 0
OneCompanyTurn =
    (file : List ℕ) (round : Round) (company : Company) (old a b : Game) →
    IsCompanyTurn file round company old a → IsCompanyTurn file round company old b → a ≡ b

-- a turn has an outcome
abbrev pub CompanyTurnEnds : Type 0
CompanyTurnEnds =
    (file : List ℕ) (round : Round) (company : Company) (old : Game)
    → (new : Game) × IsCompanyTurn file round company old new
