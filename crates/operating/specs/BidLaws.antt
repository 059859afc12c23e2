-- Nobody bids on a private in a company's turn, and none is sold there by the bank.
use Rattle.std.specs.Prelude.{◌≡◌, ℕ, true, List, ◌++◌, is_none}
use Rattle.std.specs.List.{list_all}
use Rattle.events.specs.Event.{bidding_of}
use Rattle.events.specs.declared.event.Event.{Event}
use Rattle.totals.specs.LookBack.{Game}
use Rattle.operating.specs.Turn.{IsCompanyTurn}
use Rattle.tables.specs.declared.roster.Company.{Company}
use Rattle.tables.specs.declared.round.Round.{Round}

-- after is before with more events, none of which says anything of bids
pub record SaysNoBid (before after : Game) : Type 0 where
  pub more : List Event
  pub added : after ≡ record { seats = before.seats; events = before.events ++ more }
  pub no_bid : list_all (λ its. is_none (bidding_of its)) more ≡ true

-- a company's turn adds only events that say nothing of bids
abbrev pub TurnsSayNoBid : Type 0
TurnsSayNoBid =
    (file : List ℕ) (round : Round) (company : Company) (old new : Game) →
    IsCompanyTurn file round company old new → SaysNoBid old new
