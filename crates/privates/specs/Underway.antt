-- What holds all through an opening round. It is a game. PRR has no square while CA is unsold, nor
-- has BO while BOP is. Each limit that a seat ordered in this round is at most 99,999.
use Rattle.std.specs.Prelude.{◌≡◌, ℕ, ◌≤◌, List, false, Some, None}
use Rattle.events.specs.declared.event.Event.{Event}
use Rattle.totals.specs.LookBack.{Game, is_sold}
use Rattle.totals.specs.Orders.{bid_limit_of}
use Rattle.totals.specs.Shares.{square_of}
use Rattle.history.specs.Games.{IsGame}
use Rattle.tables.specs.declared.roster.Company.TheVariants as company
use Rattle.tables.specs.declared.roster.Private.{Private}
use Rattle.tables.specs.declared.roster.Private.TheVariants.{CamdenAmboy, BaltimoreOhio}
use Rattle.tables.specs.declared.seat.Seat.{Seat}

-- PRR has no square while CA is unsold
abbrev pub PennsylvaniaWaits : List Event → Type 0
PennsylvaniaWaits events = is_sold events CamdenAmboy ≡ false → square_of events company.Pennsylvania ≡ None

-- BO has none while BOP is
abbrev pub BaltimoreWaits : List Event → Type 0
BaltimoreWaits events = is_sold events BaltimoreOhio ≡ false → square_of events company.BaltimoreOhio ≡ None

-- no limit of this round is more than 99,999
abbrev pub LimitsAreSmall : List Event → Type 0
LimitsAreSmall events = (private : Private) (seat : Seat) (amount : ℕ)
    → bid_limit_of events private seat ≡ Some amount → amount ≤ 99999

-- what holds besides
pub record IsWaiting (events : List Event) : Type 0 where
  pub pennsylvania : PennsylvaniaWaits events
  pub baltimore : BaltimoreWaits events
  pub limits : LimitsAreSmall events

-- an opening round may begin
pub record MayBegin (events : List Event) : Type 0 where
  pub pennsylvania : PennsylvaniaWaits events
  pub baltimore : BaltimoreWaits events

-- the game is in an opening round
pub record IsUnderway (now : Game) : Type 0 where
  pub game : IsGame now
  pub waiting : IsWaiting now.events
