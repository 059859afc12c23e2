-- Example for the chapter `own-rules`: what a player is worth, and what SV costs.
-- ANN, at seat 0, buys CA for 160, and a share of PRR comes with it. She has 640 left. A share of
-- a company that has not started has no price, and counts as nothing; CA counts at its face value.
use Rattle.std.proofs.Common.{◌≡◌, refl, pos, List, [], ◌∷◌, ◌++◌}
use Rattle.events.specs.declared.event.Event.{Event}
use Rattle.events.specs.declared.event.Event.TheVariants as event
use Rattle.report.specs.EndWorth.{worth_of}
use Rattle.tables.specs.Seat.{seat_at}
use Rattle.tables.specs.declared.roster.Company.TheVariants.{Pennsylvania}
use Rattle.tables.specs.declared.roster.Private.TheVariants.{CamdenAmboy}
use Rattle.totals.specs.LookBack.{Game, sv_price_of}

abbrev happened : List Event
happened = event.Sold CamdenAmboy (seat_at 0) 160 ∷ event.Given Pennsylvania (seat_at 0) 1 ∷ []

abbrev game : List Event → Game
game events = record { seats = 3; events = events }

-- 640 in cash, 160 for CA, nothing for the share
pub ann_is_worth : worth_of (game happened) (seat_at 0) ≡ pos 800
ann_is_worth = refl

-- BOB starts PRR at 67, and her share counts 67
pub ann_is_worth_more : worth_of (game (happened ++ event.Par Pennsylvania 67 ∷ [])) (seat_at 0) ≡ pos 867
ann_is_worth_more = refl

-- SV costs 20 at first, and 5 less after an opening round in which all pass
pub sv_costs : sv_price_of [] ≡ 20
sv_costs = refl

pub sv_costs_less : sv_price_of (event.Price 15 ∷ []) ≡ 15
sv_costs_less = refl
