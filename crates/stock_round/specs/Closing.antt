-- What follows the turns of a stock round: the moves of the companies that are sold out. A company
-- is sold out if all its shares are with players; its token then moves up. These companies move in
-- operating order, as it is when the turns are over.
use Rattle.std.specs.Prelude.{Bool, ◌&&◌, if◌then◌else◌, List, [], ◌∷◌, pos}
use Rattle.std.specs.Ordering.{int_eq}
use Rattle.events.specs.declared.event.Event.{Event}
use Rattle.events.specs.declared.event.Shareholder.TheVariants.{InitialOffering, BankPool}
use Rattle.totals.specs.Shares.{shares_of}
use Rattle.market.specs.Moves.{up_of}
use Rattle.market.specs.OperatingOrder.{operating_order_of}
use Rattle.market.specs.Token.{with_move}
use Rattle.tables.specs.declared.roster.Company.{Company}

-- all ten shares of a company are with players: none is in the initial offering, and none in the
-- pool
abbrev pub is_sold_out : List Event → Company → Bool
is_sold_out events company =
    int_eq (shares_of events company InitialOffering) (pos 0) && int_eq (shares_of events company BankPool) (pos 0)

-- after a company has moved up, if it is sold out
abbrev pub risen : List Event → Company → List Event
risen events company = if is_sold_out events company then with_move up_of events company else events

-- after some companies have, in order
abbrev pub all_risen : List Event → List Company → List Event
all_risen events [] = events
all_risen events (company ∷ others) = all_risen (risen events company) others

-- after the turns the companies that are sold out move up, in operating order
abbrev pub stock_round_closed : List Event → List Event
stock_round_closed events = all_risen events (operating_order_of events)
