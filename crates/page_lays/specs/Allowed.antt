-- Which orders the page shows: those that no rule refuses, unless they need an offer that comes too late.
use Rattle.std.specs.Prelude.{Bool, true, false, List, Option}
use Rattle.desk_may.specs.Offerers.{may_offer}
use Rattle.moves.specs.declared.row.Answer.{Answer}
use Rattle.moves.specs.declared.row.Answer.TheVariants.{Obeyed, WithConsent, Refused}
use Rattle.tables.specs.declared.seat.Seat.{Seat}

-- an order may be given, where these presided at the start of the round
abbrev pub is_allowed : List (Option Seat) → Answer → Bool
is_allowed presidents (Obeyed price) = true
is_allowed presidents (WithConsent price giver sale) = may_offer presidents giver sale
is_allowed presidents (Refused rule) = false
