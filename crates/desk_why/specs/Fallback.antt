-- A line that is not needed, because an earlier line for the same purpose was obeyed. Players write such lines as a second
-- choice.
use Rattle.std.specs.Prelude.{Bool, true, false, List, Option, Some, None}
use Rattle.desk_why.specs.Done.{last_done}
use Rattle.desk_why.specs.declared.done.Done.{Done}
use Rattle.desk_why.specs.declared.done.Done.TheVariants as done
use Rattle.desk_why.specs.declared.sheet_line.LinePlace.{LinePlace}
use Rattle.desk_why.specs.declared.sheet_line.LinePlace.TheVariants as place
use Rattle.events.specs.declared.event.Event.{Event}
use Rattle.events.specs.declared.ruling.OpeningRule.TheVariants as opening
use Rattle.events.specs.declared.ruling.Refusal.{Refusal}
use Rattle.events.specs.declared.ruling.Refusal.TheVariants as refusal
use Rattle.events.specs.declared.ruling.StockRule.TheVariants as stock
use Rattle.map_tables.specs.declared.rules.LayRule.TheVariants as lay
use Rattle.map_tables.specs.declared.rules.TokenRule.TheVariants as token

-- in a turn of an opening or a stock round: the player has bought or bid in it
abbrev pub is_turn_used : Refusal → Bool
is_turn_used (refusal.Opening opening.TurnUsed) = true
is_turn_used (refusal.Stock stock.BoughtBefore) = true
is_turn_used other = false

-- among the orders for a company: its lay is used, and it has done no later step
abbrev pub is_lay_used : Refusal → Bool
is_lay_used (refusal.Lay lay.StepUsed) = true
is_lay_used other = false

-- it has placed a token, and has done no later step
abbrev pub is_token_placed : Refusal → Bool
is_token_placed (refusal.Token token.StepUsed) = true
is_token_placed other = false

-- it has paid or withheld
abbrev pub is_paid : Refusal → Bool
is_paid (refusal.Pay rule) = true
is_paid other = false

-- a rule refuses an order of a company because what the company did last, apart from a lay, has the same purpose
abbrev pub is_for_the_same : Option Done → Refusal → Bool
is_for_the_same None rule = is_lay_used rule
is_for_the_same (Some done.Token) rule = is_token_placed rule
is_for_the_same (Some done.Pay) rule = is_paid rule
is_for_the_same (Some done.Run) rule = false
is_for_the_same (Some done.Purchase) rule = false

-- a rule refused a line at this place because an earlier line for the same purpose was obeyed
abbrev pub is_fallback : List Event → LinePlace → Refusal → Bool
is_fallback events (place.Orders company) rule = is_for_the_same (last_done events company) rule
is_fallback events place.Turn rule = is_turn_used rule
is_fallback events place.Standing rule = is_turn_used rule
