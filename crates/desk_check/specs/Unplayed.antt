-- What a line of a sheet is that is not played yet: a head, a line that may be reached, or one
-- that has a fault by itself or whose order has no place where it is.
use Rattle.std.specs.Prelude.{ℕ, Bool, true, false, if◌then◌else◌, List, Result, Ok, Err}
use Rattle.desk_check.specs.declared.check_reading.Look.{Look}
use Rattle.desk_check.specs.declared.check_reading.Look.TheVariants.{Head, Good, Bad}
use Rattle.purchases.specs.Standing.{has_place_before_companies}
use Rattle.order_grammar.specs.Version.{reading_in}
use Rattle.order_grammar.specs.declared.condition.Version.{Version}
use Rattle.order_grammar.specs.declared.fault.Fault.{Fault}
use Rattle.order_grammar.specs.declared.fault.Fault.TheVariants.{OutOfPlace}
use Rattle.order_grammar.specs.declared.order.Order.{Order}
use Rattle.order_grammar.specs.declared.order.Order.TheVariants as order
use Rattle.order_grammar.specs.declared.play.PlayOrder.TheVariants as play
use Rattle.privates.specs.Standing.{has_place_before_turns}
use Rattle.sheets.specs.Part.{numbered, opens_part}
use Rattle.tables.specs.declared.round.Round.{Round}
use Rattle.tables.specs.declared.round.Round.TheVariants.{Opening, Stock, Operating}
use Rattle.turns.specs.Ruling.{has_place_in_turn}

-- the order has a place before the first head of a sheet for this round
abbrev pub has_place_before : Round → Order → Bool
has_place_before (Opening number) its = has_place_before_turns its
has_place_before (Stock set) its = false
has_place_before (Operating set number) its = has_place_before_companies its

-- the order has a place in a company's orders, as `operating: OrderLeads` has it
abbrev pub has_place_in_orders : Order → Bool
has_place_in_orders (order.Play (play.Lay lay)) = true
has_place_in_orders (order.Play (play.Token place)) = true
has_place_in_orders (order.Run kind run) = true
has_place_in_orders (order.Play play.RunBest) = true
has_place_in_orders (order.Play play.Pay) = true
has_place_in_orders (order.Play play.Withhold) = true
has_place_in_orders (order.Play (play.BuyTrain kind from)) = true
has_place_in_orders (order.Play (play.BuyOwnedPrivate private price)) = true
has_place_in_orders (order.Play (play.Raise company shares)) = true
has_place_in_orders other = false

-- the order has a place behind a head of a sheet for this round
abbrev pub has_place_behind : Round → Order → Bool
has_place_behind (Operating set number) its = has_place_in_orders its
has_place_behind round its = has_place_in_turn its

-- the order has a place where it is, behind a head or before the first
abbrev pub has_place : Round → Bool → Order → Bool
has_place round is_open its = if is_open then has_place_behind round its else has_place_before round its

-- what a line with this order is
abbrev pub look_of_order : Round → Bool → Order → Look
look_of_order round is_open its =
    if opens_part round (Ok its) then Head else (if has_place round is_open its then Good else Bad OutOfPlace)

-- what a line with this reading is
abbrev pub look_of : Round → Bool → Result Order Fault → Look
look_of round is_open (Err fault) = Bad fault
look_of round is_open (Ok its) = look_of_order round is_open its

-- what a line of a sheet is, by its text and its number in the sheet
abbrev pub look_of_text : Version → ℕ → List ℕ → Round → Bool → Look
look_of_text version number text round is_open =
    look_of round is_open (numbered number (reading_in version text)).reading
