-- Why an order is wrong by the map and the tables alone, whatever the game: the rule that it breaks, and what there is to
-- say of it.
use Rattle.std.specs.Prelude.{ℕ, ◌==◌, ◌-◌, Bool, true, false, ◌&&◌, ◌||◌, not, nat_lt, if◌then◌else◌, List}
use Rattle.std.specs.Prelude.{Option, Some, None, find, is_some, length, slice_get}
use Rattle.std.specs.List.{fold, list_any}
use Rattle.std.specs.Option.{option_or}
use Rattle.desk_base.specs.Beyond.{beyond_side}
use Rattle.desk_base.specs.declared.by_tables.Way.{Way}
use Rattle.desk_base.specs.declared.objection.Objection.{Objection}
use Rattle.desk_base.specs.declared.objection.Objection.TheVariants as objection
use Rattle.events.specs.declared.ruling.OpeningRule.TheVariants as opening_rule
use Rattle.events.specs.declared.ruling.Refusal.{Refusal}
use Rattle.events.specs.declared.ruling.Refusal.TheVariants as refusal
use Rattle.events.specs.declared.ruling.StockRule.TheVariants as stock_rule
use Rattle.legal_runs.specs.Named.{side_towards}
use Rattle.map_tables.specs.Fit.{has_bad_side, is_bad_end, is_open, is_side, is_wrong_kind}
use Rattle.map_tables.specs.Lay.{laid_links_of}
use Rattle.map_tables.specs.Place.{stop_index_of}
use Rattle.map_tables.specs.Print.{print_of}
use Rattle.map_tables.specs.Side.{sides}
use Rattle.map_tables.specs.declared.hex.Hex.{Hex}
use Rattle.map_tables.specs.declared.lay.Lay.{Lay}
use Rattle.map_tables.specs.declared.place.Place.{Place}
use Rattle.map_tables.specs.declared.place.StopNumber.{StopNumber}
use Rattle.map_tables.specs.declared.rules.LayRule.TheVariants as lay_rule
use Rattle.map_tables.specs.declared.rules.RunRule.TheVariants as run_rule
use Rattle.map_tables.specs.declared.rules.TokenRule.TheVariants as token_rule
use Rattle.map_tables.specs.declared.side.Side.{Side}
use Rattle.map_tables.specs.declared.track.TrackEnd.TheVariants.{Side as AtSide}
use Rattle.order_grammar.specs.declared.order.Order.{Order}
use Rattle.order_grammar.specs.declared.order.Order.TheVariants as order
use Rattle.order_grammar.specs.declared.play.PlayOrder.TheVariants as play
use Rattle.tables.specs.Chart.{par_square_of}
use Rattle.tables.specs.Roster.{same_company}
use Rattle.tables.specs.declared.roster.Company.{Company}
use Rattle.tables.specs.declared.roster.Company.TheVariants.{BaltimoreOhio}
use Rattle.tables.specs.declared.round.Round.{Round}
use Rattle.tables.specs.declared.round.Round.TheVariants.{Opening, Stock, Operating}

-- the order has a place in a turn of an opening
abbrev pub is_of_opening : Order → Bool
is_of_opening (order.Play (play.BuyPrivate private)) = true
is_of_opening (order.Play (play.Bid private amount)) = true
is_of_opening other = false

-- the order has a place in a turn of a stock round
abbrev pub is_of_stock : Order → Bool
is_of_stock (order.Play (play.Par company price)) = true
is_of_stock (order.Play (play.BuyShare company from)) = true
is_of_stock (order.Play (play.Sell company shares)) = true
is_of_stock (order.Play play.ExchangeMohawk) = true
is_of_stock other = false

-- the order of a written turn never has a place in such a round
abbrev pub is_of_other_round : Round → Order → Bool
is_of_other_round (Opening number) its = not (is_of_opening its)
is_of_other_round (Stock set) its = not (is_of_stock its)
is_of_other_round (Operating set number) its = false

-- the rule that it breaks
abbrev pub rule_of_round : Round → Refusal
rule_of_round (Opening number) = refusal.Opening opening_rule.NotOfOpening
rule_of_round (Stock set) = refusal.Stock stock_rule.NotOfStock
rule_of_round (Operating set number) = refusal.Stock stock_rule.NotOfStock

-- the round is an opening
abbrev pub is_opening : Round → Bool
is_opening (Opening number) = true
is_opening (Stock set) = false
is_opening (Operating set number) = false

-- the rule that a value breaks that is none of the six
abbrev pub rule_of_par : Round → Refusal
rule_of_par (Opening number) = refusal.Opening opening_rule.NotOfOpening
rule_of_par (Stock set) = refusal.Stock stock_rule.NoParValue
rule_of_par (Operating set number) = refusal.Stock stock_rule.NoParValue

-- of a value in dollars
abbrev pub objection_to_value : Round → ℕ → Option (Refusal × Objection)
objection_to_value round price =
    if is_some (par_square_of price) then None else Some (rule_of_par round, objection.NoPar)

-- of a PAR: in an opening it is for BO alone, and its value is one of the six
abbrev pub objection_to_par : Round → Company → ℕ → Option (Refusal × Objection)
objection_to_par round company price =
    if is_opening round && not (same_company company BaltimoreOhio)
    then Some (refusal.Opening opening_rule.NotOfOpening, objection.NotBaltimore)
    else objection_to_value round price

-- the tile has track at a side over which none may lead
abbrev pub is_bad_of : Lay → Side → Bool
is_bad_of lay side =
    list_any (λ link. is_side side link.a || is_side side link.b) (laid_links_of lay) && is_bad_end lay.hex (AtSide side)

-- the first such side
abbrev pub bad_side : Lay → Option Side
bad_side lay = find (is_bad_of lay) sides

-- of a tile with such a side
abbrev pub objection_at_side : Lay → Option Side → Option (Refusal × Objection)
objection_at_side lay None = None
objection_at_side lay (Some side) =
    Some (refusal.Lay lay_rule.BadSide, objection.Side side (beyond_side lay.hex side))

-- of a lay: the hex takes no tiles, or none of this kind, or the track leads to a side where it may not
abbrev pub objection_to_lay : Lay → Option (Refusal × Objection)
objection_to_lay lay =
    if not (is_open (print_of lay.hex).kind)
    then Some (refusal.Lay lay_rule.GreyOrRed, objection.Nothing)
    else if is_wrong_kind lay
    then Some (refusal.Lay lay_rule.WrongTile, objection.Kind lay)
    else if has_bad_side lay then objection_at_side lay (bad_side lay) else None

-- of a stop, if the hex does not have it
abbrev pub objection_at_stop : Refusal → Hex → Option StopNumber → Option (Refusal × Objection)
objection_at_stop rule hex None = None
objection_at_stop rule hex (Some number) =
    if nat_lt (stop_index_of number) (print_of hex).stops then None else Some (rule, objection.Stops hex)

-- of the stop of a token, which is one of the hex
abbrev pub objection_to_its_stop : Hex → Option StopNumber → Option (Refusal × Objection)
objection_to_its_stop hex None = Some (refusal.Token token_rule.NoFreeSlot, objection.Stops hex)
objection_to_its_stop hex (Some number) = objection_at_stop (refusal.Token token_rule.NoFreeSlot) hex (Some number)

-- of a token: its place is a stop of a city
abbrev pub objection_to_token : Place → Option (Refusal × Objection)
objection_to_token place =
    if (print_of place.hex).slots == 0
    then Some (refusal.Token token_rule.NoFreeSlot, objection.NoCity place.hex)
    else objection_to_its_stop place.hex place.stop

-- of a hex of a run behind another, if there is one: they are neighbours
abbrev pub objection_to_way : Option Place → Place → Option (Refusal × Objection)
objection_to_way None place = None
objection_to_way (Some before) place =
    if is_some (side_towards before.hex place.hex)
    then None
    else Some (refusal.Run run_rule.NoTrack, objection.Apart before.hex place.hex)

-- of a place of a run, behind another if there is one
abbrev pub objection_to_place : Option Place → Place → Option (Refusal × Objection)
objection_to_place before place =
    option_or (objection_at_stop (refusal.Run run_rule.NoTrack) place.hex place.stop) (objection_to_way before place)

-- behind one more place of a run
abbrev pub way_then : Way → Place → Way
way_then way place =
    record { before = Some place; wrong = option_or way.wrong (objection_to_place way.before place) }

-- behind these places of a run
abbrev pub way_of : List Place → Way
way_of places = fold way_then (record { before = None; wrong = None }) places

-- of an end of a run: it is a stop
abbrev pub objection_to_end : Option Place → Option (Refusal × Objection)
objection_to_end None = None
objection_to_end (Some place) = if is_some place.stop then None else Some (refusal.Run run_rule.NoTrack, objection.Stops place.hex)

-- of the ends of a run, the first of them first
abbrev pub objection_to_ends : List Place → Option (Refusal × Objection)
objection_to_ends places =
    option_or (objection_to_end (slice_get places 0)) (objection_to_end (slice_get places (length places - 1)))

-- of a run: its places are stops that are there, each a neighbour of the one before, and stand at its ends
abbrev pub objection_to_run : List Place → Option (Refusal × Objection)
objection_to_run places = option_or (way_of places).wrong (objection_to_ends places)

-- of the order itself, in a sheet for this round
abbrev pub objection_by_tables : Round → Order → Option (Refusal × Objection)
objection_by_tables round (order.Play (play.Par company price)) = objection_to_par round company price
objection_by_tables round (order.Play (play.Lay lay)) = objection_to_lay lay
objection_by_tables round (order.Play (play.Token place)) = objection_to_token place
objection_by_tables round (order.Run kind run) = objection_to_run run
objection_by_tables round other = None

-- of an order of a sheet for this round, behind a head or before the first
abbrev pub objection_to : Round → Bool → Order → Option (Refusal × Objection)
objection_to round is_open its =
    if is_open && is_of_other_round round its
    then Some (rule_of_round round, objection.Nothing)
    else objection_by_tables round its
