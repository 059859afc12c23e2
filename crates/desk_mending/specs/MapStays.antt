-- Which rules of lays, tokens, runs and dividends are broken whatever the other players order before a line in its round. They
-- are judged by the map and the game as the round began, once the privates have paid, and by what the player's own sheet orders.
--
-- Others lay tiles, and put them in the place of others, which then come back: on a hex the colours only deepen and track is
-- only added. No token is removed, and slots come with tiles alone. A company's trains and cash come after the step of its
-- runs, but for what it gets for trains that it parts with. Prints, borders and tiles never change.
use Rattle.std.specs.Prelude.{ℕ, ◌+◌, ◌==◌, ◌&&◌, ◌||◌, Bool, true, false, not, nat_lt, nat_le, if◌then◌else◌, length, List, []}
use Rattle.std.specs.Prelude.{pos}
use Rattle.std.specs.Int.Signed.{lt_z}
use Rattle.std.specs.List.{list_any}
use Rattle.board.specs.LayRules.{is_none_left, lay_cost_of, loses_track, place_of_colour}
use Rattle.board.specs.TokenRules.{has_none_left, has_token_in, is_no_free_slot, laid_by}
use Rattle.board_state.specs.MapState.{MapState, position_of}
use Rattle.desk_map_rules.specs.RunAsked.{has_none_of, inner_places, stops_named}
use Rattle.desk_map_rules.specs.RunTrack.{borders_named}
use Rattle.desk_mending.specs.Written.{parts_of, places_token}
use Rattle.events.specs.Event.{party_of_company}
use Rattle.events.specs.declared.event.Event.{Event}
use Rattle.legal_runs.specs.Fault.{has_border_twice, has_stop_twice, has_token_at_stop, is_wrong_number}
use Rattle.map_tables.specs.Fit.{is_open, is_wrong_kind}
use Rattle.map_tables.specs.Hex.{same_hex}
use Rattle.map_tables.specs.Home.{home_of}
use Rattle.map_tables.specs.OnMap.{colour_on, same_stop}
use Rattle.map_tables.specs.Print.{print_of}
use Rattle.map_tables.specs.Tile.{entry_of}
use Rattle.map_tables.specs.declared.hex.Hex.{Hex}
use Rattle.map_tables.specs.declared.hex.Hex.TheVariants.{F16}
use Rattle.map_tables.specs.declared.lay.Lay.{Lay}
use Rattle.map_tables.specs.declared.place.Place.{Place}
use Rattle.map_tables.specs.declared.place.Stop.{Stop}
use Rattle.map_tables.specs.declared.rules.LayRule.{LayRule}
use Rattle.map_tables.specs.declared.rules.LayRule.TheVariants as of_lay
use Rattle.map_tables.specs.declared.rules.RunRule.{RunRule}
use Rattle.map_tables.specs.declared.rules.RunRule.TheVariants as of_run
use Rattle.map_tables.specs.declared.rules.TokenRule.{TokenRule}
use Rattle.map_tables.specs.declared.rules.TokenRule.TheVariants as of_token
use Rattle.map_tables.specs.declared.tiles.Colour.{Colour}
use Rattle.map_tables.specs.declared.tiles.Colour.TheVariants.{Brown}
use Rattle.order_grammar.specs.declared.play.PlayOrder.{PlayOrder}
use Rattle.purchases.specs.Train.{has_trains}
use Rattle.reach.specs.Position.{is_red}
use Rattle.tables.specs.Roster.{token_price_of}
use Rattle.tables.specs.declared.rolling_stock.Kind.{Kind}
use Rattle.tables.specs.declared.roster.Company.{Company}
use Rattle.totals.specs.LookBack.{Game, cash_of}

-- A colour is the last: no tile is laid in the place of one that has it.
abbrev pub is_last_colour : Colour → Bool
is_last_colour Brown = true
is_last_colour other = false

-- The place of a tile's colour in the order of colours
abbrev pub place_of_tile : Lay → ℕ
place_of_tile lay = place_of_colour (entry_of lay.tile).colour

-- A tile stays used up: a brown one never comes back.
abbrev pub stays_used_up : MapState → Lay → Bool
stays_used_up laid lay = is_none_left laid.lays lay.tile && is_last_colour (entry_of lay.tile).colour

-- A tile stays the wrong one: it is none for this kind of hex, or the hex has its colour or a later one already.
abbrev pub stays_wrong_tile : MapState → Lay → Bool
stays_wrong_tile laid lay =
    is_wrong_kind lay || nat_le (place_of_tile lay) (place_of_colour (colour_on laid.lays lay.hex))

-- A company stays short of a sum in its turn up to its runs: it has less as the round begins, and the sheet parts with none of
-- its trains.
abbrev pub stays_short : Game → List PlayOrder → Company → ℕ → Bool
stays_short start sheet company sum =
    lt_z (cash_of start.seats start.events (party_of_company company)) (pos sum)
    && not (list_any (parts_of company) sheet)

-- A company stays short of what the terrain costs. If others lay the first tile of the hex, it costs nothing; but then a tile
-- that is of the next colour now is not.
abbrev pub terrain_stays_dear : Game → MapState → List PlayOrder → Company → Lay → Bool
terrain_stays_dear start laid sheet company lay =
    stays_short start sheet company (lay_cost_of laid.lays lay.hex)
    && place_of_tile lay == place_of_colour (colour_on laid.lays lay.hex) + 1

-- A rule of a lay is broken whatever others do. Others may begin a phase, buy a private or close it, and lay track.
abbrev pub lay_stays : Game → MapState → List PlayOrder → Company → Lay → LayRule → Bool
lay_stays start laid sheet company lay of_lay.StepUsed = false
lay_stays start laid sheet company lay of_lay.GreyOrRed = true
lay_stays start laid sheet company lay of_lay.NoneLeft = stays_used_up laid lay
lay_stays start laid sheet company lay of_lay.ColourClosed = false
lay_stays start laid sheet company lay of_lay.WrongTile = stays_wrong_tile laid lay
lay_stays start laid sheet company lay of_lay.TrackLost = loses_track laid.lays lay
lay_stays start laid sheet company lay of_lay.BadSide = true
lay_stays start laid sheet company lay of_lay.Blocked = false
lay_stays start laid sheet company lay of_lay.NotReached = false
lay_stays start laid sheet company lay of_lay.CashTooSmall = terrain_stays_dear start laid sheet company lay

-- A hex may get slots: it has a city, takes tiles, and its tile may be replaced.
abbrev pub may_get_slots : MapState → Hex → Bool
may_get_slots laid hex =
    is_open (print_of hex).kind && (nat_lt 0 (print_of hex).slots && not (is_last_colour (colour_on laid.lays hex)))

-- All slots of a place stay taken or kept.
abbrev pub stays_without_slot : MapState → Place → Bool
stays_without_slot laid place = is_no_free_slot laid place && not (may_get_slots laid place.hex)

-- A company has a token in a hex, or its home, where its token comes in its first turn.
abbrev pub has_or_gets_token : MapState → Company → Hex → Bool
has_or_gets_token laid company hex =
    has_token_in laid.tokens hex company || same_hex (home_of company).hex hex

-- how many tokens of a company lie in its turn: at least that of its home
abbrev pub lie_in_turn : ℕ → ℕ
lie_in_turn laid = if laid == 0 then 1 else laid

-- A company stays short of the price of its next token. DH's token, on F16, costs nothing.
abbrev pub token_stays_dear : Game → MapState → List PlayOrder → Company → Hex → Bool
token_stays_dear start laid sheet company hex =
    stays_short start sheet company (token_price_of (lie_in_turn (laid_by laid.tokens company)))
    && not (same_hex hex F16)

-- a rule of a token is broken whatever others do
abbrev pub token_stays : Game → MapState → List PlayOrder → Company → Place → TokenRule → Bool
token_stays start laid sheet company place of_token.StepUsed = false
token_stays start laid sheet company place of_token.NoTokenLeft = has_none_left laid.tokens company
token_stays start laid sheet company place of_token.NoFreeSlot = stays_without_slot laid place
token_stays start laid sheet company place of_token.InHexAlready = has_or_gets_token laid company place.hex
token_stays start laid sheet company place of_token.NotReached = false
token_stays start laid sheet company place of_token.CashTooSmall = token_stays_dear start laid sheet company place.hex

-- a stop has a token of a company, or is its home
abbrev pub is_own_stop : MapState → Company → Stop → Bool
is_own_stop laid company stop =
    has_token_at_stop (position_of laid) company stop || same_stop (home_of company) stop

-- No stop of a run gets a token of the company: none has one as the round begins, and the sheet places none.
abbrev pub stays_without_token : MapState → List PlayOrder → Company → List Stop → Bool
stays_without_token laid sheet company stops =
    not (list_any (is_own_stop laid company) stops) && not (list_any places_token sheet)

-- A rule of a run is broken whatever others do. Others may lay track and slots, and may have an earlier run refused.
abbrev pub run_stays : List Event → MapState → List PlayOrder → Company → Kind → List Place → RunRule → Bool
run_stays start laid sheet company kind places of_run.StepUsed = false
run_stays start laid sheet company kind places of_run.NoTrain = has_none_of start company kind
run_stays start laid sheet company kind places of_run.NoTrack = false
run_stays start laid sheet company kind places of_run.WrongNumber = is_wrong_number kind (length (stops_named places))
run_stays start laid sheet company kind places of_run.StopTwice = has_stop_twice (stops_named places)
run_stays start laid sheet company kind places of_run.BorderTwice = has_border_twice [] (borders_named places)
run_stays start laid sheet company kind places of_run.PassesFull = false
run_stays start laid sheet company kind places of_run.NoToken =
    stays_without_token laid sheet company (stops_named places)
run_stays start laid sheet company kind places of_run.RedInside =
    list_any (is_red (position_of laid)) (stops_named (inner_places places))

-- A company that has no train as the round begins has no best run: it buys trains after its runs.
abbrev pub best_stays : List Event → Company → RunRule → Bool
best_stays start company of_run.NoTrain = not (has_trains start company)
best_stays start company other = false

-- nor has it anything to pay
abbrev pub pay_stays : List Event → Company → Bool
pay_stays start company = not (has_trains start company)
