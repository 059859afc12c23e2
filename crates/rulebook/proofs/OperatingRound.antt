-- Example for the chapter `company-turn`: a small operating round, with its part of the report.
-- Only PRR operates. ANN, at seat 0, presides with four shares, BOB, at seat 1, has two and SV. PRR
-- has its home token on H12.0, tile 57 on H10 and one 2. In its turn it lays 9 on H14, places a
-- token on H10.0, runs for 30, pays, and buys the first 4, which rusts its 2. The other trains that
-- the bank has sold went to companies that take no part: the list before the round is made for this
-- example.
use Rattle.std.proofs.Common.{◌≡◌, ◌++◌, false, refl, ℕ, List, [], ◌∷◌, Some, None, codes}
use Rattle.std.specs.Fmt.{digits}
use Rattle.events.specs.declared.event.Event.{Event}
use Rattle.events.specs.declared.event.Event.TheVariants as event
use Rattle.events.specs.declared.event.Holder.TheVariants as holder
use Rattle.events.specs.declared.event.TrainSeller.TheVariants as seller
use Rattle.events.specs.declared.ruling.Ruling.TheVariants.{Obeyed}
use Rattle.map_tables.specs.Hex.{site_of}
use Rattle.map_tables.specs.Tile.{number_of_tile, printed}
use Rattle.map_tables.specs.declared.hex.Hex.TheVariants.{H10, H12, H14}
use Rattle.map_tables.specs.declared.lay.Lay.{Lay}
use Rattle.map_tables.specs.declared.place.Place.{Place}
use Rattle.map_tables.specs.declared.place.StopNumber.TheVariants.{First}
use Rattle.map_tables.specs.declared.side.Rotation.TheVariants.{One}
use Rattle.map_tables.specs.declared.tiles.TileNo.TheVariants.{T9, T57}
use Rattle.order_grammar.specs.declared.order.Order.TheVariants as order
use Rattle.order_grammar.specs.declared.order.ShareSource.TheVariants.{InitialOffering}
use Rattle.order_grammar.specs.declared.order.TrainSource.TheVariants as source
use Rattle.order_grammar.specs.declared.play.PlayOrder.TheVariants as play
use Rattle.market.specs.OperatingOrder.{operating_order_of}
use Rattle.report.specs.Column.{left_aligned, right_aligned}
use Rattle.report.specs.Report.{lines_of_round}
use Rattle.report.specs.Statement.{bank_line, cash_column, codes_owned, company_figures, company_line, company_lines}
use Rattle.report.specs.Statement.{counted_column, holdings, player_line, player_lines, shares_column, trains_text}
use Rattle.sheets.specs.File.{begins, body_of, content_of, is_sheet_line, players_of, sheet_of, version_of}
use Rattle.sheets.specs.Text.{is_blank, written_lines}
use Rattle.tables.specs.Seat.{seat_at}
use Rattle.tables.specs.declared.rolling_stock.Kind.TheVariants.{Two, Three, Four}
use Rattle.tables.specs.declared.roster.Company.TheVariants.{Pennsylvania, NewYorkCentral, ChesapeakeOhio, Erie}
use Rattle.tables.specs.declared.roster.Company.TheVariants.{BostonMaine}
use Rattle.tables.specs.declared.roster.Private.TheVariants.{SchuylkillValley}
use Rattle.tables.specs.declared.round.Round.TheVariants.{Operating}
use Rattle.totals.specs.LookBack.{Game}
use Rattle.board.specs.LayRules.{IsConnected}
use Rattle.board_state.specs.MapState.{position_of, with_lay}
use Rattle.forced_purchase.specs.declared.operator.Operator.{Operator}
use Rattle.map_tables.specs.Border.{adjacent, neighbour_of}
use Rattle.map_tables.specs.Hex.{hex_at, hexes, index_of}
use Rattle.map_tables.specs.Lay.{laid_links_of, laid_track_of}
use Rattle.map_tables.specs.OnMap.{tile_on}
use Rattle.map_tables.specs.Place.{stop_at}
use Rattle.map_tables.specs.Print.{groups, plain_hexes, print_of, printed_links_of}
use Rattle.map_tables.specs.Tile.{printed, tile_index_of}
use Rattle.map_tables.specs.declared.side.Side.TheVariants.{West, East}
use Rattle.map_tables.specs.declared.track.TrackEnd.TheVariants.{Side as AtSide, Stop as AtStop}
use Rattle.operating.specs.Lay.{lay_answered}
use Rattle.operating.specs.MapState.{map_state_now}
use Rattle.operating.specs.Pay.{after_pay, withheld_if_unpaid}
use Rattle.operating.specs.Run.{after_run}
use Rattle.operating.specs.Token.{token_answered}
use Rattle.operating.specs.Train.{after_buying}
use Rattle.operating.specs.Turn.{begun}
use Rattle.operating.specs.TurnState.{TurnState}
use Rattle.order_grammar.specs.declared.order.Order.{Order}
use Rattle.reach.specs.declared.walk.WalkStep.{WalkStep}
use Rattle.rounds.specs.OperatingRound.{operating_round_opened}
use Rattle.sheets.specs.Part.{Numbered}
use Rattle.std.proofs.Common.{inl, inr, true, pos, Ok}
use Rattle.board.specs.LayRules.{is_blocked, is_colour_closed, is_lay_used, is_none_left}
use Rattle.board.specs.LayRules.{is_wrong_colour, lay_cost_of, loses_track, on_map_of}
use Rattle.board.specs.Powers.{is_cs_lay, is_dh_lay, is_dh_token}
use Rattle.board.specs.TokenRules.{IsReachedPlace, has_none_left, has_token_in, is_no_free_slot}
use Rattle.board.specs.TokenRules.{is_token_used, kept_at, laid_by, token_cost_of}
use Rattle.legal_runs.specs.Legal.{border_of}
use Rattle.legal_runs.specs.Marks.{borders_used}
use Rattle.legal_runs.specs.Named.{leg_to, side_towards, step_between}
use Rattle.map_tables.specs.Fit.{has_bad_side, is_wrong_kind}
use Rattle.map_tables.specs.Tile.{tile_numbered, tiles}
use Rattle.operating.specs.Turn.{IsCompanyTurn}
use Rattle.rounds.specs.OperatingRound.{IsOperatingRound}
use Rattle.std.proofs.Common.{true≢false}

-- the order file
abbrev file : List ℕ
file =
    codes "GAME 1830 1\nPLAYERS ANN BOB CYD\nSHEET ANN OR2.1\nCOMPANY PRR\nLAY 9 H14 1\nTOKEN H10.0\nRUN 2 H12.0 H10.0\nPAY\nTRAIN 4 BANK\nSHEET BOB OR2.1\nSHEET CYD OR2.1\n"

abbrev lay : Lay
lay = record { hex = H14; tile = T9; rot = One; swap = false }

-- the run from H12.0 to H10.0
abbrev run : List Place
run = record { hex = H12; stop = Some First } ∷ record { hex = H10; stop = Some First } ∷ []

-- what happened before
abbrev before : List Event
before =
    event.Sold SchuylkillValley (seat_at 1) 20
    ∷ event.Par Pennsylvania 67
    ∷ event.Bought Pennsylvania (seat_at 0) 4 InitialOffering 268
    ∷ event.President Pennsylvania (seat_at 0)
    ∷ event.Bought Pennsylvania (seat_at 1) 2 InitialOffering 134
    ∷ event.Floats Pennsylvania 670
    ∷ event.Home Pennsylvania (record { hex = H12; stop = Some First })
    ∷ event.Laid Pennsylvania (record { hex = H10; tile = T57; rot = One; swap = false }) 0
    ∷ event.Train Pennsylvania Two seller.Bank 80
    ∷ event.Train NewYorkCentral Two seller.Bank 80
    ∷ event.Train NewYorkCentral Two seller.Bank 80
    ∷ event.Train NewYorkCentral Two seller.Bank 80
    ∷ event.Train ChesapeakeOhio Two seller.Bank 80
    ∷ event.Train ChesapeakeOhio Two seller.Bank 80
    ∷ event.Train BostonMaine Three seller.Bank 180
    ∷ event.Phase Three
    ∷ event.Train BostonMaine Three seller.Bank 180
    ∷ event.Train BostonMaine Three seller.Bank 180
    ∷ event.Train Erie Three seller.Bank 180
    ∷ event.Train Erie Three seller.Bank 180
    ∷ []

-- what happens in the round
abbrev happens : List Event
happens =
    event.Round (Operating 2 1)
    ∷ event.Revenue SchuylkillValley (holder.Seat (seat_at 1)) 5
    ∷ event.Ruled (seat_at 0) 2 (Obeyed None (order.Play (play.Lay lay)))
    ∷ event.Laid Pennsylvania lay 0
    ∷ event.Ruled (seat_at 0) 3 (Obeyed None (order.Play (play.Token (record { hex = H10; stop = Some First }))))
    ∷ event.Token Pennsylvania (record { hex = H10; stop = Some First }) 40
    ∷ event.Ruled (seat_at 0) 4 (Obeyed None (order.Run Two run))
    ∷ event.Runs Pennsylvania 30
    ∷ event.Ruled (seat_at 0) 5 (Obeyed None (order.Play play.Pay))
    ∷ event.Dividend Pennsylvania (holder.Seat (seat_at 0)) 12
    ∷ event.Dividend Pennsylvania (holder.Seat (seat_at 1)) 6
    ∷ event.Moves Pennsylvania (record { row = 5; column = 8 })
    ∷ event.Ruled (seat_at 0) 6 (Obeyed None (order.Play (play.BuyTrain Four source.Bank)))
    ∷ event.Train Pennsylvania Four seller.Bank 300
    ∷ event.Phase Four
    ∷ event.Rusted (Some Pennsylvania) Two
    ∷ event.Rusted (Some NewYorkCentral) Two
    ∷ event.Rusted (Some NewYorkCentral) Two
    ∷ event.Rusted (Some NewYorkCentral) Two
    ∷ event.Rusted (Some ChesapeakeOhio) Two
    ∷ event.Rusted (Some ChesapeakeOhio) Two
    ∷ []

abbrev game : List Event → Game
game events = record { seats = 3; events = events }

-- the round's part of the report
pub printed_so :
    lines_of_round file 3 before happens
    ≡ codes "ROUND OR2.1\nREVENUE SV BOB 5\nANN 2 OBEYED LAY 9 H14 1\nLAID PRR 9 H14 1 0\nANN 3 OBEYED TOKEN H10.0\nTOKEN PRR H10.0 40\nANN 4 OBEYED RUN 2 H12.0 H10.0\nRUNS PRR 30\nANN 5 OBEYED PAY\nDIVIDEND PRR ANN 12\nDIVIDEND PRR BOB 6\nMOVES PRR 71 F8\nANN 6 OBEYED TRAIN 4 BANK\nTRAIN PRR 4 BANK 300\nPHASE 4\nRUSTED PRR 2\nRUSTED NYC 2\nRUSTED NYC 2\nRUSTED NYC 2\nRUSTED CO 2\nRUSTED CO 2\nPLAYER ANN        544  3  4  0  0  0  0  0  0  0\nPLAYER BOB        657  3  2  0  0  0  0  0  0  0 SV\nPLAYER CYD        800  0  0  0  0  0  0  0  0  0\nCOMPANY PRR    250  71  4  0 2 ANN 4\nBANK  11049\n"
unfolding digits site_of number_of_tile printed players_of body_of content_of version_of written_lines is_blank begins
    is_sheet_line operating_order_of left_aligned right_aligned bank_line cash_column codes_owned company_figures company_line
    company_lines counted_column holdings player_line player_lines shares_column trains_text
printed_so = refl

-- PRR under ANN, and the lines of its orders
abbrev prr : Operator
prr = record { company = Pennsylvania; president = seat_at 0 }

abbrev line : ℕ → Order → Numbered
line number its = record { number = number; condition = None; reading = Ok its }

abbrev token_place : Place
token_place = record { hex = H10; stop = Some First }

-- the turn after each line
abbrev at_first : TurnState
at_first = begun (operating_round_opened file (Operating 2 1) (game before)) Pennsylvania

abbrev once_laid : TurnState
once_laid = lay_answered prr at_first (line 2 (order.Play (play.Lay lay))) lay (Ok (pos 0))

abbrev once_placed : TurnState
once_placed = token_answered prr once_laid (line 3 (order.Play (play.Token token_place))) token_place (Ok (pos 40))

abbrev once_run : TurnState
once_run = after_run prr once_placed (line 4 (order.Run Two run)) (order.Run Two run) Two run

abbrev once_paid : TurnState
once_paid = after_pay prr once_run (line 5 (order.Play play.Pay)) (order.Play play.Pay)

abbrev once_bought : TurnState
once_bought = after_buying prr (withheld_if_unpaid Pennsylvania once_paid) (line 6 (order.Play (play.BuyTrain Four source.Bank))) Four source.Bank

-- out of H12.0 to the east and into H14, and out of it to the west and into the city of H10
abbrev out_east : WalkStep
out_east = record { link = record { hex = H12; a = AtSide East; b = AtStop First }; turned = true }

abbrev into_track : WalkStep
into_track = record { link = record { hex = H14; a = AtSide West; b = AtSide East }; turned = false }

abbrev out_west : WalkStep
out_west = record { link = record { hex = H12; a = AtSide West; b = AtStop First }; turned = true }

abbrev into_city : WalkStep
into_city = record { link = record { hex = H10; a = AtSide East; b = AtStop First }; turned = false }

-- PRR reaches the track that it lays
connected : IsConnected (position_of (with_lay (map_state_now at_first.game.events) lay)) Pennsylvania lay
unfolding position_of tile_on index_of groups plain_hexes print_of printed_links_of printed tile_index_of tiles number_of_tile hexes
    laid_links_of laid_track_of neighbour_of adjacent hex_at site_of is_sheet_line sheet_of players_of body_of
    content_of version_of written_lines is_blank begins
connected =
    record {
      piece =
          inl (
            into_track.link,
            inl refl,
            (
              into_track ∷ out_east ∷ [],
              record {
                walk = (inl refl, inr refl, (inr (inr (inl refl)), tt, tt));
                from_token = (stop_at H12 First, refl, inl refl);
                passes = (tt, (tt, tt));
              },
              inl refl,
            ),
          );
    }

-- and the city in which it places its token
reached : IsReachedPlace (position_of (map_state_now once_laid.game.events)) Pennsylvania token_place
unfolding position_of tile_on index_of groups plain_hexes print_of printed_links_of printed tile_index_of tiles number_of_tile hexes
    laid_links_of laid_track_of neighbour_of adjacent hex_at site_of is_sheet_line sheet_of players_of body_of
    content_of version_of written_lines is_blank begins
reached =
    record {
      stop = stop_at H10 First;
      is = refl;
      reached =
          inr (
            into_city ∷ out_west ∷ [],
            record {
              walk = (inr (inl refl), inr refl, (inr (inl refl), tt, tt));
              from_token = (stop_at H12 First, refl, inl refl);
              passes = (tt, (tt, tt));
            },
            inl (inr refl),
          );
    }

-- the turn of PRR leads to what happens in the round
turn : IsCompanyTurn file (Operating 2 1) Pennsylvania (operating_round_opened file (Operating 2 1) (game before)) (game (before ++ happens))
unfolding position_of tile_on index_of groups plain_hexes print_of printed_links_of printed tile_index_of hexes
    laid_links_of laid_track_of neighbour_of adjacent hex_at site_of is_sheet_line sheet_of players_of body_of
    content_of version_of written_lines is_blank begins is_cs_lay is_dh_lay is_dh_token is_lay_used is_none_left
    on_map_of is_colour_closed is_wrong_colour is_wrong_kind loses_track has_bad_side is_blocked lay_cost_of
    is_token_used has_none_left has_token_in is_no_free_slot kept_at laid_by token_cost_of side_towards step_between
    leg_to border_of borders_used tile_numbered tiles number_of_tile
turn =
    record {
      last = once_bought;
      orders = (
        once_laid,
        record {
          answer = Ok (pos 0);
          answered = record { reached = true; exact = λ none. (λ t. connected, λ c. refl); given = refl };
          after = refl;
        },
        (
          once_placed,
          record {
            answer = Ok (pos 40);
            answered = record { reached = true; exact = λ none. (λ t. reached, λ r. refl); given = refl };
            after = refl;
          },
          (once_run, refl, (once_paid, refl, (once_bought, refl, refl))),
        ),
      );
      after = inr (λ due. true≢false due.0, refl);
    }

-- and that is the round
pub played : IsOperatingRound file (Operating 2 1) (game before) (game (before ++ happens))
unfolding is_sheet_line sheet_of players_of body_of content_of version_of written_lines is_blank begins
    operating_order_of hexes hex_at site_of tile_numbered tiles number_of_tile printed
played =
    record {
      turned = game (before ++ happens);
      turns =
          record {
            companies = Pennsylvania ∷ [];
            turns = (game (before ++ happens), record { is_next = refl; turn = turn }, refl);
            over_then = refl;
          };
      after = refl;
    }
