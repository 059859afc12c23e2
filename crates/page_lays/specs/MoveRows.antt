-- The lays and tokens of a company as rows: those that it may make where its turn has come to, all of them and no others,
-- lays first, each with its price. Those on a hex keep their order.
use Rattle.std.specs.Prelude.{◌≡◌, Bool, true, false, List, ◌++◌, map}
use Rattle.board.specs.LayRules.{IsLayAnswer}
use Rattle.board.specs.TokenRules.{IsTokenAnswer}
use Rattle.board_state.specs.MapState.{MapState, with_lay, with_token}
use Rattle.map_tables.specs.Hex.{same_hex}
use Rattle.map_tables.specs.declared.hex.Hex.{Hex}
use Rattle.map_tables.specs.declared.lay.Lay.{Lay}
use Rattle.map_tables.specs.declared.place.Place.{Place}
use Rattle.moves.specs.Candidates.{all_lays, all_places}
use Rattle.moves.specs.Listed.{AreListed}
use Rattle.moves.specs.declared.priced.Priced.{Priced}
use Rattle.operating.specs.BoardAsker.{asker_of}
use Rattle.operating.specs.MapState.{map_state_now}
use Rattle.operating.specs.TurnState.{TurnState}
use Rattle.order_grammar.specs.declared.play.PlayOrder.{PlayOrder}
use Rattle.order_grammar.specs.declared.play.PlayOrder.TheVariants as play
use Rattle.page_lays.specs.declared.move_lines.Line.{Line}
use Rattle.page_lays.specs.declared.move_rows.Move.{Move}
use Rattle.page_lays.specs.declared.move_rows.Move.TheVariants as move
use Rattle.page_lays.specs.declared.move_rows.MoveKind.{MoveKind}
use Rattle.page_lays.specs.declared.move_rows.MoveKind.TheVariants.{Lays, Tokens, Both}
use Rattle.tables.specs.declared.roster.Company.{Company}

-- a lay or a token is of this kind
abbrev pub is_of : Move → MoveKind → Bool
is_of (move.Lay lay) Lays = true
is_of (move.Lay lay) Tokens = false
is_of (move.Lay lay) Both = true
is_of (move.Token place) Lays = false
is_of (move.Token place) Tokens = true
is_of (move.Token place) Both = true

-- the hex on which a lay or a token is
abbrev pub hex_of_move : Move → Hex
hex_of_move (move.Lay lay) = lay.hex
hex_of_move (move.Token place) = place.hex

-- the order for it
abbrev pub order_of_move : Move → PlayOrder
order_of_move (move.Lay lay) = play.Lay lay
order_of_move (move.Token place) = play.Token place

-- a map once it is done
abbrev pub with_move : MapState → Move → Company → MapState
with_move state (move.Lay lay) company = with_lay state lay
with_move state (move.Token place) company = with_token state place company

-- the row of a lay
abbrev pub lay_row : Priced Lay → Priced Move
lay_row lay = record { what = move.Lay lay.what; price = lay.price }

-- the row of a token
abbrev pub token_row : Priced Place → Priced Move
token_row token = record { what = move.Token token.what; price = token.price }

-- these are the rows of the lays and tokens that a company may make where its turn has come to
pub record AreMovesIn (turn : TurnState) (company : Company) (rows : List (Priced Move)) : Type 0 where
  pub lays : List (Priced Lay)
  pub are_lays : AreListed (IsLayAnswer (map_state_now turn.game.events) (asker_of turn.game company turn.progress))
      all_lays lays
  pub tokens : List (Priced Place)
  pub are_tokens : AreListed (IsTokenAnswer (map_state_now turn.game.events) (asker_of turn.game company turn.progress))
      all_places tokens
  pub is : rows ≡ map lay_row lays ++ map token_row tokens

-- the row of a line
abbrev pub row_of : Line → Priced Move
row_of line = line.row

-- a line is on a hex
abbrev pub is_on : Hex → Line → Bool
is_on hex line = same_hex (hex_of_move line.row.what) hex
