-- The lays and tokens of a company as order lines: all those that it may make at this point of its turn, and no others, in
-- their order, each with four spaces and its price after it.
use Rattle.std.specs.Prelude.{◌≡◌, ℕ, List, [], ◌∷◌, ◌++◌, codes, ℤ}
use Rattle.std.specs.Fmt.{signed_decimal}
use Rattle.std.specs.List.{flat_map}
use Rattle.board.specs.LayRules.{IsLayAnswer}
use Rattle.board.specs.TokenRules.{IsTokenAnswer}
use Rattle.map_tables.specs.declared.lay.Lay.{Lay}
use Rattle.map_tables.specs.declared.place.Place.{Place}
use Rattle.moves.specs.Candidates.{all_lays, all_places}
use Rattle.moves.specs.Listed.{AreListed}
use Rattle.moves.specs.declared.priced.Priced.{Priced}
use Rattle.operating.specs.BoardAsker.{asker_of}
use Rattle.operating.specs.MapState.{map_state_now}
use Rattle.operating.specs.TurnState.{TurnState}
use Rattle.order_grammar.specs.Print.{spelling_of}
use Rattle.order_grammar.specs.declared.order.Order.TheVariants.{Play}
use Rattle.order_grammar.specs.declared.play.PlayOrder.{PlayOrder}
use Rattle.order_grammar.specs.declared.play.PlayOrder.TheVariants as play
use Rattle.tables.specs.declared.roster.Company.{Company}

-- an order, four spaces, and its price in dollars
abbrev pub priced_line : PlayOrder → ℤ → List ℕ
priced_line its price = spelling_of (Play its) ++ codes "    " ++ signed_decimal price ++ 10 ∷ []

-- the line of a lay
abbrev pub lay_line : Priced Lay → List ℕ
lay_line lay = priced_line (play.Lay lay.what) lay.price

-- the line of a token
abbrev pub token_line : Priced Place → List ℕ
token_line token = priced_line (play.Token token.what) token.price

-- these are the lays that a company may make where its turn has come to
abbrev pub AreLaysIn : TurnState → Company → List (Priced Lay) → Type 0
AreLaysIn turn company listed =
    AreListed (IsLayAnswer (map_state_now turn.game.events) (asker_of turn.game company turn.progress)) all_lays listed

-- and these are its tokens
abbrev pub AreTokensIn : TurnState → Company → List (Priced Place) → Type 0
AreTokensIn turn company listed =
    AreListed (IsTokenAnswer (map_state_now turn.game.events) (asker_of turn.game company turn.progress)) all_places
    listed

-- these are the lines of the lays and tokens that a company may make in this turn
pub record AreLines (turn : TurnState) (company : Company) (text : List ℕ) : Type 0 where
  pub lays : List (Priced Lay)
  pub are_lays : AreLaysIn turn company lays
  pub tokens : List (Priced Place)
  pub are_tokens : AreTokensIn turn company tokens
  pub is : text ≡ flat_map lay_line lays ++ flat_map token_line tokens
