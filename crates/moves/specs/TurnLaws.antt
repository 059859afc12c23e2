-- What is listed at the beginning of a company's turn is what it may do in the first line of its
-- orders. A lay that is listed is obeyed there at its price, and one that is not listed is refused
-- by a rule. The same holds of tokens.
use Rattle.std.specs.Prelude.{◌≡◌, List, Ok, Err, ℤ}
use Rattle.board.specs.LayRules.{IsLayAnswer}
use Rattle.board.specs.TokenRules.{IsTokenAnswer}
use Rattle.forced_purchase.specs.declared.operator.Operator.{Operator}
use Rattle.map_tables.specs.declared.lay.Lay.{Lay}
use Rattle.map_tables.specs.declared.place.Place.{Place}
use Rattle.map_tables.specs.declared.rules.LayRule.{LayRule}
use Rattle.map_tables.specs.declared.rules.TokenRule.{TokenRule}
use Rattle.moves.specs.Candidates.{all_lays, all_places}
use Rattle.moves.specs.Listed.{AreListed}
use Rattle.moves.specs.declared.priced.Priced.{Priced}
use Rattle.operating.specs.BoardAsker.{asker_of}
use Rattle.operating.specs.CompanyOrders.{OrderLeads}
use Rattle.operating.specs.Lay.{lay_answered}
use Rattle.operating.specs.MapState.{map_state_now}
use Rattle.operating.specs.Progress.{at_start}
use Rattle.operating.specs.Token.{token_answered}
use Rattle.operating.specs.TurnState.{TurnState, turn_state}
use Rattle.order_grammar.specs.declared.order.Order.TheVariants as order
use Rattle.order_grammar.specs.declared.play.PlayOrder.TheVariants as play
use Rattle.reach.specs.Position.{IsAmong}
use Rattle.sheets.specs.Part.{Numbered}
use Rattle.tables.specs.declared.roster.Company.{Company}
use Rattle.totals.specs.LookBack.{Game}

-- these are the lays that a company may make as its turn begins
abbrev pub AreLaysAtStart : Game → Company → List (Priced Lay) → Type 0
AreLaysAtStart game company listed =
    AreListed (IsLayAnswer (map_state_now game.events) (asker_of game company at_start)) all_lays listed

-- and these are its tokens
abbrev pub AreTokensAtStart : Game → Company → List (Priced Place) → Type 0
AreTokensAtStart game company listed =
    AreListed (IsTokenAnswer (map_state_now game.events) (asker_of game company at_start)) all_places listed

-- a lay that is listed is obeyed at its price
abbrev pub ListedLaysAreObeyed : Type 0
ListedLaysAreObeyed =
    (by : Operator) (game : Game) (line : Numbered) (lay : Lay) (listed : List (Priced Lay)) (new : TurnState) →
    AreLaysAtStart game by.company listed → OrderLeads by (turn_state game at_start) line (order.Play (play.Lay lay)) new
    → (price : ℤ) → IsAmong (record { what = lay; price = price }) listed
    → new ≡ lay_answered by (turn_state game at_start) line lay (Ok price)

-- after a lay in this line was refused by some rule
pub record IsLayRefused (by : Operator) (turn : TurnState) (line : Numbered) (lay : Lay)
    (new : TurnState) : Type 0 where
  pub rule : LayRule
  pub after : new ≡ lay_answered by turn line lay (Err rule)

-- and one that is not listed is refused
abbrev pub OtherLaysAreRefused : Type 0
OtherLaysAreRefused =
    (by : Operator) (game : Game) (line : Numbered) (lay : Lay) (listed : List (Priced Lay)) (new : TurnState) →
    AreLaysAtStart game by.company listed → OrderLeads by (turn_state game at_start) line (order.Play (play.Lay lay)) new
    → ((price : ℤ) → IsAmong (record { what = lay; price = price }) listed → ⊥)
    → IsLayRefused by (turn_state game at_start) line lay new

-- a token that is listed is obeyed at its price
abbrev pub ListedTokensAreObeyed : Type 0
ListedTokensAreObeyed =
    (by : Operator) (game : Game) (line : Numbered) (place : Place) (listed : List (Priced Place)) (new : TurnState) →
    AreTokensAtStart game by.company listed → OrderLeads by (turn_state game at_start) line (order.Play (play.Token place)) new
    → (price : ℤ) → IsAmong (record { what = place; price = price }) listed
    → new ≡ token_answered by (turn_state game at_start) line place (Ok price)

-- after a token in this line was refused by some rule
pub record IsTokenRefused (by : Operator) (turn : TurnState) (line : Numbered) (place : Place)
    (new : TurnState) : Type 0 where
  pub rule : TokenRule
  pub after : new ≡ token_answered by turn line place (Err rule)

-- and one that is not listed is refused
abbrev pub OtherTokensAreRefused : Type 0
OtherTokensAreRefused =
    (by : Operator) (game : Game) (line : Numbered) (place : Place) (listed : List (Priced Place)) (new : TurnState) →
    AreTokensAtStart game by.company listed → OrderLeads by (turn_state game at_start) line (order.Play (play.Token place)) new
    → ((price : ℤ) → IsAmong (record { what = place; price = price }) listed → ⊥)
    → IsTokenRefused by (turn_state game at_start) line place new
