-- What is listed is exact: a candidate is in the list with a price exactly where the rules give
-- that price. So is the list of a company's lays, and that of its tokens, since every lay and every
-- place is a candidate.
use Rattle.std.specs.Prelude.{◌↔◌, List, Result, Ok, ℤ}
use Rattle.board.specs.LayRules.{IsLayAnswer}
use Rattle.board.specs.TokenRules.{IsTokenAnswer}
use Rattle.board.specs.declared.turn.Asker.{Asker}
use Rattle.board_state.specs.MapState.{MapState}
use Rattle.map_tables.specs.declared.lay.Lay.{Lay}
use Rattle.map_tables.specs.declared.place.Place.{Place}
use Rattle.moves.specs.Candidates.{all_lays, all_places}
use Rattle.moves.specs.Listed.{AreListed}
use Rattle.moves.specs.declared.priced.Priced.{Priced}
use Rattle.reach.specs.Position.{IsAmong}

-- a list is exact
abbrev pub IsExact : {A Fault : Type 0} → (A → Result ℤ Fault → Type 0) → List (Priced A) → Type 0
IsExact {A = A} rules listed =
    (one : A) (price : ℤ) → IsAmong (record { what = one; price = price }) listed ↔ rules one (Ok price)

-- the lays that are listed are all lays that there are, and no others
abbrev pub LaysAreExact : Type 0
LaysAreExact =
    (laid : MapState) (asker : Asker) (listed : List (Priced Lay)) → AreListed (IsLayAnswer laid asker) all_lays listed
    → IsExact (IsLayAnswer laid asker) listed

-- and so are the tokens
abbrev pub TokensAreExact : Type 0
TokensAreExact =
    (laid : MapState) (asker : Asker) (listed : List (Priced Place))
    → AreListed (IsTokenAnswer laid asker) all_places listed → IsExact (IsTokenAnswer laid asker) listed
