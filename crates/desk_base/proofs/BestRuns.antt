-- The best runs by the map state of a board are those by the map state of its game.
use Rattle.std.proofs.Common.{◌≡◌, ℕ, List, subst}
use Rattle.board_state.specs.MapState.{MapState, position_of}
use Rattle.legal_runs.specs.Claim.{ClaimHolds}
use Rattle.legal_runs.specs.Set.{IsGreatest}
use Rattle.legal_runs.specs.declared.claim.Claim.{Claim}
use Rattle.tables.specs.declared.rolling_stock.Kind.{Kind}
use Rattle.tables.specs.declared.roster.Company.{Company}

-- a claim that holds on the board holds in the game
pub holds_in_game :
    (board now : MapState) (company : Company) (trains held : List Kind) (claim : Claim) → board ≡ now → trains ≡ held
    → ClaimHolds (position_of board) company trains claim → ClaimHolds (position_of now) company held claim
holds_in_game board now company trains held claim same_map same_trains holds =
    subst (λ (map_state : MapState). ClaimHolds (position_of map_state) company held claim) same_map
    (subst (λ (kinds : List Kind). ClaimHolds (position_of board) company kinds claim) same_trains holds)

-- the greatest revenue on the board is that in the game
pub greatest_in_game :
    (board now : MapState) (company : Company) (trains held : List Kind) (revenue : ℕ) → board ≡ now → trains ≡ held
    → IsGreatest (position_of board) company trains revenue → IsGreatest (position_of now) company held revenue
greatest_in_game board now company trains held revenue same_map same_trains greatest =
    subst (λ (map_state : MapState). IsGreatest (position_of map_state) company held revenue) same_map
    (subst (λ (kinds : List Kind). IsGreatest (position_of board) company kinds revenue) same_trains greatest)
