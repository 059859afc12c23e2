-- What lies on the map fits, with the home tokens that are still to come. A lay and a token by the
-- rules, and a home token, keep it so. What fits with them is no fault of a board.
use Rattle.std.specs.Prelude.{◌≡◌, false, None}
use Rattle.board_state.specs.Fit.{board_fault_of}
use Rattle.board_state.specs.MapState.{MapState, with_lay, with_token}
use Rattle.board.specs.LayRules.{map_rules}
use Rattle.board.specs.TokenRules.{slot_rules}
use Rattle.board.specs.declared.turn.Asker.{Asker}
use Rattle.map_tables.specs.Fit.{AreFitWithHomes}
use Rattle.map_tables.specs.Home.{home_of}
use Rattle.map_tables.specs.OnMap.{has_token}
use Rattle.map_tables.specs.Place.{place_of}
use Rattle.map_tables.specs.declared.lay.Lay.{Lay}
use Rattle.map_tables.specs.declared.place.Place.{Place}
use Rattle.tables.specs.Rules.{first_broken}
use Rattle.tables.specs.declared.roster.Company.{Company}

-- the map state fits, with the home tokens to come
abbrev pub Fits : MapState → Type 0
Fits laid = AreFitWithHomes laid.lays laid.tokens

-- what fits with the home tokens to come is a board without them
abbrev pub FitsWithoutHomes : Type 0
FitsWithoutHomes = (laid : MapState) → Fits laid → board_fault_of laid.lays laid.tokens ≡ None

-- a lay by the rules keeps the map state fit
abbrev pub LayKeepsFit : Type 0
LayKeepsFit =
    (laid : MapState) (asker : Asker) (lay : Lay) → Fits laid → first_broken (map_rules laid asker lay) ≡ None
    → Fits (with_lay laid lay)

-- a token by the rules does
abbrev pub TokenKeepsFit : Type 0
TokenKeepsFit =
    (laid : MapState) (asker : Asker) (place : Place) →
    Fits laid → first_broken (slot_rules laid asker place) ≡ None → Fits (with_token laid place asker.company)

-- a home token does
abbrev pub HomeKeepsFit : Type 0
HomeKeepsFit =
    (laid : MapState) (company : Company) →
    Fits laid → has_token laid.tokens (home_of company) company ≡ false
    → Fits (with_token laid (place_of (home_of company)) company)
