-- The rules on the tiles and tokens on the map, as a table: a board is refused by the first that is
-- broken. None is broken exactly if the tiles and tokens are fit.
use Rattle.std.specs.Prelude.{◌≡◌, ◌↔◌, List, [], ◌∷◌, Option, None}
use Rattle.std.specs.List.{list_any}
use Rattle.board_state.specs.declared.fault.BoardFault.{BoardFault}
use Rattle.board_state.specs.declared.fault.BoardFault.TheVariants as fault
use Rattle.map_tables.specs.Fit.{AreFit, has_bad_side, has_no_slot, is_wrong_kind}
use Rattle.map_tables.specs.declared.lay.Lay.{Lay}
use Rattle.map_tables.specs.declared.place.Place.{Place}
use Rattle.tables.specs.Rules.{Rule, first_broken}
use Rattle.tables.specs.declared.roster.Company.{Company}

-- the rules that a map state may break
abbrev pub board_rules : List Lay → List (Place × Company) → List (Rule BoardFault)
board_rules lays tokens =
    record { code = fault.Kind; broken = list_any is_wrong_kind lays }
    ∷ record { code = fault.BadSide; broken = list_any has_bad_side lays }
    ∷ record { code = fault.NoSlot; broken = list_any (has_no_slot lays tokens) tokens }
    ∷ []

-- the first of them that is broken
unfoldable pub board_fault_of : List Lay → List (Place × Company) → Option BoardFault
board_fault_of lays tokens = first_broken (board_rules lays tokens)

-- none is broken exactly if the tiles and tokens are fit
abbrev pub FaultlessAreFit : Type 0
FaultlessAreFit = (lays : List Lay) (tokens : List (Place × Company))
    → (board_fault_of lays tokens ≡ None) ↔ AreFit lays tokens
