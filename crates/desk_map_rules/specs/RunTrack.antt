-- The borders that a run crosses, by its places: those between the hexes of one place and the next. They do not depend on the
-- track. Hexes that are no neighbours have no border between them.
use Rattle.std.specs.Prelude.{ℕ, Bool, true, false, List, [], ◌∷◌, ◌++◌, option_map}
use Rattle.legal_runs.specs.Legal.{border_of, listed}
use Rattle.legal_runs.specs.Named.{side_towards}
use Rattle.map_tables.specs.declared.hex.Hex.{Hex}
use Rattle.map_tables.specs.declared.place.Place.{Place}
use Rattle.map_tables.specs.declared.rules.RunRule.{RunRule}
use Rattle.map_tables.specs.declared.rules.RunRule.TheVariants as of_run

-- the border between two hexes, if they are neighbours
abbrev pub border_between : Hex → Hex → List ℕ
border_between hex other = listed (option_map (border_of hex) (side_towards hex other))

-- the borders from a place over the next ones
abbrev pub borders_onward : Place → List Place → List ℕ
borders_onward place [] = []
borders_onward place (next ∷ places) = border_between place.hex next.hex ++ borders_onward next places

-- the borders that a run crosses
abbrev pub borders_named : List Place → List ℕ
borders_named [] = []
borders_named (place ∷ places) = borders_onward place places

-- the rule says that there is no track
abbrev pub is_no_track : RunRule → Bool
is_no_track of_run.NoTrack = true
is_no_track other = false
