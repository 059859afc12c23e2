-- What a board keeps beside the lists of what was laid, so that it finds a tile or a token at once.
-- It keeps the tile on each hex, by the number of the hex, and the links that it gives the hex. It
-- keeps how many tokens name each stop, by the order of the stops, and whether a company's does, by
-- stop and company.
use Rattle.std.specs.Prelude.{◌≡◌, ℕ, ◌+◌, ◌*◌, Bool, true, false, List, [], Option, Some, None, get_or, set}
use Rattle.std.specs.List.{count_by}
use Rattle.map_tables.specs.Hex.{index_of}
use Rattle.map_tables.specs.Lay.{laid_links_of}
use Rattle.map_tables.specs.OnMap.{by_tile, has_token, names, tile_on}
use Rattle.map_tables.specs.Place.{joined_stop_of}
use Rattle.map_tables.specs.declared.hex.Hex.{Hex}
use Rattle.map_tables.specs.declared.lay.Lay.{Lay}
use Rattle.map_tables.specs.declared.place.Place.{Place}
use Rattle.map_tables.specs.declared.place.Stop.{Stop}
use Rattle.map_tables.specs.declared.track.Link.{Link}
use Rattle.reach.specs.Reached.{stop_order}
use Rattle.tables.specs.Roster.{index_of_company}
use Rattle.tables.specs.declared.roster.Company.{Company}

-- the place of a company at a stop
abbrev pub holder_order : Stop → Company → ℕ
holder_order stop company = 8 * stop_order stop + index_of_company company

-- an index has a map state
pub record IsIndex (lays : List Lay) (laid : List (Place × Company)) (tiles : List (Option Lay))
    (links : List (List Link)) (counts : List ℕ) (holders : List Bool) : Type 0 where
  pub tile : (hex : Hex) → get_or tiles (index_of hex) None ≡ tile_on lays hex
  pub link : (hex : Hex) → get_or links (index_of hex) [] ≡ by_tile [] laid_links_of (tile_on lays hex)
  pub count : (stop : Stop) → get_or counts (stop_order stop) 0 ≡ count_by (λ token. names stop token.0) laid
  pub holder : (stop : Stop) (company : Company)
      → get_or holders (holder_order stop company) false ≡ has_token laid stop company

-- the counts once a token is placed that names a stop, or names none
abbrev pub counting : Option Stop → List ℕ → List ℕ
counting None counts = counts
counting (Some part) counts =
    let order = stop_order (joined_stop_of part) in set counts order (get_or counts order 0 + 1)

-- which companies' tokens lie once a token is placed that names a stop, or names none
abbrev pub holding : Option Stop → Company → List Bool → List Bool
holding None company holders = holders
holding (Some part) company holders = set holders (holder_order (joined_stop_of part) company) true
