-- What a company reaches of one hex.
use Rattle.std.specs.Prelude.{◌≡◌, ℕ, ◌+◌, ◌*◌, ◌<◌, ◌⊎◌, Bool, true, false, List, get_or}
use Rattle.map_tables.specs.Hex.{index_of}
use Rattle.map_tables.specs.Place.{stop_at}
use Rattle.map_tables.specs.declared.hex.Hex.{Hex}
use Rattle.map_tables.specs.declared.place.StopNumber.{StopNumber}
use Rattle.map_tables.specs.declared.track.Link.{Link}
use Rattle.reach.specs.Position.{IsAmong, Position, links_of}
use Rattle.reach.specs.Reached.{ReachesLink, ReachesStop}
use Rattle.tables.specs.declared.roster.Company.{Company}

-- a company reaches a link of a hex, or a stop of it
abbrev pub ReachesIn : Position → Company → Hex → Type 0
ReachesIn position company hex =
    ((link : Link) × IsAmong link (links_of position hex) × ReachesLink position company link)
    ⊎ ((number : StopNumber) × ReachesStop position company (stop_at hex number))

-- an end of a hex is marked, by its number in the hex
abbrev pub HasEnd : List Bool → Hex → Type 0
HasEnd marks hex = (number : ℕ) × (number < 8) × (get_or marks (8 * index_of hex + number) false ≡ true)
