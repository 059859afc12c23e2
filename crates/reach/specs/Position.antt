-- A position: the tiles and tokens on the map at one moment. For each hex, in the order of the map,
-- it has the links of the hex and its stops, by their numbers. For each stop it has its value in
-- dollars, whether it is red, how many slots for tokens it has, and whose tokens lie there. A stop
-- that lies in two hexes is kept in the hex that names it.
use Rattle.std.specs.Prelude.{◌≡◌, ℕ, ◌<◌, ◌≤◌, Bool, false, ◌⊎◌, List, [], ◌∷◌, length, get_or}
use Rattle.map_tables.specs.Hex.{index_of}
use Rattle.map_tables.specs.Place.{joined_stop_of, stop_index_of}
use Rattle.map_tables.specs.declared.hex.Hex.{Hex}
use Rattle.map_tables.specs.declared.place.Stop.{Stop}
use Rattle.map_tables.specs.declared.track.Link.{Link}
use Rattle.tables.specs.declared.roster.Company.{Company}

-- what is at a stop: a city, a town or a red area
pub record AtStop : Type 0 where
  pub value : ℕ
  pub red : Bool
  pub slots : ℕ
  pub tokens : List Company

-- what is in a hex
pub record InHex : Type 0 where
  pub links : List Link
  pub stops : List AtStop

-- what is in the hexes of the map, in order
pub record Position : Type 0 where
  pub hexes : List InHex

-- a hex with nothing in it
abbrev pub empty_hex : InHex
empty_hex = record { links = []; stops = [] }

-- what is where there is no stop
abbrev pub no_stop : AtStop
no_stop = record { value = 0; red = false; slots = 0; tokens = [] }

-- what is in a hex
abbrev pub in_hex : Position → Hex → InHex
in_hex position hex = get_or position.hexes (index_of hex) empty_hex

-- the links of a hex
abbrev pub links_of : Position → Hex → List Link
links_of position hex = (in_hex position hex).links

-- what is at a stop
abbrev pub at_stop : Position → Stop → AtStop
at_stop position stop =
    let joined = joined_stop_of stop in get_or (in_hex position joined.hex).stops (stop_index_of joined.number) no_stop

-- what a stop is worth, in dollars
abbrev pub value_of : Position → Stop → ℕ
value_of position stop = (at_stop position stop).value

-- a stop is red
abbrev pub is_red : Position → Stop → Bool
is_red position stop = (at_stop position stop).red

-- a thing is one of a list
abbrev pub IsAmong : {A : Type 0} → A → List A → Type 0
IsAmong thing [] = ⊥
IsAmong thing (other ∷ others) = (other ≡ thing) ⊎ IsAmong thing others

-- a company has a token at a stop
abbrev pub HasToken : Position → Stop → Company → Type 0
HasToken position stop company = IsAmong company (at_stop position stop).tokens

-- A city is full for a company: it has slots, and all of them hold tokens of others.
pub record IsFull (position : Position) (stop : Stop) (company : Company) : Type 0 where
  pub is_city : 0 < (at_stop position stop).slots
  pub all_taken : (at_stop position stop).slots ≤ length (at_stop position stop).tokens
  pub by_others : ¬ HasToken position stop company
