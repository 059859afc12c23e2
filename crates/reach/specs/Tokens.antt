-- Tokens as a list of places with companies, in which a search finds where walks begin.
use Rattle.std.specs.Prelude.{◌≡◌, Bool, true, if◌then◌else◌, List, Option, Some, None}
use Rattle.map_tables.specs.OnMap.{has_token}
use Rattle.map_tables.specs.Place.{joined_stop_of, stop_of_place}
use Rattle.map_tables.specs.declared.place.Place.{Place}
use Rattle.map_tables.specs.declared.place.Stop.{Stop}
use Rattle.reach.specs.Position.{HasToken, Position}
use Rattle.reach.specs.Search.{IsTokenMarked}
use Rattle.reach.specs.declared.walk.Spot.{Spot}
use Rattle.tables.specs.Roster.{same_company}
use Rattle.tables.specs.declared.roster.Company.{Company}

-- each stop with a token of the company is named by one of these tokens
abbrev pub AreNamed : Position → Company → List (Place × Company) → Type 0
AreNamed position company tokens =
    (stop : Stop) → HasToken position stop company → has_token tokens (joined_stop_of stop) company ≡ true

-- the stop that a token names, if it is one of the company
abbrev pub stop_of_token : Company → Place × Company → Option Stop
stop_of_token company token = if same_company token.1 company then stop_of_place token.0 else None

-- the stop that a token names is marked if the company has a token there
abbrev pub IsListed : Position → Company → Option Stop → List Bool → List Spot → List Bool → List Spot → Type 0
IsListed position company None old waited new waiting = (new ≡ old) × (waiting ≡ waited)
IsListed position company (Some stop) old waited new waiting =
    IsTokenMarked position company stop old waited new waiting
