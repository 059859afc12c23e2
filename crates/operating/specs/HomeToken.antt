-- The home token. As a company's turn begins it places a token at its home, for nothing, if no
-- token of it lies there. The first token that a company places in play is that of its home: it has
-- placed none if none lies there.
use Rattle.std.specs.Prelude.{Bool, List, if◌then◌else◌}
use Rattle.events.specs.declared.event.Event.{Event}
use Rattle.events.specs.declared.event.Event.TheVariants as event
use Rattle.map_tables.specs.Home.{home_of}
use Rattle.map_tables.specs.OnMap.{has_token}
use Rattle.map_tables.specs.Place.{place_of}
use Rattle.tables.specs.declared.roster.Company.{Company}
use Rattle.totals.specs.LookBack.{Game, with_event}
use Rattle.totals.specs.Operating.{tokens_of}

-- a token of the company lies at its home
abbrev pub has_home_token : List Event → Company → Bool
has_home_token events company = has_token (tokens_of events) (home_of company) company

-- with HOME, if none lies there
abbrev pub with_home : Game → Company → Game
with_home game company = if has_home_token game.events company then game else with_event game
    (event.Home company (place_of (home_of company)))
