-- The tokens that a page shows at a stop.
use Rattle.std.specs.Prelude.{if◌then◌else◌, List, [], ◌∷◌}
use Rattle.std.specs.List.{flat_map}
use Rattle.events.specs.declared.event.Event.{Event}
use Rattle.map_tables.specs.OnMap.{has_token}
use Rattle.map_tables.specs.declared.place.Stop.{Stop}
use Rattle.page_map.specs.News.{in_last_round, is_token_at}
use Rattle.picture.specs.declared.drawing.Marker.{Marker}
use Rattle.picture.specs.declared.drawing.Marker.TheVariants.{Token, NewToken}
use Rattle.tables.specs.Roster.{companies}
use Rattle.tables.specs.declared.roster.Company.{Company}
use Rattle.totals.specs.Operating.{tokens_of}

-- a company, if it has a token at a stop
abbrev pub token_there : List Event → Stop → Company → List Company
token_there events stop company = if has_token (tokens_of events) stop company then company ∷ [] else []

-- the companies that have a token at a stop, in the order of the roster
abbrev pub tokens_there : List Event → Stop → List Company
tokens_there events stop = flat_map (token_there events stop) companies

-- the token of a company at a stop as it is shown: as new if it was placed in the last round
abbrev pub marker_of : List Event → Stop → Company → Marker
marker_of events stop company = if in_last_round (is_token_at stop company) events then NewToken company else Token company
