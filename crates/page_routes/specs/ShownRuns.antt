-- What a page shows of runs: whose each is, the kind of its train, whether it is from a RUN BEST, and its places.
use Rattle.std.specs.Prelude.{◌≡◌, Bool, true, List, ◌++◌, map}
use Rattle.events.specs.declared.event.Event.{Event}
use Rattle.legal_runs.specs.Claim.{ClaimHolds}
use Rattle.legal_runs.specs.Set.{IsGreatest}
use Rattle.legal_runs.specs.declared.claim.Claim.{Claim}
use Rattle.legal_runs.specs.declared.claim.ClaimedRun.{ClaimedRun}
use Rattle.map_tables.specs.declared.place.Place.{Place}
use Rattle.operating.specs.MapState.{position_now}
use Rattle.operating.specs.RunBest.{trains_now}
use Rattle.page_routes.specs.declared.routes.Route.{Route}
use Rattle.page_routes.specs.declared.routes.Visit.{Visit}
use Rattle.tables.specs.declared.rolling_stock.Kind.{Kind}
use Rattle.tables.specs.declared.roster.Company.{Company}

-- the place of a visit
abbrev pub place_of : Visit → Place
place_of visit = visit.place

-- a run as it is shown
abbrev pub shown : Route → Company × Kind × Bool × List Place
shown route = (route.company, route.kind, route.is_best, map place_of route.visits.items)

-- runs as they are shown
abbrev pub all_shown : List Route → List (Company × Kind × Bool × List Place)
all_shown routes = map shown routes

-- a run of a claim of a company, as it is to be shown
abbrev pub claimed_by : Company → ClaimedRun → Company × Kind × Bool × List Place
claimed_by company claimed = (company, claimed.kind, true, claimed.run)

-- runs are added that are legal for a company's trains as the game stands, and earn the most
abbrev pub AddsBest : List Event → Company → List Route → List Route → Type 0
AddsBest events company old new =
    (claim : Claim) × ClaimHolds (position_now events) company (trains_now events company) claim
    × IsGreatest (position_now events) company (trains_now events company) claim.revenue
    × (all_shown new ≡ all_shown old ++ map (claimed_by company) claim.runs)
