-- What the reached stops are to a company, as a walk over the choice tree looks it up.
use Rattle.std.specs.Prelude.{◌≡◌, ◌||◌, Some, None, get_or}
use Rattle.map_tables.specs.declared.place.Stop.{Stop}
use Rattle.reach.specs.Position.{Position, is_red, value_of}
use Rattle.reach.specs.Reached.{stop_order}
use Rattle.tables.specs.declared.roster.Company.{Company}
use Rattle.legal_runs.specs.Fault.{has_token_at_stop, is_full}
use Rattle.certificate.specs.declared.known_stops.KnownStops.{KnownStops}
use Rattle.certificate.specs.declared.known_stops.StopFacts.{StopFacts}

-- these are the facts of a stop, for a company
pub record IsOfStop (position : Position) (company : Company) (stop : Stop) (facts : StopFacts) : Type 0 where
  pub value : facts.value ≡ value_of position stop
  pub own : facts.own_token ≡ has_token_at_stop position company stop
  pub ends : facts.ends ≡ (is_red position stop || is_full position company stop)

-- what is known of a stop is so
abbrev pub AreKnown : Position → Company → KnownStops → Type 0
AreKnown position company known =
    (stop : Stop) (facts : StopFacts) → get_or known.facts (stop_order stop) None ≡ Some facts
    → IsOfStop position company stop facts
