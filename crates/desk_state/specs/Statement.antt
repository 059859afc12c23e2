-- The companies that are started, which a statement shows.
use Rattle.std.specs.Prelude.{if◌then◌else◌, List, [], ◌∷◌}
use Rattle.std.specs.List.{flat_map}
use Rattle.events.specs.declared.event.Event.{Event}
use Rattle.tables.specs.declared.roster.Company.{Company}
use Rattle.totals.specs.Shares.{is_started}

-- a company, if it is started
abbrev pub started_one : List Event → Company → List Company
started_one events company = if is_started events company then company ∷ [] else []

-- those of some companies that are started, in their order
abbrev pub started_in : List Event → List Company → List Company
started_in events order = flat_map (started_one events) order
