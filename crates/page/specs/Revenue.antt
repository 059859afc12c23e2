-- What a company earned in a round: what its runs earned, and whether it withheld that. And the rows
-- of a table of that, one for each operating round of a game.
use Rattle.std.specs.Prelude.{ℕ, ◌+◌, true, false, if◌then◌else◌, List, Option, Some, None, map}
use Rattle.std.specs.List.{filter_map, fold}
use Rattle.events.specs.declared.event.Event.{Event}
use Rattle.events.specs.declared.event.Event.TheVariants.{Runs, Withheld}
use Rattle.page.specs.declared.revenue_part.Revenue.{Revenue}
use Rattle.page.specs.declared.revenue_part.RevenueRow.{RevenueRow}
use Rattle.report.specs.Report.{round_begun, rounds_in}
use Rattle.tables.specs.Roster.{companies, same_company}
use Rattle.tables.specs.declared.roster.Company.{Company}
use Rattle.tables.specs.declared.round.Round as round
use Rattle.tables.specs.declared.round.Round.TheVariants.{Operating}

-- with what some runs earned
abbrev pub with_runs : Revenue → ℕ → Revenue
with_runs revenue sum = record revenue { has_operated = true; dollars = revenue.dollars + sum }

-- where it withholds
abbrev pub with_withheld : Revenue → Revenue
with_withheld revenue = record revenue { has_operated = true; is_withheld = true }

-- what a company has earned after an event, by what it had before
abbrev pub revenue_then : Company → Revenue → Event → Revenue
revenue_then company revenue (Runs its sum) = if same_company its company then with_runs revenue sum else revenue
revenue_then company revenue (Withheld its amount) = if same_company its company then with_withheld revenue else revenue
revenue_then company revenue other = revenue

-- what a company earned by the events of a round
abbrev pub revenue_in : List Event → Company → Revenue
revenue_in events company =
    fold (revenue_then company) (record { has_operated = false; dollars = 0; is_withheld = false }) events

-- a round, if it is an operating round
abbrev pub if_operating : Option round.Round → Option round.Round
if_operating (Some (Operating set number)) = Some (Operating set number)
if_operating other = None

-- the operating round that these events begin with, if they do
abbrev pub operating_round : List Event → Option round.Round
operating_round events = if_operating (round_begun events)

-- the row of an operating round: in each cell what the company earned by the events of the round
abbrev pub row_if : List Event → Option round.Round → Option RevenueRow
row_if events None = None
row_if events (Some round) = Some (record { round = round; earned = map (revenue_in events) companies })

-- the row of a round by its events, if it is an operating round
abbrev pub revenue_row : List Event → Option RevenueRow
revenue_row events = row_if events (operating_round events)

-- the rows of a game: the events cut into rounds, and a row for each that is an operating round
abbrev pub revenue_rows : List Event → List RevenueRow
revenue_rows events = filter_map revenue_row (rounds_in events)
