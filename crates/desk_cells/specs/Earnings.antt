-- What a company earned in the last round in which it operated: the sum of what its runs earned
-- there. A company operates in a round where it runs a train or withholds; what it withholds was
-- earned by its runs before.
use Rattle.std.specs.Prelude.{ℕ, ◌+◌, if◌then◌else◌, true, false, List, Option, Some, None}
use Rattle.std.specs.List.{fold}
use Rattle.desk_cells.specs.declared.earnings.Earnings.{Earnings}
use Rattle.events.specs.Event.{round_begun_by}
use Rattle.events.specs.declared.event.Event.{Event}
use Rattle.events.specs.declared.event.Event.TheVariants.{Runs, Withheld}
use Rattle.tables.specs.Roster.{same_company}
use Rattle.tables.specs.declared.round.Round.{Round}
use Rattle.tables.specs.declared.roster.Company.{Company}

-- what a company earns by an event with which it operates
abbrev pub earned_by : Company → Event → Option ℕ
earned_by company (Runs its revenue) = if same_company its company then Some revenue else None
earned_by company (Withheld its amount) = if same_company its company then Some 0 else None
earned_by company other = None

-- where a round begins, if one does
abbrev pub with_round : Earnings → Option Round → Earnings
with_round earnings None = earnings
with_round earnings (Some round) = record earnings { now = Some round; has_operated = false }

-- with a sum, if there is one: it is added where the company has operated in this round
abbrev pub with_sum : Earnings → Option ℕ → Earnings
with_sum earnings None = earnings
with_sum earnings (Some sum) =
    record earnings {
      round = earnings.now;
      dollars = (if earnings.has_operated then earnings.dollars else 0) + sum;
      has_operated = true;
    }

-- after one more event
abbrev pub earnings_then : Company → Earnings → Event → Earnings
earnings_then company earnings event = with_sum (with_round earnings (round_begun_by event)) (earned_by company event)

-- after these events
abbrev pub earnings_of : Company → List Event → Earnings
earnings_of company events =
    fold (earnings_then company) (record { round = None; dollars = 0; now = None; has_operated = false }) events
