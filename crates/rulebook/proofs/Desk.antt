-- Example for the chapter `desk`: what a company has earned, and why its lay is refused.
-- PRR ran two trains in OR1.1, for 30 and 20 dollars, and withheld. OR1.2 has begun. What it earned
-- last is 50, in OR1.1, until it operates again. Once it has run for 40 in OR1.2, a `LAY` comes too
-- late since it has run, and once it has paid, a `WITHHOLD` comes too late.
use Rattle.std.proofs.Common.{◌≡◌, refl, true, false, List, [], ◌∷◌, ◌++◌, Some, None}
use Rattle.desk_cells.specs.Earnings.{earnings_of}
use Rattle.desk_base.specs.declared.cause.Cause.TheVariants as cause
use Rattle.desk_why.specs.Cause.{cause_of_lay, cause_of_pay}
use Rattle.desk_why.specs.Done.{last_done}
use Rattle.events.specs.declared.event.Event.{Event}
use Rattle.events.specs.declared.event.Event.TheVariants as event
use Rattle.events.specs.declared.event.Holder.TheVariants as holder
use Rattle.tables.specs.Seat.{seat_at}
use Rattle.tables.specs.declared.roster.Company.TheVariants.{Pennsylvania}
use Rattle.tables.specs.declared.round.Round.TheVariants.{Operating}

abbrev begun : List Event
begun =
    event.Round (Operating 1 1)
    ∷ event.Runs Pennsylvania 30
    ∷ event.Runs Pennsylvania 20
    ∷ event.Withheld Pennsylvania 50
    ∷ event.Round (Operating 1 2)
    ∷ []

abbrev run : List Event
run = begun ++ event.Runs Pennsylvania 40 ∷ []

abbrev paid : List Event
paid = run ++ event.Dividend Pennsylvania (holder.Seat (seat_at 0)) 24 ∷ []

pub earned_50 :
    earnings_of Pennsylvania begun
    ≡ record {
      round = Some (Operating 1 1);
      dollars = 50;
      now = Some (Operating 1 2);
      has_operated = false;
    }
earned_50 = refl

pub earned_40 :
    earnings_of Pennsylvania run
    ≡ record {
      round = Some (Operating 1 2);
      dollars = 40;
      now = Some (Operating 1 2);
      has_operated = true;
    }
earned_40 = refl

-- in OR1.2 it has done nothing yet
pub nothing_is_done : last_done begun Pennsylvania ≡ None
nothing_is_done = refl

-- and it has earned nothing that it could pay or withhold
pub nothing_is_earned : cause_of_pay (last_done begun Pennsylvania) ≡ cause.NothingEarned
nothing_is_earned = refl

pub lay_is_late : cause_of_lay (last_done run Pennsylvania) ≡ cause.HasRun
lay_is_late = refl

pub withhold_is_late : cause_of_pay (last_done paid Pennsylvania) ≡ cause.PaidOrWithheld
withhold_is_late = refl
