-- A PAR in an opening sheet: a standing line that sets the par value of BO for the case that the
-- seat buys BOP. It must name BO and a par value.
use Rattle.std.specs.Prelude.{ℕ, Bool, not, ◌&&◌, List, [], ◌∷◌, unwrap_or}
use Rattle.events.specs.Event.{is_par_value}
use Rattle.events.specs.declared.event.Event.{Event}
use Rattle.events.specs.declared.ruling.OpeningRule.{OpeningRule}
use Rattle.events.specs.declared.ruling.OpeningRule.TheVariants.{NotOfOpening}
use Rattle.totals.specs.Orders.{par_ordered_of}
use Rattle.tables.specs.Chart.{least_par}
use Rattle.tables.specs.Roster.{same_company}
use Rattle.tables.specs.Rules.{Rule}
use Rattle.tables.specs.declared.roster.Company.{Company}
use Rattle.tables.specs.declared.roster.Company.TheVariants.{BaltimoreOhio}
use Rattle.tables.specs.declared.seat.Seat.{Seat}

-- a par value that BOP's buyer may set
abbrev pub is_par_of_baltimore : Company → ℕ → Bool
is_par_of_baltimore company price = same_company company BaltimoreOhio && is_par_value price

-- The rule that a PAR may break. It is:
--
-- - it is not of BO, or names no par value.
abbrev pub par_rules : Company → ℕ → List (Rule OpeningRule)
par_rules company price = record { code = NotOfOpening; broken = not (is_par_of_baltimore company price) } ∷ []

-- the par value that a buyer of BOP sets for BO: that of their last obeyed order to set it,
-- otherwise the least
abbrev pub par_set_by : List Event → Seat → ℕ
par_set_by events buyer = unwrap_or (par_ordered_of events buyer) least_par
