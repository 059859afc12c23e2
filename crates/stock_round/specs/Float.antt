-- The float: once at most four shares of a company are left in its initial offering, it has ten
-- times its par value. A company floats once.
use Rattle.std.specs.Prelude.{ℕ, ◌*◌, Bool, not, ◌&&◌, if◌then◌else◌, List, unwrap_or, pos}
use Rattle.std.specs.Int.Signed.{lt_z}
use Rattle.events.specs.declared.event.Event.{Event}
use Rattle.events.specs.declared.event.Event.TheVariants as event
use Rattle.events.specs.declared.event.Shareholder.TheVariants.{InitialOffering}
use Rattle.totals.specs.Shares.{is_floated, par_of, shares_of}
use Rattle.history.specs.Record.{broken_recorded}
use Rattle.totals.specs.LookBack.{Game, with_event, with_events}
use Rattle.tables.specs.declared.roster.Company.{Company}

-- at most 4 shares are left in the initial offering, and the company has not floated
abbrev pub is_to_float : List Event → Company → Bool
is_to_float events company = not (is_floated events company)
    && not (lt_z (pos 4) (shares_of events company InitialOffering))

-- with FLOATS for a company with this par value, and BROKEN if that breaks the bank
abbrev pub floated_at : Game → Company → ℕ → Game
floated_at game company par = broken_recorded (with_event game (event.Floats company (10 * par)))

-- with FLOATS if a company floats
abbrev pub with_float : Game → Company → Game
with_float game company = with_events game
    (if is_to_float game.events company then (floated_at game company (unwrap_or (par_of game.events company) 0)).events
    else game.events)
