-- What the first train of a later kind from the bank brings, event by event, each on the list that
-- the one before left. Its phase begins. The trains that it rusts are removed from the game, company by company
-- and then those of the pool. With the first 5 all privates close. Then each company with more
-- trains than the new phase allows discards those that are too many to the pool.
use Rattle.std.specs.Prelude.{ℕ, Bool, false, if◌then◌else◌, Option, Some, None, is_some, pos, ◌-ℤ◌}
use Rattle.std.specs.List.{fold}
use Rattle.events.specs.declared.event.Event.TheVariants as event
use Rattle.totals.specs.LookBack.{Game, owner_of, with_event}
use Rattle.totals.specs.Trains.{phase_of, at_least_zero, train_count, trains_held}
use Rattle.purchases.specs.Discard.{with_next_discarded}
use Rattle.tables.specs.Roster.{companies, privates}
use Rattle.tables.specs.Steps.{iterate}
use Rattle.tables.specs.Train.{kinds, limit_of, rusting_of, same_kind}
use Rattle.tables.specs.declared.rolling_stock.Kind.{Kind}
use Rattle.tables.specs.declared.rolling_stock.Kind.TheVariants.{Five}
use Rattle.tables.specs.declared.roster.Company.{Company}
use Rattle.tables.specs.declared.roster.Private.{Private}

-- with CLOSED, if a private is open
abbrev pub with_closed : Game → Private → Game
with_closed game private =
    if is_some (owner_of game.events private) then with_event game (event.Closed private) else game

-- with CLOSED of each private that is open, in roster order
abbrev pub with_all_closed : Game → Game
with_all_closed game = fold with_closed game privates

-- with RUSTED of a train of the kind that a company has, or the pool
abbrev pub with_one_rusted : Option Company → Kind → Game → Game
with_one_rusted owner kind game = with_event game (event.Rusted owner kind)

-- with RUSTED of each train of the kind that a company has, or the pool
abbrev pub with_trains_rusted : Option Company → Kind → Game → Game
with_trains_rusted owner kind game =
    iterate (with_one_rusted owner kind) (at_least_zero (trains_held game.events owner kind)) game

-- with RUSTED of each train of the kind that a company has
abbrev pub with_company_rusted : Kind → Game → Company → Game
with_company_rusted kind game company = with_trains_rusted (Some company) kind game

-- with RUSTED of each train of the kind: company by company in roster order, then those of the pool
abbrev pub with_kind_rusted : Game → Kind → Game
with_kind_rusted game kind = with_trains_rusted None kind (fold (with_company_rusted kind) game companies)

-- the trains of a kind rust at the first train of this kind
abbrev pub rusts_at : Option Kind → Kind → Bool
rusts_at None new = false
rusts_at (Some rusting) new = same_kind rusting new

-- with RUSTED of each train of a kind, if they rust at the first train of this kind
abbrev pub with_kind_rusted_at : Kind → Game → Kind → Game
with_kind_rusted_at new game kind = if rusts_at (rusting_of kind) new then with_kind_rusted game kind else game

-- with RUSTED of each train that the first train of a kind rusts
abbrev pub with_rusted : Kind → Game → Game
with_rusted new game = fold (with_kind_rusted_at new) game kinds

-- with CLOSED of each private that is open, if this phase closes them
abbrev pub with_privates_closed : Kind → Game → Game
with_privates_closed phase game = if same_kind phase Five then with_all_closed game else game

-- how many trains a company has over the limit of the phase
abbrev pub excess_of : Game → Company → ℕ
excess_of game company = at_least_zero (train_count game.events (Some company) -ℤ pos (limit_of (phase_of game.events)))

-- with DISCARDED of each train that a company has over the limit
abbrev pub with_limit_kept : Game → Company → Game
with_limit_kept game company = iterate (with_next_discarded company) (excess_of game company) game

-- with DISCARDED of each train over the limit, company by company in roster order
abbrev pub with_limits_kept : Game → Game
with_limits_kept game = fold with_limit_kept game companies

-- after a phase has begun
abbrev pub with_phase : Game → Kind → Game
with_phase game phase =
    with_limits_kept (with_privates_closed phase (with_rusted phase (with_event game (event.Phase phase))))
