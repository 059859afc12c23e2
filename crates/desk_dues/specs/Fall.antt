-- The next kind of train whose first sale takes trains from companies. Trains rust three times: the
-- 2s with the first 4, the 3s with the first 6, the 4s with the first D.
use Rattle.std.specs.Prelude.{◌&&◌, Bool, nat_lt, List, [], ◌∷◌, Option, Some, find, pos}
use Rattle.std.specs.Int.Signed.{lt_z}
use Rattle.std.specs.List.{list_any}
use Rattle.desk_dues.specs.declared.fall.Fall.{Fall}
use Rattle.events.specs.declared.event.Event.{Event}
use Rattle.totals.specs.Trains.{phase_of, trains_held}
use Rattle.tables.specs.Roster.{companies}
use Rattle.tables.specs.Train.{index_of_kind}
use Rattle.tables.specs.declared.rolling_stock.Kind.{Kind}
use Rattle.tables.specs.declared.rolling_stock.Kind.TheVariants.{Two, Three, Four, Six, Diesel}

-- the trains of a kind rust with the first train of another
abbrev fall_of : Kind → Kind → Fall
fall_of kind new = record { kind = kind; falls_with = new }

-- the three times that trains rust, in order
abbrev pub falls : List Fall
falls = fall_of Two Four ∷ fall_of Three Six ∷ fall_of Four Diesel ∷ []

-- some company has a train of a kind
abbrev pub is_held : List Event → Kind → Bool
is_held events kind = list_any (λ company. lt_z (pos 0) (trains_held events (Some company) kind)) companies

-- it is still to come, and takes a train from some company
unfoldable pub is_to_come : List Event → Fall → Bool
is_to_come events fall =
    nat_lt (index_of_kind (phase_of events)) (index_of_kind fall.falls_with) && is_held events fall.kind

-- the next time that trains of companies rust
unfoldable pub next_fall_of : List Event → Option Fall
next_fall_of events = find (is_to_come events) falls
