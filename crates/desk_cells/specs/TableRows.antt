-- The rows of each table, in their order.
use Rattle.std.specs.Prelude.{ℕ, nat_lt, if◌then◌else◌, List, [], ◌∷◌, map}
use Rattle.std.specs.List.{flat_map}
use Rattle.desk_cells.specs.Leaders.{six_seats}
use Rattle.desk_cells.specs.Rows.{company_row, player_row, private_row, train_row}
use Rattle.desk_cells.specs.declared.field.TableRow.{TableRow}
use Rattle.desk_cells.specs.declared.field.TableRow.TheVariants.{OfCompany, OfPlayer, OfPrivate, OfTrain}
use Rattle.events.specs.declared.event.Event.{Event}
use Rattle.tables.specs.Roster.{privates}
use Rattle.tables.specs.Train.{kinds}
use Rattle.tables.specs.declared.roster.Company.{Company}
use Rattle.tables.specs.declared.seat.Seat.{Seat}
use Rattle.totals.specs.LookBack.{Game}

-- the player of a seat, if there is one among so many
abbrev pub player_if : Game → Game → ℕ → Seat → List TableRow
player_if game before players seat =
    if nat_lt seat.0 players then OfPlayer (player_row game before players seat) ∷ [] else []

-- the players, by their seats
abbrev pub player_rows : Game → Game → ℕ → List TableRow
player_rows game before players = flat_map (player_if game before players) six_seats

-- the privates, each of which is in the table until the end of the game
abbrev pub private_rows : List Event → List TableRow
private_rows events = map (λ private. OfPrivate (private_row events private)) privates

-- some companies, in this order
abbrev pub company_rows : Game → Game → List Company → List TableRow
company_rows game before order = map (λ company. OfCompany (company_row game before company)) order

-- the kinds of train, the smallest first
abbrev pub train_rows : List Event → List TableRow
train_rows events = map (λ kind. OfTrain (train_row events kind)) kinds
