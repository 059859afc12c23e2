-- The rows of the tables of a page, each with its figures now and before the last round.
use Rattle.std.specs.Prelude.{ℕ, List}
use Rattle.desk_cells.specs.Stack.{all_in_order}
use Rattle.desk_cells.specs.TableRows.{company_rows, player_rows, private_rows, train_rows}
use Rattle.desk_cells.specs.declared.field.TableRow.{TableRow}
use Rattle.events.specs.declared.event.Event.{Event}
use Rattle.tables.specs.Roster.{companies}
use Rattle.totals.specs.LookBack.{Game}

-- the players, by their seats
unfoldable pub players_shown : Game → Game → ℕ → List TableRow
players_shown game before seats = player_rows game before seats

-- all companies in roster order
unfoldable pub roster_shown : Game → Game → List TableRow
roster_shown game before = company_rows game before companies

-- the companies that operate, in operating order, and then the others
unfoldable pub order_shown : Game → Game → List TableRow
order_shown game before = company_rows game before (all_in_order game.events)

-- all privates
unfoldable pub privates_shown : List Event → List TableRow
privates_shown events = private_rows events

-- all kinds of train, the smallest first
unfoldable pub trains_shown : List Event → List TableRow
trains_shown events = train_rows events
