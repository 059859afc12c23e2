-- Which lines of the sheets for a round are told of: those of each seat's sheet in their order, first the lines before the
-- first head, and then each head with the lines that it opens.
use Rattle.std.specs.Prelude.{◌≡◌, ℕ, Bool, true, false, List, [], ◌∷◌, ◌++◌, length, map, take, Option, Some, None}
use Rattle.std.specs.Prelude.{Result, Ok, Err}
use Rattle.std.specs.List.{flat_map, range_with_len}
use Rattle.desk_why.specs.Why.{lines_kept}
use Rattle.desk_why.specs.declared.sheet_line.LinePlace.{LinePlace}
use Rattle.desk_why.specs.declared.sheet_line.LinePlace.TheVariants as line_place
use Rattle.desk_why.specs.declared.sheet_line.SheetLine.{SheetLine}
use Rattle.order_grammar.specs.Version.{reading_in}
use Rattle.order_grammar.specs.declared.fault.Fault.{Fault}
use Rattle.order_grammar.specs.declared.order.Order.{Order}
use Rattle.order_grammar.specs.declared.order.Order.TheVariants as order
use Rattle.order_grammar.specs.declared.play.PlayOrder.{PlayOrder}
use Rattle.sheets.specs.File.{players_of}
use Rattle.sheets.specs.Part.{Numbered, Part, SheetParts, numbered, parts_for}
use Rattle.tables.specs.Seat.{seat_at}
use Rattle.tables.specs.declared.round.Round.{Round}
use Rattle.tables.specs.declared.seat.Seat.{Seat}

-- a line of a sheet: whose sheet it is, the line by its number and what it reads as there, where it is, and whether it
-- is a head
pub record PlacedLine : Type 0 where
  pub seat : Seat
  pub line : Numbered
  pub place : LinePlace
  pub is_head : Bool

-- a line of a seat's sheet that is here
abbrev pub placed_at : Seat → LinePlace → Bool → Numbered → PlacedLine
placed_at seat place is_head line = record { seat = seat; line = line; place = place; is_head = is_head }

-- a line that is kept, read by the version of its file
abbrev pub placed : SheetLine → PlacedLine
placed line = placed_at line.seat line.place line.is_head (numbered line.number (reading_in line.version line.text.now))

-- where the lines are that a head opens: among the orders for its company, or in a turn
abbrev pub place_behind : Result Order Fault → LinePlace
place_behind (Ok (order.Company company)) = line_place.Orders company
place_behind other = line_place.Turn

-- a head, and the lines that it opens
abbrev pub lines_of_part : Seat → Part → List PlacedLine
lines_of_part seat part =
    placed_at seat (place_behind part.head.reading) true part.head
    ∷ map (placed_at seat (place_behind part.head.reading) false) part.lines

-- the lines that are left of a seat's sheet, of which those before the next head are here
abbrev pub lines_left : Seat → LinePlace → SheetParts → List PlacedLine
lines_left seat place parts = map (placed_at seat place false) parts.before ++ flat_map (lines_of_part seat) parts.opened

-- the next of them is taken, if there is one
abbrev pub TakesNext : Seat → LinePlace → SheetParts → Option SheetLine → SheetParts → Type 0
TakesNext seat place old None new = lines_left seat place old ≡ []
TakesNext seat place old (Some line) new = lines_left seat place old ≡ placed line ∷ lines_left seat line.place new

-- the lines of a seat's sheet for a round, up to the last that is kept
abbrev pub lines_of_seat : List ℕ → Round → Seat → List PlacedLine
lines_of_seat file round seat = take lines_kept (lines_left seat line_place.Standing (parts_for file round seat.0))

-- the lines of all sheets for a round, in the order of the PLAYERS line
abbrev pub lines_of : List ℕ → Round → List PlacedLine
lines_of file round =
    flat_map (λ seat. lines_of_seat file round (seat_at seat)) (range_with_len 0 (length (players_of file)))

-- the order of play that an order is, if it is one
abbrev pub order_of_play : Order → Option PlayOrder
order_of_play (order.Play its) = Some its
order_of_play other = None

-- the order of play that a line reads as, if it is one; or its fault
abbrev pub play_order_of : Result Order Fault → Result (Option PlayOrder) Fault
play_order_of (Ok its) = Ok (order_of_play its)
play_order_of (Err fault) = Err fault
