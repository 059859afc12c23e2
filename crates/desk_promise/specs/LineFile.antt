-- The file in which a line is tried. At the end of the order file it has a sheet of one player for a
-- round, with just these lines, and an empty sheet for the round of each other player. A later sheet
-- replaces an earlier one, so no sheet for the round that was there before counts.
use Rattle.std.specs.Prelude.{◌≡◌, ℕ, ◌<◌, ◌≤◌, ◌==◌, true, false, not, ⊤, if◌then◌else◌, List, [], ◌∷◌, ◌++◌, length}
use Rattle.std.specs.Prelude.{None, Some, codes}
use Rattle.std.specs.List.{flat_map, range_with_len}
use Rattle.foresight.specs.TrialFile.{empty_sheet}
use Rattle.order_grammar.specs.Print.{spelling_of}
use Rattle.order_grammar.specs.Spells.{HasSmallOffer, HasSmallPrice, is_round_of_line}
use Rattle.order_grammar.specs.declared.order.Order.TheVariants.{Play}
use Rattle.order_grammar.specs.declared.order.Order.TheVariants.{Company as CompanyTurn}
use Rattle.order_grammar.specs.declared.play.PlayOrder.{PlayOrder}
use Rattle.order_grammar.specs.declared.play.PlayOrder.TheVariants as play
use Rattle.sheets.specs.File.{IsAccepted, players_of, sheet_of, version_of}
use Rattle.tables.specs.Round.{number_most, same_round}
use Rattle.tables.specs.declared.roster.Company.{Company}
use Rattle.tables.specs.declared.round.Round.{Round}
use Rattle.tables.specs.declared.round.Round.TheVariants.{Opening, Operating}
use Rattle.tables.specs.declared.seat.Seat.{Seat}

-- an empty sheet of a player, unless it is the one who is tried
abbrev pub sheet_if_other : List ℕ → Round → ℕ → ℕ → List ℕ
sheet_if_other file round tried seat = if not (seat == tried) then empty_sheet file round seat else []

-- those of all others, seat by seat
abbrev pub other_sheets : List ℕ → Round → Seat → List ℕ
other_sheets file round tried =
    flat_map (sheet_if_other file round tried.0) (range_with_len 0 (length (players_of file)))

-- the last line of a file has an end
abbrev pub IsEnded : List ℕ → Type 0
IsEnded file = (before : List ℕ) × (file ≡ before ++ 10 ∷ [])

-- a line with its end
abbrev pub ended : List ℕ → List ℕ
ended line = line ++ 10 ∷ []

-- the file in which lines are tried as a player's sheet for a round
abbrev pub line_file : List ℕ → Round → Seat → List (List ℕ) → List ℕ
line_file file round seat lines =
    file ++ (empty_sheet file round seat.0 ++ (flat_map ended lines ++ other_sheets file round seat))

-- what the sheets of that file are: those of the player and of the others for the round, and any for
-- another round as it was
pub record HasSheets (file new : List ℕ) (round : Round) (seat : Seat) (lines : List (List ℕ)) : Type 0 where
  pub players : players_of new ≡ players_of file
  pub version : version_of new ≡ version_of file
  pub own : sheet_of new seat.0 round ≡ Some lines
  pub others : (other : ℕ) → other < length (players_of file) → (other ≡ seat.0 → ⊥) → sheet_of new other round ≡ Some []
  pub no_more : (other : ℕ) (any : Round) → length (players_of file) ≤ other → sheet_of new other any ≡ None
  pub elsewhere : (other : ℕ) (before : Round) → same_round round before ≡ false
      → sheet_of new other before ≡ sheet_of file other before

-- a line of an order of play as it is printed
abbrev pub line_of_order : PlayOrder → List ℕ
line_of_order order = spelling_of (Play order)

-- the lines of a sheet of one turn with one order
abbrev pub turn_of_one : PlayOrder → List (List ℕ)
turn_of_one order = codes "TURN" ∷ line_of_order order ∷ []

-- an opening or a stock round
abbrev pub HasTurns : Round → Type 0
HasTurns (Operating set number) = ⊥
HasTurns other = ⊤

-- an order of an opening or of a stock round, with a number that a line may have
abbrev pub IsOfTurns : PlayOrder → Type 0
IsOfTurns (play.BuyPrivate private) = ⊤
IsOfTurns (play.Bid private amount) = amount ≤ number_most
IsOfTurns (play.Par company price) = price ≤ number_most
IsOfTurns (play.BuyShare company from) = ⊤
IsOfTurns (play.Sell company shares) = shares ≤ number_most
IsOfTurns play.ExchangeMohawk = ⊤
IsOfTurns other = ⊥

-- the file with a turn of one order has that sheet, and empty ones of all others
abbrev pub LineFilesReadSo : Type 0
LineFilesReadSo =
    (file : List ℕ) (round : Round) (seat : Seat) (order : PlayOrder)
    → IsAccepted file → IsEnded file → is_round_of_line round ≡ true → seat.0 < length (players_of file)
    → IsOfTurns order → IsAccepted (line_file file round seat (turn_of_one order))
    → HasSheets file (line_file file round seat (turn_of_one order)) round seat (turn_of_one order)

-- the lines of a sheet of one company with one order
abbrev pub orders_of_one : Company → PlayOrder → List (List ℕ)
orders_of_one company order = spelling_of (CompanyTurn company) ∷ line_of_order order ∷ []

-- an order of a company's turn, with a number that a line may have
abbrev pub IsOfCompanies : PlayOrder → Type 0
IsOfCompanies (play.Lay lay) = ⊤
IsOfCompanies (play.Token place) = ⊤
IsOfCompanies play.RunBest = ⊤
IsOfCompanies play.Pay = ⊤
IsOfCompanies play.Withhold = ⊤
IsOfCompanies (play.BuyTrain kind from) = HasSmallPrice from
IsOfCompanies (play.BuyOwnedPrivate private price) = price ≤ number_most
IsOfCompanies (play.Raise company shares) = shares ≤ number_most
IsOfCompanies other = ⊥

-- the lines of a sheet of one standing line
abbrev pub standing_of_one : PlayOrder → List (List ℕ)
standing_of_one order = line_of_order order ∷ []

-- an order of a standing line, with a number that a line may have
abbrev pub IsStanding : PlayOrder → Type 0
IsStanding (play.Limit private amount) = amount ≤ number_most
IsStanding (play.Discard company kind) = ⊤
IsStanding (play.Offer sale) = HasSmallOffer sale
IsStanding other = ⊥

-- one that has a place in the sheets of a round and is told: LIMIT before an opening, DISCARD and OFFER
-- before an operating round
abbrev pub IsStandingIn : Round → PlayOrder → Type 0
IsStandingIn (Opening number) (play.Limit private amount) = amount ≤ number_most
IsStandingIn (Operating set number) (play.Discard company kind) = ⊤
IsStandingIn (Operating set number) (play.Offer sale) = HasSmallOffer sale
IsStandingIn round other = ⊥

-- the file with one order of a company has that sheet, and empty ones of all others
abbrev pub OrdersFilesReadSo : Type 0
OrdersFilesReadSo =
    (file : List ℕ) (round : Round) (seat : Seat) (company : Company) (order : PlayOrder)
    → IsAccepted file → IsEnded file → is_round_of_line round ≡ true → seat.0 < length (players_of file)
    → IsOfCompanies order → IsAccepted (line_file file round seat (orders_of_one company order))
    → HasSheets file (line_file file round seat (orders_of_one company order)) round seat (orders_of_one company order)
