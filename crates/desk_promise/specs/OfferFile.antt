-- The file in which a line is tried with an offer of another player. At the end of the order file it has that player's
-- sheet for the round, with just the OFFER, and the empty sheets of all others. Below them is the sheet with the lines,
-- which replaces an empty one.
use Rattle.std.specs.Prelude.{◌≡◌, ℕ, ◌<◌, ◌≤◌, true, false, List, [], ◌++◌, None, Some, length}
use Rattle.std.specs.List.{flat_map}
use Rattle.desk_promise.specs.LineFile.{IsEnded, IsOfCompanies, ended, orders_of_one, other_sheets, standing_of_one}
use Rattle.foresight.specs.TrialFile.{empty_sheet}
use Rattle.order_grammar.specs.Spells.{HasSmallOffer, is_round_of_line}
use Rattle.order_grammar.specs.declared.order.Offer.{Offer}
use Rattle.order_grammar.specs.declared.play.PlayOrder.{PlayOrder}
use Rattle.order_grammar.specs.declared.play.PlayOrder.TheVariants as play
use Rattle.sheets.specs.File.{IsAccepted, players_of, sheet_of, version_of}
use Rattle.tables.specs.Round.{same_round}
use Rattle.tables.specs.declared.roster.Company.{Company}
use Rattle.tables.specs.declared.round.Round.{Round}
use Rattle.tables.specs.declared.seat.Seat.{Seat}

-- the sheet of a player with these lines, and the empty sheets of all others
abbrev pub sheets_of_all : List ℕ → Round → Seat → List (List ℕ) → List ℕ
sheets_of_all file round seat lines =
    empty_sheet file round seat.0 ++ (flat_map ended lines ++ other_sheets file round seat)

-- the sheet of a player with these lines
abbrev pub sheet_of_one : List ℕ → Round → Seat → List (List ℕ) → List ℕ
sheet_of_one file round seat lines = empty_sheet file round seat.0 ++ flat_map ended lines

-- the file in which lines are tried with those of another player
abbrev pub both_file : List ℕ → Round → Seat → List (List ℕ) → Seat → List (List ℕ) → List ℕ
both_file file round giver given seat lines =
    file ++ (sheets_of_all file round giver given ++ sheet_of_one file round seat lines)

-- what the sheets of that file are
pub record HasBothSheets (file new : List ℕ) (round : Round) (giver : Seat) (given : List (List ℕ)) (seat : Seat)
    (lines : List (List ℕ)) : Type 0 where
  pub players : players_of new ≡ players_of file
  pub version : version_of new ≡ version_of file
  pub own : sheet_of new seat.0 round ≡ Some lines
  pub givers : sheet_of new giver.0 round ≡ Some given
  pub others : (other : ℕ) → other < length (players_of file) → (other ≡ seat.0 → ⊥) → (other ≡ giver.0 → ⊥)
      → sheet_of new other round ≡ Some []
  pub no_more : (other : ℕ) (any : Round) → length (players_of file) ≤ other → sheet_of new other any ≡ None
  pub elsewhere : (other : ℕ) (before : Round) → same_round round before ≡ false
      → sheet_of new other before ≡ sheet_of file other before

-- the lines of a sheet of one offer
abbrev pub offer_of_one : Offer → List (List ℕ)
offer_of_one sale = standing_of_one (play.Offer sale)

-- the file in which an order of a company is tried with an offer
abbrev pub offered_file : List ℕ → Round → Seat → Offer → Seat → Company → PlayOrder → List ℕ
offered_file file round giver sale seat company order =
    both_file file round giver (offer_of_one sale) seat (orders_of_one company order)

-- that file has these two sheets, and empty ones of all others
abbrev pub OfferedFilesReadSo : Type 0
OfferedFilesReadSo =
    (file : List ℕ) (round : Round) (giver : Seat) (sale : Offer) (seat : Seat) (company : Company) (order : PlayOrder)
    → IsAccepted file → IsEnded file → is_round_of_line round ≡ true → giver.0 < length (players_of file)
    → seat.0 < length (players_of file) → (giver.0 ≡ seat.0 → ⊥) → HasSmallOffer sale → IsOfCompanies order
    → IsAccepted (offered_file file round giver sale seat company order)
    → HasBothSheets file (offered_file file round giver sale seat company order) round giver (offer_of_one sale) seat
    (orders_of_one company order)
