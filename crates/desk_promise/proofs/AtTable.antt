-- No sheet is of a seat past those of the players.
use Rattle.std.proofs.Common.{◌≡◌, ℕ, ◌+◌, ◌<◌, ◌≤◌, ◌==◌, Bool, true, false, cond, List, [], ◌∷◌, length, Option, Some, None}
use Rattle.std.proofs.Common.{Result, Ok, Err, refl, ap, ◌∙◌, arith}
use Rattle.std.specs.Option.{option_or}
use Rattle.std.specs.Prelude.{◌&&◌, option_map}
use Rattle.std.proofs.lemmas.Bool.Decides.{nat_tests}
use Rattle.order_grammar.specs.Line.{reading_of}
use Rattle.order_grammar.specs.Words.{same_word}
use Rattle.order_grammar.specs.declared.fault.Fault.{Fault}
use Rattle.order_grammar.specs.declared.order.Order.{Order}
use Rattle.order_grammar.specs.declared.order.Order.TheVariants as order
use Rattle.sheets.specs.File.{begins, is_sheet_line, lines_begun, seat_from, sheet_in, sheet_key_begun}
use Rattle.sheets.specs.File.{sheet_lines}
use Rattle.sheets.specs.declared.sheet_key.SheetKey.{SheetKey}
use Rattle.tables.specs.Round.{same_round}
use Rattle.tables.specs.declared.round.Round.{Round}
use Rattle.tables.specs.declared.seat.Seat.{Seat}

-- a name has a seat among those of the players
seat_within : (seat : ℕ) (players : List (List ℕ)) (name : List ℕ) (found : Seat)
    → seat_from seat players name ≡ Some found → found.0 < seat + length players
seat_within seat [] name found is = absurd (cc)
seat_within seat (player ∷ players) name found is =
    elim (same_word player name) as (λ (same : Bool).
    cond same (Some (record { 0 = seat })) (seat_from (seat + 1) players name) ≡ Some found
    → found.0 < seat + length (player ∷ players)) [
      | true ↦ λ here. let place : seat ≡ found.0 = cc in omega (arith, place)
      | false ↦ λ later. let within = seat_within (seat + 1) players name found later in omega (arith, within)
    ]
    is

of_seat : (players : List (List ℕ)) (name : List ℕ) (round : Round) (seat : Option Seat) (sheet_key : SheetKey)
    → seat_from 0 players name ≡ seat → option_map (λ (its : Seat). record { seat = its; round = round }) seat ≡ Some sheet_key
    → sheet_key.seat.0 < length players
of_seat players name round None sheet_key is begun = absurd (cc)
of_seat players name round (Some seat) sheet_key is begun =
    let within = seat_within 0 players name seat is in
    let same : seat.0 ≡ sheet_key.seat.0 = cc in
    omega (arith, within, same)

of_reading : (players : List (List ℕ)) (reading : Result Order Fault) (sheet_key : SheetKey)
    → sheet_key_begun players reading ≡ Some sheet_key → sheet_key.seat.0 < length players
of_reading players (Ok (order.Sheet name round)) sheet_key begun =
    of_seat players name round (seat_from 0 players name) sheet_key refl begun
of_reading players (Ok other) sheet_key begun = absurd (cc)
of_reading players (Err fault) sheet_key begun = absurd (cc)

chosen : (test : Bool) (found : Option SheetKey) (sheet_key : SheetKey) → cond test found None ≡ Some sheet_key
    → found ≡ Some sheet_key
chosen true found sheet_key is = is
chosen false found sheet_key is = absurd (cc)

begins_within : (players : List (List ℕ)) (line : List ℕ) (sheet_key : SheetKey) → begins players line ≡ Some sheet_key
    → sheet_key.seat.0 < length players
unfolding begins
begins_within players line sheet_key begun =
    of_reading players (reading_of line) sheet_key
    (chosen (is_sheet_line line) (sheet_key_begun players (reading_of line)) sheet_key begun)

-- so a line begins no sheet of another seat
none_of_begun : (seats : ℕ) (lines : List (List ℕ)) (begun : Option SheetKey) (sheet_key : SheetKey)
    → ((one : SheetKey) → begun ≡ Some one → one.seat.0 < seats) → seats ≤ sheet_key.seat.0
    → lines_begun sheet_key lines begun ≡ None
none_of_begun seats lines None sheet_key within past = refl
none_of_begun seats lines (Some one) sheet_key within past =
    let its = within one refl in
    let apart : (one.seat.0 == sheet_key.seat.0) ≡ false = grind (arith, nat_tests, its, past) in
    ap (λ (same : Bool). cond (same && same_round one.round sheet_key.round) (Some lines) None) apart

pub no_sheet : (players lines : List (List ℕ)) (sheet_key : SheetKey) → length players ≤ sheet_key.seat.0
    → sheet_in players lines sheet_key ≡ None
no_sheet players [] sheet_key past = refl
no_sheet players (line ∷ lines) sheet_key past =
    ap (λ (later : Option (List (List ℕ))). option_or later (lines_begun sheet_key (sheet_lines lines) (begins players line)))
    (no_sheet players lines sheet_key past)
    ∙ none_of_begun (length players) (sheet_lines lines) (begins players line) sheet_key (begins_within players line) past
