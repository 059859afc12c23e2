-- What rounds take up of their sheets, seat by seat: the standing lines, and what is said of lines
-- that were not reached.
use Rattle.std.proofs.Common.{◌≡◌, ℕ, suc, ◌+◌, ◌-◌, ◌<◌, List, [], ◌∷◌, ◌++◌, length, map, zero-add, sym, ap, ◌∙◌}
use Rattle.std.proofs.Common.{append_assoc, arith}
use Rattle.std.specs.List.{range_with_len}
use Rattle.std.proofs.lemmas.List.{map-append}
use Rattle.std.proofs.lemmas.List.FromFn.{map-range_with_len_more}
use Rattle.sheets.specs.Part.{Numbered, SheetParts, IsAtHead, written_turns_of, lines_in, lines_in_written_turns}
use Rattle.sheets.specs.Part.{parts_for}
use Rattle.sheets.specs.Taken.{after_all_before, after_each, after_lines_before, written_turns_for, said_of_left}
use Rattle.tables.specs.Seat.{seat_at}
use Rattle.tables.specs.declared.round.Round.{Round}
use Rattle.tables.specs.declared.seat.Seat.{Seat}

-- the seats that are left begin with the next
pub next_seat : (seat total : ℕ) → seat < total → range_with_len seat (total - seat)
    ≡ seat ∷ range_with_len (seat + 1) (total - (seat + 1))
next_seat seat total within =
    let count : total - seat ≡ suc (total - (seat + 1)) = omega arith in
    ap (λ (n : ℕ). range_with_len seat n) count

-- the seats that are left lead, after the next of them, where they lead before it
pub standing_goes_on : {State : Type 0} (step : Seat → State → Numbered → State) (file : List ℕ) (round : Round)
    (seat total : ℕ) (state after : State) (sheet : SheetParts) (taker : Seat) →
    seat < total → after ≡ after_each (step taker) state sheet.before → taker ≡ seat_at seat
    → sheet ≡ parts_for file round taker.0 →
    after_all_before step file round after (range_with_len (seat + 1) (total - (seat + 1)))
    ≡ after_all_before step file round state (range_with_len seat (total - seat))
standing_goes_on {State} step file round seat total state after sheet taker within ruled is_seat is_sheet =
    let here : after ≡ after_lines_before step file round state seat =
    ruled
    ∙ ap (λ (s : SheetParts). after_each (step taker) state s.before) is_sheet
    ∙ ap (λ (s : Seat). after_each (step s) state (parts_for file round s.0).before) is_seat
    in
    ap (λ (all : State). after_all_before step file round all (range_with_len (seat + 1) (total - (seat + 1)))) here
    ∙ ap (λ (seats : List ℕ). after_all_before step file round state seats) (sym (next_seat seat total within))

-- the written turns of the seats so far, and those of one more
pub more_written_turns : (file : List ℕ) (round : Round) (seat : ℕ) (old : List SheetParts) (sheet new : SheetParts) (taker : Seat) →
    map written_turns_of old ≡ written_turns_for seat file round → taker ≡ seat_at seat → sheet ≡ parts_for file round taker.0 →
    new ≡ record { before = []; opened = sheet.opened }
    → map written_turns_of (old ++ new ∷ []) ≡ written_turns_for (seat + 1) file round
more_written_turns file round seat old sheet new taker before is_seat is_sheet left =
    let here : written_turns_of new ≡ written_turns_of (parts_for file round seat) =
    ap written_turns_of left ∙ ap written_turns_of is_sheet ∙ ap (λ (s : Seat). written_turns_of (parts_for file round s.0)) is_seat
    in
    map-append written_turns_of old (new ∷ [])
    ∙ ap (λ (written_turns : List (List (List Numbered))). written_turns ++ written_turns_of new ∷ []) before
    ∙ ap (λ (written_turns : List (List Numbered)). written_turns_for seat file round ++ written_turns ∷ []) here
    ∙ sym (map-range_with_len_more (λ seat. written_turns_of (parts_for file round seat)) 0 seat seat (zero-add seat))

-- what is left of a sheet at a head is its written turns
lines_at_head : (sheet : SheetParts) → IsAtHead sheet → lines_in sheet ≡ lines_in_written_turns (written_turns_of sheet)
lines_at_head sheet is_at_head =
    let none : length sheet.before ≡ 0 = ap (λ (lines : List Numbered). length lines) is_at_head in
    omega arith

-- the seats that are left bring, after the next of them, what they bring before it
pub left_goes_on : {Said : Type 0} (say : Seat → ℕ → List Said → List Said) →
    ((seat : Seat) (count : ℕ) (rest : List Said) → say seat count [] ++ rest ≡ say seat count rest) →
    (old new : List Said) (seat count : ℕ) (sheet : SheetParts) (others : List SheetParts)
    → new ≡ old ++ say (seat_at seat) count [] → count ≡ lines_in sheet →
    IsAtHead sheet → new ++ said_of_left say (seat + 1) (map written_turns_of others)
    ≡ old ++ said_of_left say seat (map written_turns_of (sheet ∷ others))
left_goes_on {Said} say first old new seat count sheet others recorded counted is_at_head =
    let rest : List Said = said_of_left say (seat + 1) (map written_turns_of others) in
    ap (λ (all : List Said). all ++ rest) recorded
    ∙ append_assoc old (say (seat_at seat) count []) rest
    ∙ ap (λ (all : List Said). old ++ all)
    (first (seat_at seat) count rest ∙ ap (λ (n : ℕ). say (seat_at seat) n rest)
    (counted ∙ lines_at_head sheet is_at_head))
