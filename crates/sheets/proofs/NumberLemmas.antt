-- The round of a sheet is one that its SHEET line names, so its number is small.
use Rattle.std.specs.Prelude.{option_map}
use Rattle.std.proofs.Common.{◌≡◌, ℕ, ◌≤◌, ◌==◌, ◌↔◌, Bool, true, false, cond, List, [], ◌∷◌, Option, Some, None}
use Rattle.std.proofs.Common.{Result, Ok, Err, IsSome, refl, ap, subst, arith, rules}
use Rattle.std.specs.Option.{option_or}
use Rattle.std.proofs.lemmas.Bool.{and_parts}
use Rattle.std.proofs.lemmas.Bool.Decides.{nat_tests}
use Rattle.order_grammar.specs.Line.{reading_of}
use Rattle.order_grammar.specs.Spells.{IsSmallRound, Spells}
use Rattle.order_grammar.specs.declared.fault.Fault.{Fault}
use Rattle.order_grammar.specs.declared.order.Order.{Order}
use Rattle.order_grammar.specs.declared.order.Order.TheVariants as order
use Rattle.sheets.specs.File.{begins, body_of, is_sheet_line, lines_begun, players_of, sheet_key_at, sheet_lines}
use Rattle.sheets.specs.File.{sheet_key_begun, same_sheet_key, seat_from, sheet_in, sheet_of}
use Rattle.sheets.specs.Laws.{SheetsAreNumbered, number_of}
use Rattle.sheets.specs.declared.sheet_key.SheetKey.{SheetKey}
use Rattle.tables.specs.Round.{number_most, same_round}
use Rattle.tables.specs.declared.round.Round.{Round}
use Rattle.tables.specs.declared.round.Round.TheVariants.{Opening, Stock, Operating}
use Rattle.tables.specs.declared.seat.Seat.{Seat}

-- a line is read as an order exactly if it spells that order
abbrev pub ReadWhereSpelt : Type 0
ReadWhereSpelt = (line : List ℕ) (order : Order) → (reading_of line ≡ Ok order) ↔ Spells line order

-- the same round has the same number
same_number : (a b : Round) → same_round a b ≡ true → number_of a ≡ number_of b
same_number (Opening a) (Opening b) same = grind (arith, nat_tests)
same_number (Stock a) (Stock b) same = grind (arith, nat_tests)
same_number (Operating a m) (Operating b n) same =
    let sets : (a == b) ≡ true = (and_parts (a == b) (m == n) same).0 in grind (arith, nat_tests)
same_number (Opening a) (Stock b) same = cc
same_number (Opening a) (Operating b n) same = cc
same_number (Stock a) (Opening b) same = cc
same_number (Stock a) (Operating b n) same = cc
same_number (Operating a m) (Opening b) same = cc
same_number (Operating a m) (Stock b) same = cc

-- a round that a line names has a small number
small_round : (round : Round) → IsSmallRound round → number_of round ≤ number_most
small_round (Opening number) small = small
small_round (Stock number) small = small
small_round (Operating set number) small = small

module _ (spelt : ReadWhereSpelt) (players : List (List ℕ)) where
  -- a sheet is for the round that its line names
  named_small : (line : List ℕ) (name : List ℕ) (round : Round) (seat : Option Seat) (sheet_key : SheetKey)
      → reading_of line ≡ Ok (order.Sheet name round) → option_map (λ its. record { seat = its; round = round }) seat ≡ Some sheet_key
      → number_of sheet_key.round ≤ number_most
  named_small line name round None sheet_key read begun = cc
  named_small line name round (Some seat) sheet_key read begun =
      let same : record { seat = seat; round = round } ≡ sheet_key = cc in
      let small : IsSmallRound round = ((spelt line (order.Sheet name round)).0 read).small in
      subst (λ (r : Round). number_of r ≤ number_most) (ap (λ (one : SheetKey). one.round) same)
      (small_round round small)

  -- so is that of each sheet that a line with this reading begins
  begun_small : (line : List ℕ) (reading : Result Order Fault) (sheet_key : SheetKey) → reading_of line ≡ reading
      → sheet_key_begun players reading ≡ Some sheet_key → number_of sheet_key.round ≤ number_most
  begun_small line (Ok (order.Sheet name round)) sheet_key read begun =
      named_small line name round (seat_from 0 players name) sheet_key read begun
  begun_small line (Ok other) sheet_key read begun = cc
  begun_small line (Err fault) sheet_key read begun = cc

  -- what is chosen is there
  chosen : {X : Type 0} (b : Bool) (found : Option X) (x : X) → cond b found None ≡ Some x → found ≡ Some x
  chosen true found x same = same
  chosen false found x same = cc

  -- and that of each sheet that a line begins
  begins_small : (line : List ℕ) (sheet_key : SheetKey) → begins players line ≡ Some sheet_key
      → number_of sheet_key.round ≤ number_most
  unfolding begins
  begins_small line sheet_key begun = begun_small line (reading_of line) sheet_key refl
      (chosen (is_sheet_line line) _ sheet_key begun)

  -- the same post has a round as small
  found_small : (one sheet_key : SheetKey) (lines : List (List ℕ)) (same : Bool) → same_sheet_key one sheet_key ≡ same
      → number_of one.round ≤ number_most → IsSome (cond same (Some lines) None)
      → number_of sheet_key.round ≤ number_most
  found_small one sheet_key lines true same small there =
      subst (λ (n : ℕ). n ≤ number_most) (same_number one.round sheet_key.round
      (and_parts (one.seat.0 == sheet_key.seat.0) (same_round one.round sheet_key.round) same).1)
      small
  found_small one sheet_key lines false same small there = absurd (search rules)

  -- a sheet that is there was begun later, or by this line
  there_small : (later : Option (List (List ℕ))) (begun : Option SheetKey) (lines : List (List ℕ))
      (sheet_key : SheetKey) → (IsSome later → number_of sheet_key.round ≤ number_most)
      → ((one : SheetKey) → begun ≡ Some one → number_of one.round ≤ number_most)
      → IsSome (option_or later (lines_begun sheet_key lines begun)) → number_of sheet_key.round ≤ number_most
  there_small (Some more) begun lines sheet_key from_later from_begun there = from_later there
  there_small None None lines sheet_key from_later from_begun there = from_later there
  there_small None (Some one) lines sheet_key from_later from_begun there =
      found_small one sheet_key lines (same_sheet_key one sheet_key) refl (from_begun one refl) there

  -- and that of each sheet of these lines
  pub sheet_small : (lines : List (List ℕ)) (sheet_key : SheetKey) → IsSome (sheet_in players lines sheet_key)
      → number_of sheet_key.round ≤ number_most
  sheet_small [] sheet_key there = absurd (search rules)
  sheet_small (line ∷ lines) sheet_key there =
      there_small (sheet_in players lines sheet_key) (begins players line) (sheet_lines lines) sheet_key
      (sheet_small lines sheet_key) (begins_small line) there

-- no sheet is for a round past 99,999
pub sheets_are_numbered_law : ReadWhereSpelt → SheetsAreNumbered
unfolding sheet_of
sheets_are_numbered_law spelt file seat round there =
    sheet_small spelt (players_of file) (body_of file) (sheet_key_at seat round) there
