-- The rules of an opening round at its table: each turn is of a seat at the table, so a line of a
-- seat elsewhere never comes.
use Rattle.std.proofs.Common.{◌≡◌, ℕ, zero, suc, ◌<◌, Bool, false, nat_lt, if◌then◌else◌, List, Some, refl, sym, ap, ◌∙◌}
use Rattle.std.proofs.lemmas.Bool.{lt-ltb}
use Rattle.events.specs.declared.event.Event.{Event}
use Rattle.totals.specs.LookBack.{Game}
use Rattle.privates.specs.Closing.{all_sold, opening_round_closed}
use Rattle.privates.specs.Opening.{IsOpeningRound}
use Rattle.privates.specs.Standing.{after_opening_standing_line}
use Rattle.privates.specs.Turn.{InOpeningTurn, after_opening_line, opening_rules}
use Rattle.sheets.specs.Part.{Numbered}
use Rattle.sheets.specs.Taken.{after_each}
use Rattle.tables.specs.Seat.{seat_at}
use Rattle.tables.specs.Steps.{iterate}
use Rattle.tables.specs.Turns.{InPlay, after_turn, written_turns_at, next_written_turn, turn_over, turns_over}
use Rattle.tables.specs.declared.round.Round.{Round}
use Rattle.tables.specs.declared.seat.Seat.{Seat}
use Rattle.turns.proofs.Turns.{left_within, priority_within}
use Rattle.turns.specs.RoundOfTurns.{IsRoundOfTurns, RoundRules, in_turn, opened, turned, turns_of}

-- the rules of an opening round at a table of this many seats: a line of a seat elsewhere does
-- nothing
abbrev pub rules_at : ℕ → RoundRules Bool
rules_at seats =
    record {
      standing = after_opening_standing_line;
      nothing = false;
      line = λ any seat turn line. if nat_lt seat.0 seats then after_opening_line seats seat turn line else turn;
      has_acted = λ acted. acted;
      over = all_sold;
      closed = λ any events. opening_round_closed seats events;
    }

module _ (seats : ℕ) (some : 0 < seats) (start : InPlay (List Event) Numbered) (first : start.seat < seats) where
  -- each turn is of a seat at the table
  turn_at_table : (n : ℕ) → (iterate (after_turn (turns_of opening_rules seats)) n start).seat < seats
  turn_at_table zero = first
  turn_at_table (suc n) = left_within seats (Some
      (seat_at (iterate (after_turn (turns_of opening_rules seats)) n start).seat)) some

  -- so it is one by the rules at the table
  turn_by_rules : (at : InPlay (List Event) Numbered) → at.seat < seats →
      after_turn (turns_of opening_rules seats) at ≡ after_turn (turns_of (rules_at seats) seats) at
  turn_by_rules at under =
      let seat : Seat = seat_at at.seat in
      let written : List Numbered = next_written_turn (written_turns_at at.written_turns at.seat) in
      ap (λ (b : Bool).
      turn_over (turns_of opening_rules seats) at
      (turned opening_rules (after_each (λ (turn : InOpeningTurn) (line : Numbered). if b then after_opening_line seats seat
      turn line else turn) (in_turn at.now false) written)))
      (sym (lt-ltb at.seat seats under))

  -- and so are all of them
  turns_by_rules : (n : ℕ) → iterate (after_turn (turns_of opening_rules seats)) n start
      ≡ iterate (after_turn (turns_of (rules_at seats) seats)) n start
  turns_by_rules zero = refl
  turns_by_rules (suc n) =
      turn_by_rules (iterate (after_turn (turns_of opening_rules seats)) n start) (turn_at_table n)
      ∙ ap (after_turn (turns_of (rules_at seats) seats)) (turns_by_rules n)

-- an opening round is one by the rules at its table
pub by_rules : (file : List ℕ) (round : Round) (old new : Game) → IsOpeningRound file round old new → 0 < old.seats →
    IsRoundOfTurns (rules_at old.seats) file round old new
by_rules file round old new played some =
    let start : InPlay (List Event) Numbered = opened opening_rules old.seats file round old.events in
    let same = turns_by_rules old.seats some start (priority_within old.seats old.events some) in
    record {
      last = played.last;
      turns =
          record {
            steps = played.turns.steps;
            reached = sym (same played.turns.steps) ∙ played.turns.reached;
            over_then = played.turns.over_then;
            not_before = λ k before.
                ap (λ (at : InPlay (List Event) Numbered). turns_over (turns_of opening_rules old.seats) at)
                (sym (same k)) ∙ played.turns.not_before k before;
          };
      after = played.after;
    }
