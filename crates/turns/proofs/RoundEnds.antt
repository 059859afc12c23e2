-- A round of turns has one outcome: its turns can begin, so they end, and they end once.
use Rattle.std.proofs.Common.{◌≡◌, ℕ, zero, suc, ◌+◌, ◌≤◌, false, List, length, map, refl, sym, ap, ◌∙◌, arith}
use Rattle.std.specs.List.{range_with_len}
use Rattle.events.specs.declared.event.Event.{Event}
use Rattle.totals.specs.LookBack.{Game}
use Rattle.sheets.proofs.GroupLemmas.{few_written_turns}
use Rattle.sheets.specs.Part.{Numbered, written_turns_of, parts_for}
use Rattle.tables.proofs.Turns.{turns_end_once, turns_end_soon}
use Rattle.tables.specs.Turns.{CanBegin, EndSoon, InPlay, written_turns_at}
use Rattle.tables.specs.declared.round.Round.{Round}
use Rattle.turns.proofs.Turns.{no_lines, priority_at_table}
use Rattle.turns.specs.RoundOfTurns.{EndsSoon, IsRoundOfTurns, RoundRules, finished, opened, turns_of}

-- each of some sheets has few written turns
few_at : (file : List ℕ) (round : Round) (first count seat : ℕ) →
    length (written_turns_at (map (λ seat. written_turns_of (parts_for file round seat)) (range_with_len first count)) seat) ≤ 512
few_at file round first zero seat = omega arith
few_at file round first (suc count) zero = few_written_turns file round first
few_at file round first (suc count) (suc seat) = few_at file round (first + 1) count seat

module _ {TurnActions : Type 0} (rules : RoundRules TurnActions) where
  -- the turns of a round can begin
  can_begin : (file : List ℕ) (round : Round) (old : Game)
      → CanBegin (turns_of rules old.seats) (opened rules old.seats file round old.events)
  can_begin file round old =
      record {
        at_table = λ some. priority_at_table old.seats old.events some;
        few_written_turns = λ seat. few_at file round 0 old.seats seat;
      }

  -- a round of turns ends soon, where no seat acts by doing nothing
  pub ends_soon : rules.has_acted rules.nothing ≡ false → (file : List ℕ) (round : Round) (old : Game)
      → EndsSoon rules file round old
  ends_soon idle file round old =
      let end : EndSoon (turns_of rules old.seats) (opened rules old.seats file round old.events) =
      turns_end_soon (turns_of rules old.seats) (opened rules old.seats file round old.events)
      (no_lines rules old.seats idle) (can_begin file round old)
      in
      record {
        new = record { seats = old.seats; events = finished rules old.seats end.last };
        played = record { last = end.last; turns = end.ends; after = refl };
        few_turns = end.few_turns;
      }

  -- it ends in one way
  pub ends_once : (file : List ℕ) (round : Round) (old a b : Game) → IsRoundOfTurns rules file round old a
      → IsRoundOfTurns rules file round old b → a ≡ b
  ends_once file round old a b first second =
      let game : InPlay (List Event) Numbered → Game =
      λ last. record { seats = old.seats; events = finished rules old.seats last } in
      first.after
      ∙ ap game (turns_end_once (turns_of rules old.seats) (opened rules old.seats file round old.events) first.last
      second.last first.turns second.turns)
      ∙ sym second.after
