-- What leads from each list to the next within a round of turns leads from its ROUND event to its
-- end.
use Rattle.std.proofs.Common.{ℕ, zero, suc, ◌+◌, ◌==◌, Bool, true, false, if◌then◌else◌, List, [], ◌∷◌, ◌++◌, sym}
use Rattle.std.proofs.Common.{subst, append-nil}
use Rattle.std.specs.List.{range_with_len}
use Rattle.std.proofs.lemmas.List.{append_assoc}
use Rattle.events.specs.declared.event.Event.{Event}
use Rattle.events.specs.declared.event.Event.TheVariants as event
use Rattle.totals.specs.LookBack.{Game}
use Rattle.sheets.specs.Part.{Numbered, lines_in_written_turns, parts_for}
use Rattle.sheets.specs.Taken.{after_each, after_lines_before}
use Rattle.tables.specs.Seat.{seat_at}
use Rattle.tables.specs.Steps.{iterate}
use Rattle.tables.specs.Turns.{InPlay, after_turn, written_turns_at, next_written_turn}
use Rattle.tables.specs.declared.round.Round.{Round}
use Rattle.tables.specs.declared.seat.Seat.{Seat}
use Rattle.turns.specs.RoundOfTurns.{InTurn, IsRoundOfTurns, RoundRules, after_written_turn, after_lines}
use Rattle.turns.specs.RoundOfTurns.{after_standing, finished, in_turn, left_from, opened, turns_of}

-- what leads from a list to itself, on over another, and over each step of a round
pub record LeadsOverSteps {TurnActions : Type 0} (rules : RoundRules TurnActions)
    (Leads : List Event → List Event → Type 0) : Type 0 where
  pub stays : (events : List Event) → Leads events events
  pub further : (a b c : List Event) → Leads a b → Leads b c → Leads a c
  pub standing : (seat : Seat) (events : List Event) (line : Numbered) → Leads events (rules.standing seat events line)
  pub line : (seats : ℕ) (seat : Seat) (turn : InTurn TurnActions) (line : Numbered)
      → Leads turn.events (rules.line seats seat turn line).events
  pub passes : (events : List Event) (seat : Seat) → Leads events (events ++ event.Passes seat ∷ [])
  pub closed : (seats : ℕ) (events : List Event) → Leads events (rules.closed seats events)
  pub leaves : (events : List Event) (seat : Seat) (lines : ℕ) → Leads events (events ++ event.Left seat lines ∷ [])

module _ {TurnActions : Type 0} (rules : RoundRules TurnActions) (Leads : List Event → List Event → Type 0)
    (leads : LeadsOverSteps rules Leads) where
  -- over the standing lines of a seat
  over_lines_before : (seat : Seat) (events : List Event) (lines : List Numbered)
      → Leads events (after_each (rules.standing seat) events lines)
  over_lines_before seat events [] = leads.stays events
  over_lines_before seat events (line ∷ lines) =
      leads.further events (rules.standing seat events line)
      (after_each (rules.standing seat) (rules.standing seat events line) lines)
      (leads.standing seat events line) (over_lines_before seat (rules.standing seat events line) lines)

  -- over those of seats
  over_standing : (file : List ℕ) (round : Round) (events : List Event) (seats : List ℕ)
      → Leads events (after_standing rules file round events seats)
  over_standing file round events [] = leads.stays events
  over_standing file round events (seat ∷ seats) =
      let first : List Event = after_lines_before rules.standing file round events seat in
      leads.further events first (after_standing rules file round first seats)
      (over_lines_before (seat_at seat) events (parts_for file round seat).before)
      (over_standing file round first seats)

  -- over the lines of a turn
  over_lines : (seats : ℕ) (seat : Seat) (turn : InTurn TurnActions) (lines : List Numbered)
      → Leads turn.events (after_lines rules seats seat turn lines).events
  over_lines seats seat turn [] = leads.stays turn.events
  over_lines seats seat turn (line ∷ lines) =
      let next : InTurn TurnActions = rules.line seats seat turn line in
      leads.further turn.events next.events (after_lines rules seats seat next lines).events
      (leads.line seats seat turn line) (over_lines seats seat next lines)

  -- over a pass, where the seat did not act
  over_pass : (acted : Bool) (events : List Event) (seat : Seat)
      → Leads events (if acted then events else events ++ event.Passes seat ∷ [])
  over_pass true events seat = leads.stays events
  over_pass false events seat = leads.passes events seat

  -- over a turn
  over_turn : (seats : ℕ) (at : InPlay (List Event) Numbered) → Leads at.now (after_turn (turns_of rules seats) at).now
  over_turn seats at =
      let seat : Seat = seat_at at.seat in
      let turn : InTurn TurnActions = after_written_turn rules seats seat at.now (next_written_turn (written_turns_at at.written_turns at.seat)) in
      leads.further at.now turn.events (after_turn (turns_of rules seats) at).now
      (over_lines seats seat (in_turn at.now rules.nothing) (next_written_turn (written_turns_at at.written_turns at.seat)))
      (over_pass (rules.has_acted turn.actions) turn.events seat)

  -- over some turns
  over_turns : (seats n : ℕ) (start : InPlay (List Event) Numbered)
      → Leads start.now (iterate (after_turn (turns_of rules seats)) n start).now
  over_turns seats zero start = leads.stays start.now
  over_turns seats (suc n) start =
      let at : InPlay (List Event) Numbered = iterate (after_turn (turns_of rules seats)) n start in
      leads.further start.now at.now (after_turn (turns_of rules seats) at).now (over_turns seats n start)
      (over_turn seats at)

  -- over a count of lines that were left, if there are any, and what comes after it
  over_count : (none : Bool) (events : List Event) (seat : Seat) (lines : ℕ) (rest : List Event)
      → ((all : List Event) → Leads all (all ++ rest)) →
      Leads events (events ++ (if none then rest else event.Left seat lines ∷ rest))
  over_count true events seat lines rest others = others events
  over_count false events seat lines rest others =
      let recorded : List Event = events ++ event.Left seat lines ∷ [] in
      subst (λ (new : List Event). Leads events new) (append_assoc events (event.Left seat lines ∷ []) rest)
      (leads.further events recorded (recorded ++ rest) (leads.leaves events seat lines) (others recorded))

  -- over those of seats
  over_left : (seat : ℕ) (written_turns : List (List (List Numbered))) (events : List Event)
      → Leads events (events ++ left_from seat written_turns)
  over_left seat [] events = subst (λ (new : List Event). Leads events new) (sym (append-nil events))
      (leads.stays events)
  over_left seat (written ∷ written_turns) events =
      over_count (lines_in_written_turns written == 0) events (seat_at seat) (lines_in_written_turns written)
      (left_from (seat + 1) written_turns) (λ all. over_left (seat + 1) written_turns all)

  -- over the whole round
  pub round_leads : (file : List ℕ) (round : Round) (old new : Game) → IsRoundOfTurns rules file round old new →
      Leads (old.events ++ event.Round round ∷ []) new.events
  round_leads file round old new played =
      let begun : List Event = old.events ++ event.Round round ∷ [] in
      let start : InPlay (List Event) Numbered = opened rules old.seats file round old.events in
      let shut : List Event = rules.closed old.seats played.last.now in
      let turned : Leads start.now played.last.now =
      subst (λ (last : InPlay (List Event) Numbered). Leads start.now last.now) played.turns.reached
      (over_turns old.seats played.turns.steps start)
      in
      let whole : Leads begun (finished rules old.seats played.last) =
      leads.further begun start.now (finished rules old.seats played.last)
      (over_standing file round begun (range_with_len 0 old.seats))
      (leads.further start.now played.last.now (finished rules old.seats played.last) turned
      (leads.further played.last.now shut (finished rules old.seats played.last)
      (leads.closed old.seats played.last.now) (over_left 0 played.last.written_turns shut)))
      in
      subst (λ (game : Game). Leads begun game.events) (sym played.after) whole
