-- The list at the end of a round of turns begins with the list after the one line of a seat's first
-- turn, if play comes to that turn.
use Rattle.std.proofs.Common.{◌≡◌, ℕ, zero, suc, ◌+◌, ◌-◌, ◌<◌, Bool, false, List, [], ◌∷◌, ◌++◌}
use Rattle.std.proofs.Common.{sym, ap, subst, ◌∙◌, zero-add, inl, inr, arith}
use Rattle.std.proofs.lemmas.Bool.{cases_order}
use Rattle.std.proofs.lemmas.List.FromFn.{get_or-map-range_with_len}
use Rattle.std.proofs.lemmas.Option.{unwrap_or-slice_get}
use Rattle.desk_promise.proofs.Longer.{◌⨾◌, GoesOn, by_events, in_either, stays}
use Rattle.events.specs.declared.event.Event.{Event}
use Rattle.events.specs.declared.event.Event.TheVariants as event
use Rattle.sheets.specs.Part.{Numbered, parts_for, written_turns_of}
use Rattle.sheets.specs.Taken.{in_play, written_turns_for}
use Rattle.tables.proofs.Steps.{iterate_plus}
use Rattle.tables.specs.Seat.{seat_at}
use Rattle.tables.specs.Steps.{Ends, LeadsTo, iterate}
use Rattle.tables.specs.Turns.{InPlay, after_turn, next_written_turn, turn_over, turns_over, written_turns_at}
use Rattle.tables.specs.declared.round.Round.{Round}
use Rattle.tables.specs.declared.seat.Seat.{Seat}
use Rattle.totals.specs.LookBack.{Game}
use Rattle.turns.proofs.Turns.{going_on}
use Rattle.turns.specs.Acted.{TurnsSayWhoActed}
use Rattle.turns.specs.RoundOfTurns.{InTurn, IsRoundOfTurns, RoundRules, finished, in_turn, left_from}
use Rattle.turns.specs.RoundOfTurns.{opened, turns_of}

-- what is led to and is not over is on the way to the end
record IsOnTheWay {A : Type 0} (step : A → A) (from last : A) : Type 0 where
  steps : ℕ
  reached : iterate step steps from ≡ last

on_the_way : {A : Type 0} (step : A → A) (over : A → Bool) (a z last : A) → LeadsTo step over a z → over z ≡ false
    → Ends step over a last → IsOnTheWay step (step z) last
on_the_way {A} step over a z last leads going ends =
    elim (cases_order ends.steps leads.steps) [
      | inl same ↦ absurd (cc (leads.reached, ends.reached, ends.over_then, going, same))
      | inr apart ↦ elim apart [
        | inl earlier ↦ absurd (cc (ends.reached, ends.over_then, leads.not_before ends.steps earlier))
        | inr later ↦
            let count : ends.steps ≡ (ends.steps - suc leads.steps) + suc leads.steps = omega (arith, later) in
            record {
              steps = ends.steps - suc leads.steps;
              reached =
                  ap (λ (next : A). iterate step (ends.steps - suc leads.steps) (step next)) (sym leads.reached)
                  ∙ sym (iterate_plus step (ends.steps - suc leads.steps) (suc leads.steps) a)
                  ∙ ap (λ (n : ℕ). iterate step n a) (sym count) ∙ ends.reached;
            }
      ]
    ]

-- the lines that were left are said at the end
pub by_left : (first : ℕ) (written_turns : List (List (List Numbered))) (events : List Event)
    → GoesOn events (events ++ left_from first written_turns)
by_left first written_turns events = by_events events (left_from first written_turns)

module _ {TurnActions : Type 0} (rules : RoundRules TurnActions) (say : TurnsSayWhoActed rules)
    (by_close : (seats : ℕ) (events : List Event) → GoesOn events (rules.closed seats events)) (seats : ℕ) where
  -- a turn adds its events
  by_turn : (at : InPlay (List Event) Numbered) → GoesOn at.now (after_turn (turns_of rules seats) at).now
  by_turn at =
      let turn = (turns_of rules seats).turn (seat_at at.seat) (next_written_turn (written_turns_at at.written_turns at.seat)) at.now in
      let says = say seats (seat_at at.seat) at.now (next_written_turn (written_turns_at at.written_turns at.seat)) in
      let led : GoesOn at.now turn.state = record { more = says.more; longer = says.longer } in
      led ⨾ in_either turn.acted stays (by_events turn.state (event.Passes (seat_at at.seat) ∷ []))

  pub by_turns : (count : ℕ) (at : InPlay (List Event) Numbered)
      → GoesOn at.now (iterate (after_turn (turns_of rules seats)) count at).now
  by_turns zero at = stays
  by_turns (suc count) at = by_turns count at ⨾ by_turn (iterate (after_turn (turns_of rules seats)) count at)

  module _ (file : List ℕ) (round : Round) (seat : Seat) (within : seat.0 < seats) (line : Numbered)
      (one : written_turns_of (parts_for file round seat.0) ≡ (line ∷ []) ∷ []) where
    -- the seat's first turn has the line
    its_turn : next_written_turn (written_turns_at (written_turns_for seats file round) seat.0) ≡ line ∷ []
    its_turn =
        ap next_written_turn (unwrap_or-slice_get (written_turns_for seats file round) seat.0 []
        ∙ get_or-map-range_with_len (λ seat. written_turns_of (parts_for file round seat)) 0 seats seat.0 seat.0 [] within
        (zero-add seat.0)
        ∙ one)

    -- after it the list goes on from that after the line
    by_its_turn : (before : List Event) (passes : ℕ)
        → GoesOn (rules.line seats seat (in_turn before rules.nothing) line).events
        (after_turn (turns_of rules seats) (in_play before seat.0 passes (written_turns_for seats file round))).now
    by_its_turn before passes =
        let at : InPlay (List Event) Numbered = in_play before seat.0 passes (written_turns_for seats file round) in
        subst (λ (lines : List Numbered). GoesOn (rules.line seats seat (in_turn before rules.nothing) line).events
        (turn_over (turns_of rules seats) at ((turns_of rules seats).turn seat lines before)).now) (sym its_turn)
        (let turn : InTurn TurnActions = rules.line seats seat (in_turn before rules.nothing) line in
        in_either (rules.has_acted turn.actions) stays (by_events turn.events (event.Passes seat ∷ [])))

-- so does the round
pub first_turn_stands : {TurnActions : Type 0} (rules : RoundRules TurnActions) → TurnsSayWhoActed rules
    → ((seats : ℕ) (events : List Event) → GoesOn events (rules.closed seats events)) → (file : List ℕ) (round : Round)
    (seat : Seat) (line : Numbered) (old new : Game) (before : List Event) (passes : ℕ) → seat.0 < old.seats
    → written_turns_of (parts_for file round seat.0) ≡ (line ∷ []) ∷ [] → passes < old.seats → rules.over before ≡ false
    → LeadsTo (after_turn (turns_of rules old.seats)) (turns_over (turns_of rules old.seats))
    (opened rules old.seats file round old.events) (in_play before seat.0 passes (written_turns_for old.seats file round))
    → IsRoundOfTurns rules file round old new
    → GoesOn (rules.line old.seats seat (in_turn before rules.nothing) line).events new.events
first_turn_stands rules say by_close file round seat line old new before passes within one few going leads played =
    let seats = old.seats in
    let step : InPlay (List Event) Numbered → InPlay (List Event) Numbered = after_turn (turns_of rules seats) in
    let at : InPlay (List Event) Numbered = in_play before seat.0 passes (written_turns_for seats file round) in
    let way = on_the_way step (turns_over (turns_of rules seats)) (opened rules seats file round old.events) at played.last leads
    (going_on (rules.over before) seats passes going few) played.turns
    in
    let turned : GoesOn (step at).now played.last.now =
    subst (λ (last : InPlay (List Event) Numbered). GoesOn (step at).now last.now) way.reached
    (by_turns rules say by_close seats way.steps (step at))
    in
    let whole : GoesOn (rules.line seats seat (in_turn before rules.nothing) line).events (finished rules seats played.last) =
    by_its_turn rules say by_close seats file round seat within line one before passes ⨾ turned
    ⨾ by_close seats played.last.now ⨾ by_left 0 played.last.written_turns (rules.closed seats played.last.now)
    in
    subst (λ (game : Game). GoesOn (rules.line seats seat (in_turn before rules.nothing) line).events game.events)
    (sym played.after) whole
