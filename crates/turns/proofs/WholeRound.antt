-- A whole round of turns from its parts.
use Rattle.std.proofs.Common.{◌≡◌, ℕ, List, [], ◌∷◌, ◌++◌, length, sym, subst, ap, ◌∙◌}
use Rattle.std.specs.List.{range_with_len}
use Rattle.events.specs.declared.event.Event.{Event}
use Rattle.events.specs.declared.event.Event.TheVariants as event
use Rattle.totals.specs.LookBack.{Game, priority_of, with_event, with_events}
use Rattle.sheets.specs.File.{players_of}
use Rattle.sheets.specs.Part.{Numbered}
use Rattle.tables.specs.Turns.{InPlay, TurnsEnd}
use Rattle.tables.specs.declared.round.Round.{Round}
use Rattle.turns.specs.RoundOfTurns.{IsRoundOfTurns, RoundRules, TurnsLead, after_standing, finished, written_turns_for}
use Rattle.turns.specs.RoundOfTurns.{in_play, left_from, opened, turns_of}

module _ {TurnActions : Type 0} (rules : RoundRules TurnActions) where
  -- the game after the standing lines
  stood : (file : List ℕ) (round : Round) (old recorded ruled : Game) → old.seats ≡ length (players_of file)
      → recorded ≡ with_event old (event.Round round) → ruled ≡ with_events recorded
      (after_standing rules file round recorded.events (range_with_len 0 (length (players_of file))))
      → ruled ≡ with_events old
      (after_standing rules file round (old.events ++ event.Round round ∷ []) (range_with_len 0 old.seats))
  stood file round old recorded ruled players is_recorded is_ruled =
      is_ruled
      ∙ ap (λ (game : Game). with_events game (after_standing rules file round game.events
      (range_with_len 0 (length (players_of file))))) is_recorded
      ∙ ap (λ (seats : ℕ). with_events old
      (after_standing rules file round (old.events ++ event.Round round ∷ []) (range_with_len 0 seats))) (sym players)

  -- the round before its first turn
  begun : (file : List ℕ) (round : Round) (old ruled : Game) (first : ℕ)
      (written_turns : List (List (List Numbered))) → old.seats ≡ length (players_of file) → ruled ≡ with_events old
      (after_standing rules file round (old.events ++ event.Round round ∷ []) (range_with_len 0 old.seats))
      → written_turns ≡ written_turns_for (length (players_of file)) file round
      → first ≡ (priority_of old.seats old.events).0 → in_play ruled.events first 0 written_turns
      ≡ opened rules old.seats file round old.events
  begun file round old ruled first written_turns players is_ruled are_written_turns is_first =
      let start : List Event =
      after_standing rules file round (old.events ++ event.Round round ∷ []) (range_with_len 0 old.seats) in
      ap (λ (game : Game). in_play game.events first 0 written_turns) is_ruled
      ∙ ap (λ (seat : ℕ). in_play start seat 0 written_turns) is_first
      ∙ ap (λ (written_turns : List (List (List Numbered))). in_play start (priority_of old.seats old.events).0 0
      written_turns) (are_written_turns ∙ ap (λ (seats : ℕ). written_turns_for seats file round) (sym players))

  -- the game after the round
  over : (old turned ended new : Game) (left : List (List (List Numbered))) (last : InPlay (List Event) Numbered)
      → turned.seats ≡ old.seats → last.now ≡ turned.events → last.written_turns ≡ left
      → ended ≡ with_events turned (rules.closed turned.seats turned.events)
      → new ≡ with_events ended (ended.events ++ left_from 0 left)
      → new ≡ with_events old (finished rules old.seats last)
  over old turned ended new left last seats events written_turns is_ended is_new =
      let game : ℕ → List Event → Game = λ seats events. record { seats = seats; events = events } in
      is_new
      ∙ ap (λ (game : Game). with_events game (game.events ++ left_from 0 left)) is_ended
      ∙ ap (λ (n : ℕ). game n (rules.closed n turned.events ++ left_from 0 left)) seats
      ∙ ap (λ (events : List Event). with_events old (rules.closed old.seats events ++ left_from 0 left)) (sym events)
      ∙ ap (λ (written_turns : List (List (List Numbered))). with_events old
      (rules.closed old.seats last.now ++ left_from 0 written_turns)) (sym written_turns)

  -- the ROUND event, the standing lines, the turns, the close and what was left are a round
  pub whole_round : (file : List ℕ) (round : Round) (old recorded ruled turned ended new : Game) (first : ℕ)
      (written_turns left : List (List (List Numbered))) →
      old.seats ≡ length (players_of file) → recorded ≡ with_event old (event.Round round)
      → ruled ≡ with_events recorded
      (after_standing rules file round recorded.events (range_with_len 0 (length (players_of file))))
      → written_turns ≡ written_turns_for (length (players_of file)) file round
      → first ≡ (priority_of old.seats old.events).0 → turned.seats ≡ ruled.seats →
      TurnsLead rules ruled.seats (in_play ruled.events first 0 written_turns) turned.events left
      → ended ≡ with_events turned (rules.closed turned.seats turned.events)
      → new ≡ with_events ended (ended.events ++ left_from 0 left) →
      IsRoundOfTurns rules file round old new
  whole_round file round old recorded ruled turned ended new first written_turns left players is_recorded is_ruled
      are_written_turns is_first turned_seats lead is_ended is_new =
      let stands = stood file round old recorded ruled players is_recorded is_ruled in
      let seats : ruled.seats ≡ old.seats = ap (λ (game : Game). game.seats) stands in
      let start = begun file round old ruled first written_turns players stands are_written_turns is_first in
      record {
        last = lead.last;
        turns =
            subst (λ (play : InPlay (List Event) Numbered). TurnsEnd (turns_of rules old.seats) play lead.last) start
            (subst (λ (n : ℕ). TurnsEnd (turns_of rules n) (in_play ruled.events first 0 written_turns) lead.last) seats
            lead.turns);
        after = over old turned ended new left lead.last (turned_seats ∙ seats) lead.events_then lead.then_written_turns
            is_ended is_new;
      }
