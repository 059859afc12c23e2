-- The number of operating rounds that the list of events gives the set is that by which the game is
-- played.
use Rattle.std.proofs.Common.{◌≡◌, ℕ, zero, suc, Bool, true, false, if◌then◌else◌, List, [], ◌∷◌, Option}
use Rattle.std.proofs.Common.{Some, None, is_some, refl, sym, ap, subst, ◌∙◌}
use Rattle.std.proofs.lemmas.Bool.{or_parts}
use Rattle.std.proofs.lemmas.List.Sums.{fold-append}
use Rattle.std.specs.List.{fold, list_any}
use Rattle.std.specs.Option.{option_or}
use Rattle.std.specs.Prelude.{unwrap_or}
use Rattle.desk_base.specs.SetNumber.{IsNumberPlayed, at_round, in_phase, number_in_set, set_of, set_then}
use Rattle.desk_base.specs.Stopped.{StoppedAt}
use Rattle.desk_base.specs.declared.set_number.SetSoFar.{SetSoFar}
use Rattle.events.specs.Event.{phase_set, round_begun_by}
use Rattle.events.specs.declared.event.Event.{Event}
use Rattle.events.specs.declared.event.Event.TheVariants as event
use Rattle.totals.specs.LookBack.{Game, bankrupt_in, last_said}
use Rattle.operating.specs.Laws.{BeginsNoRound}
use Rattle.rounds.specs.Begun.{AddsRound, RoundsOnlyAdd}
use Rattle.rounds.specs.Play.{AreRounds, Between, IsRound, IsTheGame, Played, before_play, end_of, in_set_before}
use Rattle.rounds.specs.declared.following.Next.{Next}
use Rattle.rounds.specs.declared.following.Next.TheVariants as next
use Rattle.rounds.specs.declared.game.End.{End}
use Rattle.rounds.specs.declared.game.End.TheVariants.{Bank, Bankrupt}
use Rattle.tables.specs.Train.{rounds_in_set_of}
use Rattle.tables.specs.declared.rolling_stock.Kind.{Kind}
use Rattle.tables.specs.declared.rolling_stock.Kind.TheVariants.{Two}
use Rattle.tables.specs.declared.round.Round.{Round}
use Rattle.tables.specs.declared.round.Round.TheVariants.{Opening, Stock, Operating}
use Rattle.tables.proofs.Tests.{none_by_is_some}

-- a round that begins leaves the phase
phase_at_round : (set : SetSoFar) (begun : Option Round) → (at_round set begun).phase ≡ set.phase
phase_at_round set None = refl
phase_at_round set (Some (Opening number)) = refl
phase_at_round set (Some (Stock number)) = refl
phase_at_round set (Some (Operating number its)) = refl

-- a phase that begins is the phase
phase_begun : (set : SetSoFar) (phase : Option Kind) → (in_phase set phase).phase ≡ unwrap_or phase set.phase
phase_begun set None = refl
phase_begun set (Some phase) = refl

-- and leaves the number
number_in_phase : (set : SetSoFar) (phase : Option Kind) → (in_phase set phase).rounds ≡ set.rounds
number_in_phase set None = refl
number_in_phase set (Some phase) = refl

-- the first of three choices
choices : (a b : Option Kind) (c : Kind) → unwrap_or (option_or a b) c ≡ unwrap_or a (unwrap_or b c)
choices None b c = refl
choices (Some phase) b c = refl

-- the phase is the last that began
phase_after : (events : List Event) (set : SetSoFar)
    → (fold set_then set events).phase ≡ unwrap_or (last_said phase_set events) set.phase
phase_after [] set = refl
phase_after (event ∷ events) set =
    let begun : SetSoFar = in_phase set (phase_set event) in
    phase_after events (set_then set event)
    ∙ ap (unwrap_or (last_said phase_set events)) (phase_at_round begun (round_begun_by event)
    ∙ phase_begun set (phase_set event))
    ∙ sym (choices (last_said phase_set events) (phase_set event) set.phase)

-- events none of which begins a round leave the number
number_after : (events : List Event) (set : SetSoFar) → BeginsNoRound events
    → (fold set_then set events).rounds ≡ set.rounds
number_after [] set none = refl
number_after (event ∷ events) set none =
    let parts = or_parts (is_some (round_begun_by event)) (list_any (λ its. is_some (round_begun_by its)) events) none in
    number_after events (set_then set event) parts.1
    ∙ ap (λ begun. (at_round (in_phase set (phase_set event)) begun).rounds) (none_by_is_some (round_begun_by event) parts.0)
    ∙ number_in_phase set (phase_set event)

-- a round that was played leaves the number with which it began
number_through : (round : Round) (old new : Game) → AddsRound round old new →
    (set_of new.events).rounds ≡ (at_round (set_of old.events) (Some round)).rounds
number_through round old new adds =
    let begun : SetSoFar = set_of old.events in
    ap (λ (game : Game). (set_of game.events).rounds) adds.added
    ∙ ap (λ (set : SetSoFar). set.rounds) (fold-append set_then (set_of []) old.events (event.Round round ∷ adds.more))
    ∙ number_after adds.more (at_round begun (Some round)) adds.no_round

-- the number by the list is that of the game
abbrev pub KeepsNumber : Between → Type 0
KeepsNumber there = there.in_set ≡ in_set_before there.next there.game.events (set_of there.game.events).rounds

-- so it is as a round begins
number_begun : (round : Round) (events : List Event) (in_set : ℕ)
    → in_set ≡ in_set_before (next.Round round) events (set_of events).rounds →
    in_set ≡ (at_round (set_of events) (Some round)).rounds
number_begun (Opening number) events in_set is = is
number_begun (Stock set) events in_set is =
    is ∙ ap rounds_in_set_of (sym (phase_after events (record { phase = Two; rounds = rounds_in_set_of Two })))
number_begun (Operating set number) events in_set is = is

-- it goes by that number through a round that was played
pub number_in_round : RoundsOnlyAdd → (file : List ℕ) (old new : Between) → KeepsNumber old → IsRound file old new
    → old.in_set ≡ (set_of new.game.events).rounds
number_in_round adds file old new keeps round =
    let at_first : old.in_set ≡ in_set_before (next.Round round.round) old.game.events (set_of old.game.events).rounds =
    keeps ∙ ap (λ (it : Next). in_set_before it old.game.events (set_of old.game.events).rounds) round.comes in
    number_begun round.round old.game.events old.in_set at_first
    ∙ sym (number_through round.round old.game new.game (adds file old new round))

-- after a round that was played
round_keeps : RoundsOnlyAdd → (file : List ℕ) (old new : Between) → KeepsNumber old → IsRound file old new
    → KeepsNumber new
round_keeps adds file old new keeps round =
    round.in_set_then ∙ ap (in_set_before new.next new.game.events) (number_in_round adds file old new keeps round)

-- wherever a game comes
pub keeps_number : RoundsOnlyAdd → (file : List ℕ) (rounds : ℕ) (there : Between)
    → AreRounds file rounds (before_play file) there → KeepsNumber there
keeps_number adds file zero there played = subst KeepsNumber played refl
keeps_number adds file (suc rounds) there played =
    round_keeps adds file played.0 there (keeps_number adds file rounds played.0 played.1) played.2

-- where a game stops, the number goes by what comes next
number_by_end : (bankrupt : Bool) (events : List Event)
    → number_in_set (if bankrupt then Bankrupt else Bank) events ≡ (set_of events).rounds
number_by_end true events = refl
number_by_end false events = refl

pub number_by_next : (upcoming : Next) (events : List Event)
    → number_in_set (end_of upcoming events) events ≡ in_set_before upcoming events (set_of events).rounds
number_by_next (next.Round round) events = refl
number_by_next next.Ended events = number_by_end (bankrupt_in events) events

-- so where a game has stopped, it is the number by which it was played
pub number_there : RoundsOnlyAdd → (played : Played) (last : Between) → StoppedAt played last →
    number_in_set played.end played.game.events ≡ last.in_set
number_there adds played last stopped =
    ap (λ (game : Game). number_in_set played.end game.events) stopped.game
    ∙ ap (λ (end : End). number_in_set end last.game.events) stopped.end
    ∙ number_by_next last.next last.game.events
    ∙ sym (keeps_number adds played.file stopped.plays.rounds last stopped.plays.reached)

pub is_number_played : (played : Played) (count : ℕ) → RoundsOnlyAdd → IsTheGame played →
    count ≡ number_in_set played.end played.game.events → IsNumberPlayed played count
is_number_played played count adds game is =
    let stopped : StoppedAt played game.last = record { plays = game.plays; game = game.game; end = game.end } in
    record { last = game.last; stopped = stopped; number = is ∙ number_there adds played game.last stopped }
