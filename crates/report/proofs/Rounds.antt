-- The events of a game in their rounds: where the first of them ends, and that one after the other
-- they make up the text.
use Rattle.std.proofs.Common.{◌≡◌, ℕ, ◌+◌, ◌-◌, ◌≤◌, Bool, true, false, List, [], ◌∷◌, ◌++◌, length, take, drop, get_or}
use Rattle.std.proofs.Common.{refl, ap, append_assoc, sym, subst, ◌∙◌, arith}
use Rattle.std.specs.Prelude.{slice_range, if◌then◌else◌}
use Rattle.std.proofs.lemmas.Grind.{common_steps}
use Rattle.std.proofs.lemmas.List.{take_more, drop_more, drop-drop, drop-take, take-append-drop}
use Rattle.events.specs.declared.event.Event.{Event}
use Rattle.report.specs.Report.{ends_round, is_round, lines_of_round, rounds_in, text_of_one, texts_of_rounds}
use Rattle.report.specs.Report.{round_with_statement, text_between, with_event_in_round}
use Rattle.rounds.specs.Play.{Played}
use Rattle.totals.specs.LookBack.{Game}
use Rattle.tables.specs.declared.round.Round as table

-- events before rounds: of the first of them, or a round by themselves where that ends with them
abbrev pub with_events : List Event → Bool → List (List Event) → List (List Event)
with_events events false (round ∷ rounds) = (events ++ round) ∷ rounds
with_events events ended rounds = events ∷ rounds

-- an event between them is the last of those before
between : (prefix : List Event) (event : Event) (ended : Bool) (rounds : List (List Event))
    → with_events prefix false (with_event_in_round event ended rounds) ≡ with_events (prefix ++ event ∷ []) ended
    rounds
between prefix event true rounds = refl
between prefix event false [] = refl
between prefix event false (round ∷ rounds) = ap (λ first. first ∷ rounds)
    (sym (append_assoc prefix (event ∷ []) round))

-- so one that begins no round goes to those before
pub one_event_more : (prefix : List Event) (event : Event) (rest : List Event) → ends_round (event ∷ rest) ≡ false
    → with_events prefix (ends_round (event ∷ rest)) (rounds_in (event ∷ rest))
    ≡ with_events (prefix ++ event ∷ []) (ends_round rest) (rounds_in rest)
one_event_more prefix event rest goes_on = rw goes_on (between prefix event (ends_round rest) (rounds_in rest))

-- an event by itself before them
alone : (event : Event) (ended : Bool) (rounds : List (List Event))
    → with_event_in_round event ended rounds ≡ with_events (event ∷ []) ended rounds
alone event true rounds = refl
alone event false [] = refl
alone event false (round ∷ rounds) = refl

-- the first event is before the others
first_event : (event : Event) (rest : List Event)
    → rounds_in (event ∷ rest) ≡ with_events (event ∷ []) (ends_round rest) (rounds_in rest)
first_event event rest = alone event (ends_round rest) (rounds_in rest)

-- the first of some events is before the others
pub first_of_some : (events : List Event) → 1 ≤ length events
    → rounds_in events ≡ with_events (take 1 events) (ends_round (drop 1 events)) (rounds_in (drop 1 events))
first_of_some [] some = absurd (omega (arith, some))
first_of_some (event ∷ rest) some = first_event event rest

-- one more event is of the first round, where it does not end here and this is what follows
one_more_of : (events rest : List Event) (n : ℕ) → n ≤ length events → drop n events ≡ rest → ends_round rest ≡ false
    → rounds_in events ≡ with_events (take n events) (ends_round rest) (rounds_in rest)
    → (n + 1 ≤ length events) × (rounds_in events ≡ with_events (take (n + 1) events)
    (ends_round (drop (n + 1) events)) (rounds_in (drop (n + 1) events)))
one_more_of events [] n within is goes_on first = absurd cc
one_more_of events (event ∷ rest) n within is goes_on first =
    let below : n + 1 ≤ length events = grind (arith, common_steps) in
    let split : event ∷ rest ≡ get_or events n event ∷ drop (n + 1) events =
    sym is ∙ drop_more events n event (omega arith) in
    let here : get_or events n event ≡ event = cc in
    let later : drop (n + 1) events ≡ rest = cc in
    let prefix : take (n + 1) events ≡ take n events ++ event ∷ [] =
    take_more events n event (omega arith) ∙ ap (λ one. take n events ++ one ∷ []) here in
    (below, rw (prefix, later) (first ∙ one_event_more (take n events) event rest goes_on))

-- one more event is of the first round, where it does not end here
pub one_more : (events : List Event) (n : ℕ) → n ≤ length events → ends_round (drop n events) ≡ false
    → rounds_in events ≡ with_events (take n events) (ends_round (drop n events)) (rounds_in (drop n events))
    → (n + 1 ≤ length events) × (rounds_in events ≡ with_events (take (n + 1) events)
    (ends_round (drop (n + 1) events)) (rounds_in (drop (n + 1) events)))
one_more events n within goes_on first = one_more_of events (drop n events) n within refl goes_on first

-- the events up to a place and those from it on make up the events before the end
pub up_to_the_end : (events : List Event) (begun end : ℕ) → begun ≤ end → end ≤ length events
    → take begun events ++ slice_range events begun end ≡ take end events
up_to_the_end events begun end ordered within =
    let split : end ≡ begun + (end - begun) = omega arith in
    let part : drop begun (take end events) ≡ slice_range events begun end =
    subst (λ e. drop begun (take e events) ≡ slice_range events begun end) (sym split)
    (drop-take begun (end - begun) events) in
    let prefix : take begun (take end events) ≡ take begun events = grind (arith, common_steps) in
    rw (← prefix, ← part) (take-append-drop begun (take end events))

-- the text of a round by the game as it stood after it
pub text_as_it_stood : (played : Played) (file : List ℕ) (view : Game) (begun end : ℕ) (events : List Event)
    → file ≡ played.file → view ≡ record { seats = played.game.seats; events = take end played.game.events }
    → events ≡ slice_range played.game.events begun end → begun ≤ end → end ≤ length played.game.events
    → round_with_statement file view events ≡ text_between played begun end
text_as_it_stood played file view begun end events is_file stood sliced ordered within =
    rw (is_file, stood, sliced, ← up_to_the_end played.game.events begun end ordered within)
    refl

-- the first of the rounds from a place on, by its place in the whole list
pub first_from : (events : List Event) (begun count : ℕ) → begun + count ≤ length events
    → rounds_in (drop begun events) ≡ take count (drop begun events) ∷ rounds_in (drop count (drop begun events))
    → rounds_in (drop begun events) ≡ slice_range events begun (begun + count) ∷ rounds_in (drop (begun + count) events)
first_from events begun count within first =
    let size : begun + count - begun ≡ count = omega arith in
    let part : slice_range events begun (begun + count) ≡ take count (drop begun events) =
    ap (λ n. take n (drop begun events)) size in
    rw (part, ← drop-drop count begun events) first

-- its text is before those of the later ones
pub texts_from : (file : List ℕ) (seats : ℕ) (events : List Event) (begun count : ℕ) → begun + count ≤ length events
    → rounds_in (drop begun events) ≡ take count (drop begun events) ∷ rounds_in (drop count (drop begun events))
    → texts_of_rounds file seats (take begun events) (rounds_in (drop begun events))
    ≡ lines_of_round file seats (take begun events) (slice_range events begun (begun + count))
    ++ texts_of_rounds file seats (take (begun + count) events) (rounds_in (drop (begun + count) events))
texts_from file seats events begun count within first =
    rw (first_from events begun count within first, ← up_to_the_end events begun (begun + count) (omega arith) within)
    refl

-- a round is the first of them, or one of the later ones
pub one_from : (file : List ℕ) (seats : ℕ) (round : table.Round) (events : List Event) (begun count : ℕ)
    → begun + count ≤ length events → rounds_in (drop begun events)
    ≡ take count (drop begun events) ∷ rounds_in (drop count (drop begun events))
    → text_of_one file seats round (take begun events) (rounds_in (drop begun events))
    ≡ (if is_round round (slice_range events begun (begun + count)) then lines_of_round file seats (take begun events)
    (slice_range events begun (begun + count)) else text_of_one file seats round (take (begun + count) events)
    (rounds_in (drop (begun + count) events)))
one_from file seats round events begun count within first =
    rw (first_from events begun count within first, ← up_to_the_end events begun (begun + count) (omega arith) within)
    refl
