-- The round that began last: where it is in the list of events, and that its text comes after those
-- of all others.
use Rattle.std.proofs.Common.{◌≡◌, ℕ, ◌+◌, ◌<◌, Bool, true, false, ◌||◌, List, [], ◌∷◌, ◌++◌, length, take}
use Rattle.std.proofs.Common.{drop, get_or, refl, sym, ap, subst, ◌∙◌, append_assoc, take-append-drop}
use Rattle.std.specs.Prelude.{if◌then◌else◌, is_some}
use Rattle.std.specs.List.{flat_map, list_any}
use Rattle.std.proofs.lemmas.Bool.{false≢true}
use Rattle.std.proofs.lemmas.List.{append-nil, drop_more}
use Rattle.events.specs.Event.{round_begun_by}
use Rattle.events.specs.declared.event.Event.{Event}
use Rattle.report.specs.Line.{event_line}
use Rattle.report.specs.Parts.{last_round, last_round_text}
use Rattle.report.specs.Report.{ends_round, lines_of_round, rounds_in, rounds_text, texts_of_rounds}
use Rattle.report.specs.Report.{with_event_in_round}
use Rattle.totals.specs.LookBack.{Game}
use Rattle.report.specs.Statement.{statement}

-- an event begins a round
abbrev begins : Event → Bool
begins event = is_some (round_begun_by event)

-- some event of a list does that has one which does
some_begins : (prefix more : List Event) (event : Event) → begins event ≡ true
    → list_any begins (prefix ++ event ∷ more) ≡ true
some_begins [] more event is = ap (λ (b : Bool). b || list_any begins more) is
some_begins (other ∷ prefix) more event is =
    elim (begins other) as (λ (b : Bool). (b || list_any begins (prefix ++ event ∷ more)) ≡ true) [
      | true ↦ refl
      | false ↦ some_begins prefix more event is
    ]

-- the round that began last begins with the last event that begins one
pub begins_last :
    (prefix more : List Event) (event : Event) → begins event ≡ true → list_any begins more ≡ false →
    last_round (prefix ++ event ∷ more) ≡ event ∷ more
begins_last [] more event is none = ap (λ (b : Bool). if b then last_round more else event ∷ more) none
begins_last (other ∷ prefix) more event is none =
    ap (λ (b : Bool). if b then last_round (prefix ++ event ∷ more) else other ∷ prefix ++ event ∷ more)
    (some_begins prefix more event is)
    ∙ begins_last prefix more event is none

-- where no event begins a round, all are of it
pub begins_nowhere : (events : List Event) → list_any begins events ≡ false → last_round events ≡ events
begins_nowhere [] none = refl
begins_nowhere (event ∷ events) none =
    elim (begins event) as (λ (b : Bool). (b || list_any begins events) ≡ false
    → last_round (event ∷ events) ≡ event ∷ events) [
      | true ↦ λ never. absurd (false≢true (sym never))
      | false ↦ λ others. ap (λ (b : Bool). if b then last_round events else event ∷ events) others
    ]
    none

-- some rounds are written in order, and the last of them after the others
last_written :
    (file : List ℕ) (seats : ℕ) (before all last : List Event) (rounds : List (List Event))
    → all ≡ before ++ flat_map (λ round. round) rounds →
    texts_of_rounds file seats before (rounds ++ last ∷ [])
    ≡ texts_of_rounds file seats before rounds ++ lines_of_round file seats all last
last_written file seats before all last [] is =
    let same : all ≡ before = is ∙ append-nil before in
    append-nil (lines_of_round file seats before last)
    ∙ ap (λ (list : List Event). lines_of_round file seats list last) (sym same)
last_written file seats before all last (round ∷ rounds) is =
    let later : all ≡ (before ++ round) ++ flat_map (λ other. other) rounds =
    is ∙ sym (append_assoc before round (flat_map (λ other. other) rounds)) in
    ap (λ (text : List ℕ). lines_of_round file seats before round ++ text)
    (last_written file seats (before ++ round) all last rounds later)
    ∙ sym (append_assoc (lines_of_round file seats before round) (texts_of_rounds file seats (before ++ round) rounds)
    (lines_of_round file seats all last))

-- an event before rounds is before the events of all
in_front : (event : Event) (ended : Bool) (rounds : List (List Event))
    → flat_map (λ round. round) (with_event_in_round event ended rounds) ≡ event ∷ flat_map (λ round. round) rounds
in_front event true rounds = refl
in_front event false [] = refl
in_front event false (round ∷ rounds) = refl

-- the rounds into which a list is cut make it up
pub all_rounds : (events : List Event) → events ≡ flat_map (λ round. round) (rounds_in events)
all_rounds [] = refl
all_rounds (event ∷ events) =
    ap (λ (list : List Event). event ∷ list) (all_rounds events)
    ∙ sym (in_front event (ends_round events) (rounds_in events))

-- there is a round where there is an event
some_round : (event : Event) (ended : Bool) (rounds : List (List Event))
    → (first : List Event) × (others : List (List Event)) × (with_event_in_round event ended rounds ≡ first ∷ others)
some_round event true rounds = (event ∷ [], rounds, refl)
some_round event false [] = (event ∷ [], [], refl)
some_round event false (round ∷ rounds) = (event ∷ round, rounds, refl)

-- an event before some rounds and a further one
one_more_in_front :
    (event : Event) (ended : Bool) (rounds others : List (List Event)) (first last : List Event)
    → rounds ≡ first ∷ others →
    with_event_in_round event ended (rounds ++ last ∷ []) ≡ with_event_in_round event ended rounds ++ last ∷ []
one_more_in_front event true rounds others first last is = refl
one_more_in_front event false [] others first last is = absurd cc
one_more_in_front event false (round ∷ rounds) others first last is = refl

-- a round where no later event begins one is one
one_round : (event : Event) (more : List Event) → list_any begins more ≡ false
    → rounds_in (event ∷ more) ≡ (event ∷ more) ∷ []
one_round event [] none = refl
one_round event (next ∷ more) none =
    elim (begins next) as (λ (b : Bool). (b || list_any begins more) ≡ false
    → with_event_in_round event b (rounds_in (next ∷ more)) ≡ (event ∷ next ∷ more) ∷ []) [
      | true ↦ λ never. absurd (false≢true (sym never))
      | false ↦ λ others. ap (with_event_in_round event false) (one_round next more others)
    ]
    none

-- a list that a round is added to is cut before it
pub cut_before :
    (old more : List Event) (event : Event) → begins event ≡ true → list_any begins more ≡ false →
    rounds_in (old ++ event ∷ more) ≡ rounds_in old ++ (event ∷ more) ∷ []
cut_before [] more event is none = one_round event more none
cut_before (first ∷ []) more event is none =
    ap (λ (b : Bool). with_event_in_round first b (rounds_in (event ∷ more))) is
    ∙ ap (λ (rounds : List (List Event)). (first ∷ []) ∷ rounds) (one_round event more none)
cut_before (first ∷ next ∷ old) more event is none =
    let some = some_round next (ends_round old) (rounds_in old) in
    ap (with_event_in_round first (begins next)) (cut_before (next ∷ old) more event is none)
    ∙ one_more_in_front first (begins next) (rounds_in (next ∷ old)) some.1 some.0 (event ∷ more) some.2

-- a game of this many seats with this list
abbrev of_table : ℕ → List Event → Game
of_table seats events = record { seats = seats; events = events }

-- the text of a list that a round is added to: that of the list, and then that of the round
texts_grow :
    (file : List ℕ) (seats : ℕ) (old more : List Event) (event : Event) → begins event ≡ true
    → list_any begins more ≡ false →
    rounds_text file (of_table seats (old ++ event ∷ more)) ≡ rounds_text file (of_table seats old)
    ++ lines_of_round file seats old (event ∷ more)
texts_grow file seats old more event is none =
    ap (texts_of_rounds file seats []) (cut_before old more event is none)
    ∙ last_written file seats [] old (event ∷ more) (rounds_in old) (all_rounds old)

-- the text of the round that began last, where there is an event
some_last : (file : List ℕ) (seats : ℕ) (old more : List Event) (event : Event)
    → last_round_text file seats (old ++ event ∷ more) ≡
    flat_map (event_line file) (last_round (old ++ event ∷ more)) ++ statement file (of_table seats (old ++ event ∷ more))
some_last file seats [] more event = refl
some_last file seats (first ∷ old) more event = refl

-- so the text of a game grows by that of the round that began last
pub grows_by_last :
    (file : List ℕ) (seats : ℕ) (old more : List Event) (event : Event) → begins event ≡ true
    → list_any begins more ≡ false →
    rounds_text file (of_table seats (old ++ event ∷ more)) ≡ rounds_text file (of_table seats old)
    ++ last_round_text file seats (old ++ event ∷ more)
grows_by_last file seats old more event is none =
    let last : last_round_text file seats (old ++ event ∷ more) ≡ lines_of_round file seats old (event ∷ more) =
    some_last file seats old more event
    ∙ ap (λ (events : List Event). flat_map (event_line file) events ++ statement file (of_table seats (old ++ event ∷ more)))
    (begins_last old more event is none)
    in
    texts_grow file seats old more event is none ∙ ap (λ (text : List ℕ). rounds_text file (of_table seats old) ++ text) (sym last)

-- the events from a place on are those of the round that began last, if the first of them begins a
-- round and no later one does
pub from_here :
    (events : List Event) (begun : ℕ) (d : Event) → begun < length events → begins (get_or events begun d) ≡ true →
    list_any begins (drop (begun + 1) events) ≡ false → drop begun events ≡ last_round events
from_here events begun d within is none =
    let split : drop begun events ≡ get_or events begun d ∷ drop (begun + 1) events = drop_more events begun d within in
    let whole : events ≡ take begun events ++ get_or events begun d ∷ drop (begun + 1) events =
    sym (take-append-drop begun events) ∙ ap (λ (list : List Event). take begun events ++ list) split
    in
    split ∙ sym (ap last_round whole ∙ begins_last (take begun events) (drop (begun + 1) events)
    (get_or events begun d) is none)

-- where no event from the first on begins a round, all are of it
pub from_first : (events : List Event) (begun : ℕ) → begun ≡ 0 → list_any begins (drop begun events) ≡ false
    → drop begun events ≡ last_round events
from_first events begun is none =
    let all : list_any begins events ≡ false = subst (λ (n : ℕ). list_any begins (drop n events) ≡ false) is none in
    ap (λ (n : ℕ). drop n events) is ∙ sym (begins_nowhere events all)
