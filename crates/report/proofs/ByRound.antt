-- The texts of a game's rounds, each looked up by its round, are the text of all rounds. Each part
-- into which the events are cut begins a round. No two begin the same, since the rounds of a game
-- are in order.
use Rattle.std.proofs.Common.{◌≡◌, ℕ, Bool, true, false, List, [], ◌∷◌, ◌++◌, Option, Some, None, is_some, refl, ap}
use Rattle.std.proofs.Common.{sym, subst, ◌∙◌, arith}
use Rattle.std.specs.Prelude.{IsSome, ⊤}
use Rattle.std.specs.List.{flat_map}
use Rattle.events.specs.Event.{round_begun_by}
use Rattle.events.specs.declared.event.Event.{Event}
use Rattle.totals.specs.LookBack.{Game}
use Rattle.report.specs.Laws.{ReportIsItsParts}
use Rattle.report.specs.Report.{end_of_play, ends_round, header, is_round, is_the_round, lines_of_round, round_begun}
use Rattle.report.specs.Report.{rounds_in, text_of_one, texts_of_rounds, unread_lines, with_event_in_round}
use Rattle.rounds.specs.Begun.{AreInOrder, BeginWithRound, IsBeforeEach, RoundsFollowInOrder, rounds_begun, with_round}
use Rattle.sheets.specs.File.{unread_of}
use Rattle.tables.specs.Round.{is_before, same_round}
use Rattle.tables.specs.declared.round.Round.{Round}
use Rattle.tables.specs.declared.round.Round.TheVariants.{Opening, Stock, Operating}
use Rattle.tables.proofs.Tests.{none_by_is_some}

-- the rounds that these begin, in order
abbrev rounds_of : List (List Event) → List Round
rounds_of [] = []
rounds_of (events ∷ rounds) = with_round (round_begun events) (rounds_of rounds)

-- none of these is this round
abbrev NoneIs : Round → List (List Event) → Type 0
NoneIs round [] = ⊤
NoneIs round (events ∷ rounds) = (is_round round events ≡ false) × NoneIs round rounds

-- each of these begins a round, and no two the same
abbrev BeginDifferentRounds : List (List Event) → Type 0
BeginDifferentRounds [] = ⊤
BeginDifferentRounds (events ∷ rounds) =
    (round : Round) × (round_begun events ≡ Some round) × NoneIs round rounds × BeginDifferentRounds rounds

-- each of these begins a round
abbrev EachBegins : List (List Event) → Type 0
EachBegins [] = ⊤
EachBegins (events ∷ rounds) = IsSome (round_begun events) × EachBegins rounds

-- each but the first begins a round
abbrev LaterBegin : List (List Event) → Type 0
LaterBegin [] = ⊤
LaterBegin (events ∷ rounds) = EachBegins rounds

-- the first of these begins what this one begins
abbrev FirstBegins : Option Round → List (List Event) → Type 0
FirstBegins one [] = ⊤
FirstBegins one (events ∷ rounds) = round_begun events ≡ one

-- a round is the same as itself
itself : (round : Round) → same_round round round ≡ true
itself (Opening number) = grind arith
itself (Stock set) = grind arith
itself (Operating set number) = grind arith

-- the other way round it is the same
other_way : (a b : Round) → same_round a b ≡ false → same_round b a ≡ false
other_way (Opening a) (Opening b) apart = grind arith
other_way (Stock a) (Stock b) apart = grind arith
other_way (Operating a m) (Operating b n) apart = grind arith
other_way (Opening a) (Stock b) apart = refl
other_way (Opening a) (Operating b n) apart = refl
other_way (Stock a) (Opening b) apart = refl
other_way (Stock a) (Operating b n) apart = refl
other_way (Operating a m) (Opening b) apart = refl
other_way (Operating a m) (Stock b) apart = refl

module _ (file : List ℕ) (seats : ℕ) where
  -- a round that is not the first is looked up among the later ones
  among_later : (before first : List Event) (rounds : List (List Event)) (round : Round)
      → is_round round first ≡ false → text_of_one file seats round before (first ∷ rounds)
      ≡ text_of_one file seats round (before ++ first) rounds
  among_later before first rounds round elsewhere = rw elsewhere refl

  -- so it is with one round, if there is one, and with more
  one_later : (before first : List Event) (rounds : List (List Event)) (begun : Round) (one : Option Round)
      (more : List Round) → round_begun first ≡ Some begun → is_the_round begun one ≡ false
      → flat_map (λ round. text_of_one file seats round before (first ∷ rounds)) more
      ≡ flat_map (λ round. text_of_one file seats round (before ++ first) rounds) more
      → flat_map (λ round. text_of_one file seats round before (first ∷ rounds)) (with_round one more)
      ≡ flat_map (λ round. text_of_one file seats round (before ++ first) rounds) (with_round one more)
  one_later before first rounds begun None more is apart later = later
  one_later before first rounds begun (Some round) more is apart later =
      let elsewhere : is_round round first ≡ false = rw is (other_way round begun apart) in
      rw (among_later before first rounds round elsewhere, later) refl

  -- so it is with all rounds that are not the first
  all_later : (before first : List Event) (rounds : List (List Event)) (begun : Round) (some : List (List Event))
      → round_begun first ≡ Some begun → NoneIs begun some
      → flat_map (λ round. text_of_one file seats round before (first ∷ rounds)) (rounds_of some)
      ≡ flat_map (λ round. text_of_one file seats round (before ++ first) rounds) (rounds_of some)
  all_later before first rounds begun [] is none = refl
  all_later before first rounds begun (events ∷ some) is none =
      one_later before first rounds begun (round_begun events) (rounds_of some) is none.0
      (all_later before first rounds begun some is none.1)

  -- the first of some rounds is looked up there
  first_text : (before first : List Event) (rounds : List (List Event)) (round : Round) → is_round round first ≡ true
      → text_of_one file seats round before (first ∷ rounds) ≡ lines_of_round file seats before first
  first_text before first rounds round here = rw here refl

  -- the texts of rounds that differ
  texts : (before : List Event) (rounds : List (List Event)) → BeginDifferentRounds rounds
      → flat_map (λ round. text_of_one file seats round before rounds) (rounds_of rounds)
      ≡ texts_of_rounds file seats before rounds
  texts before [] different = refl
  texts before (first ∷ rounds) different =
      let begun : Round = different.0 in
      let is : round_begun first ≡ Some begun = different.1 in
      let here : is_round begun first ≡ true = subst (λ one. is_the_round begun one ≡ true) (sym is) (itself begun) in
      ap (λ one. flat_map (λ round. text_of_one file seats round before (first ∷ rounds))
      (with_round one (rounds_of rounds))) is
      ∙ (ap (λ text. text ++ flat_map (λ round. text_of_one file seats round before (first ∷ rounds))
      (rounds_of rounds)) (first_text before first rounds begun here)
      ∙ ap (λ text. lines_of_round file seats before first ++ text)
      (all_later before first rounds begun rounds is different.2 ∙ texts (before ++ first) rounds different.3))

-- the first of the rounds with an event before them begins what that event begins
first_of_rounds_begins : (event : Event) (ended : Bool) (rounds : List (List Event))
    → FirstBegins (round_begun_by event) (with_event_in_round event ended rounds)
first_of_rounds_begins event true rounds = refl
first_of_rounds_begins event false [] = refl
first_of_rounds_begins event false (round ∷ rounds) = refl

-- the first of the rounds of events begins what they begin
first_begins : (events : List Event) → FirstBegins (round_begun events) (rounds_in events)
first_begins [] = tt
first_begins (event ∷ events) = first_of_rounds_begins event (ends_round events) (rounds_in events)

-- where no later round begins, these begin none
none_begun : (events : List Event) → ends_round events ≡ false → round_begun events ≡ None
none_begun [] goes = refl
none_begun (event ∷ events) goes = none_by_is_some (round_begun_by event) goes

-- an event before rounds begins its round before them
one_begun : (event : Event) (ended : Bool) (rounds : List (List Event)) (first : Option Round)
    → FirstBegins first rounds → (ended ≡ false → first ≡ None)
    → rounds_of (with_event_in_round event ended rounds) ≡ with_round (round_begun_by event) (rounds_of rounds)
one_begun event true rounds first is none = refl
one_begun event false [] first is none = refl
one_begun event false (round ∷ rounds) first is none =
    ap (λ one. with_round (round_begun_by event) (with_round one (rounds_of rounds))) (sym (is ∙ none refl))

-- the rounds that the parts of events begin are those that the events begin
all_begun : (events : List Event) → rounds_of (rounds_in events) ≡ rounds_begun events
all_begun [] = refl
all_begun (event ∷ events) =
    one_begun event (ends_round events) (rounds_in events) (round_begun events) (first_begins events)
    (none_begun events)
    ∙ ap (with_round (round_begun_by event)) (all_begun events)

-- with an event before them, each part but the first begins a round
one_later_begins : (event : Event) (ended : Bool) (rounds : List (List Event)) (first : Option Round)
    → FirstBegins first rounds → is_some first ≡ ended → LaterBegin rounds
    → LaterBegin (with_event_in_round event ended rounds)
one_later_begins event true [] first is some later = tt
one_later_begins event true (round ∷ rounds) first is some later = (subst IsSome (sym is) some, later)
one_later_begins event false [] first is some later = tt
one_later_begins event false (round ∷ rounds) first is some later = later

-- each part of events but the first begins a round
later_begin : (events : List Event) → LaterBegin (rounds_in events)
later_begin [] = tt
later_begin (event ∷ []) = tt
later_begin (event ∷ next ∷ events) =
    one_later_begins event (is_some (round_begun_by next)) (rounds_in (next ∷ events)) (round_begun_by next)
    (first_begins (next ∷ events)) refl (later_begin (next ∷ events))

-- so does the first, if it is said to
all_begin : (first : Option Round) (rounds : List (List Event)) → FirstBegins first rounds → IsSome first
    → LaterBegin rounds → EachBegins rounds
all_begin first [] is some later = tt
all_begin first (round ∷ rounds) is some later = (subst IsSome (sym is) some, later)

-- each part of events that begin with a round begins one
each_begins : (events : List Event) → BeginWithRound events → EachBegins (rounds_in events)
each_begins [] begins = tt
each_begins (event ∷ events) begins =
    all_begin (round_begun_by event) (rounds_in (event ∷ events)) (first_begins (event ∷ events)) begins
    (later_begin (event ∷ events))

-- a round that comes before another is not the same
apart : (a b : Round) → is_before a b ≡ true → same_round b a ≡ false
apart (Opening a) (Opening b) before = grind arith
apart (Stock a) (Stock b) before = grind arith
apart (Operating a m) (Operating b n) before = grind arith
apart (Opening a) (Stock b) before = refl
apart (Opening a) (Operating b n) before = refl
apart (Stock a) (Opening b) before = refl
apart (Stock a) (Operating b n) before = refl
apart (Operating a m) (Opening b) before = refl
apart (Operating a m) (Stock b) before = refl

-- a round that is before one, if there is one, and before others is not that one
not_this : (round : Round) (one : Option Round) (rounds : List Round) → IsBeforeEach round (with_round one rounds)
    → (is_the_round round one ≡ false) × IsBeforeEach round rounds
not_this round None rounds before = (refl, before)
not_this round (Some other) rounds before = (apart round other before.0, before.1)

-- a round that is before each is none of them
none_is : (round : Round) (rounds : List (List Event)) → IsBeforeEach round (rounds_of rounds) → NoneIs round rounds
none_is round [] before = tt
none_is round (events ∷ rounds) before =
    let parts = not_this round (round_begun events) (rounds_of rounds) before in
    (parts.0, none_is round rounds parts.1)

-- a part that begins a round before all others, and others that differ
one_more_differs : (events : List Event) (rounds : List (List Event)) (one : Option Round) → round_begun events ≡ one
    → IsSome one → AreInOrder (with_round one (rounds_of rounds))
    → (AreInOrder (rounds_of rounds) → BeginDifferentRounds rounds) → BeginDifferentRounds (events ∷ rounds)
one_more_differs events rounds None is some order later = absurd cc
one_more_differs events rounds (Some round) is some order later =
    (round, is, none_is round rounds order.0, later order.1)

-- parts that each begin a round, in order, begin different rounds
all_differ : (rounds : List (List Event)) → EachBegins rounds → AreInOrder (rounds_of rounds)
    → BeginDifferentRounds rounds
all_differ [] each order = tt
all_differ (events ∷ rounds) each order =
    one_more_differs events rounds (round_begun events) refl each.0 order (λ later. all_differ rounds each.1 later)

-- the texts of rounds in order are the text of all rounds
texts_in_order : (file : List ℕ) (seats : ℕ) (events : List Event)
    → BeginWithRound events × AreInOrder (rounds_begun events)
    → texts_of_rounds file seats [] (rounds_in events)
    ≡ flat_map (λ round. text_of_one file seats round [] (rounds_in events)) (rounds_begun events)
texts_in_order file seats events written =
    let order : AreInOrder (rounds_of (rounds_in events)) = subst AreInOrder (sym (all_begun events)) written.1 in
    sym (texts file seats [] (rounds_in events) (all_differ (rounds_in events) (each_begins events written.0) order))
    ∙ ap (flat_map (λ round. text_of_one file seats round [] (rounds_in events))) (all_begun events)

-- a report is its parts
pub parts_of_report : RoundsFollowInOrder → ReportIsItsParts
parts_of_report follow played accepted is_game =
    let written : BeginWithRound played.game.events × AreInOrder (rounds_begun played.game.events) =
    subst (λ (game : Game). BeginWithRound game.events × AreInOrder (rounds_begun game.events)) (sym is_game.game)
    (follow played.file is_game.last accepted is_game.plays) in
    ap (λ text. header played.file ++ text ++ unread_lines 0 (unread_of played.file) ++ end_of_play played)
    (texts_in_order played.file played.game.seats played.game.events written)
