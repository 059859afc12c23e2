-- A round first says its own beginning and begins no other, and it comes before the next: so the
-- rounds of a game follow one another in the order of all rounds.
use Rattle.std.proofs.Common.{rules, ◌≡◌, ℕ, List, [], ◌∷◌, ◌++◌, Bool, true, false, ◌&&◌, ◌||◌}
use Rattle.std.proofs.Common.{Option}
use Rattle.std.proofs.Common.{is_some, is_none, refl, ap, ◌∙◌, ◌<◌, length, sym, subst, arith}
use Rattle.std.specs.List.{list_all}
use Rattle.std.proofs.lemmas.List.{append_assoc, append-nil}
use Rattle.events.specs.Event.{round_begun_by}
use Rattle.events.specs.declared.event.Event.{Event}
use Rattle.events.specs.declared.event.Event.TheVariants as event
use Rattle.totals.specs.LookBack.{Game, broken_in}
use Rattle.operating.specs.Laws.{BeginsNoRound, TurnOnlyAdds}
use Rattle.rounds.proofs.Growing.{◌⨾◌, GrowsBy, by_one_event, stays}
use Rattle.rounds.proofs.RoundSteps.{of_begun}
use Rattle.rounds.specs.Begun.{RoundsOnlyAdd, rounds_begun, with_round, AreInOrder, BeginWithRound}
use Rattle.rounds.specs.Begun.{IsBeforeEach, RoundsFollowInOrder}
use Rattle.rounds.specs.Play.{IsPlayed, AreRounds, Between, IsRound, before_play}
use Rattle.tables.specs.declared.round.Round.{Round}
use Rattle.std.specs.Prelude.{⊤}
use Rattle.std.proofs.lemmas.Bool.{lt-ltb}
use Rattle.privates.specs.Turn.{all_sold}
use Rattle.rounds.proofs.Coming.{follows, through}
use Rattle.rounds.proofs.Forward.{played_forward}
use Rattle.rounds.proofs.InSet.{IsNextInSet, first_is_in_set, round_in_set}
use Rattle.rounds.specs.declared.following.Next.TheVariants as next
use Rattle.sheets.specs.File.{players_of}
use Rattle.sheets.specs.Laws.{SheetsAreNumbered, ThreeToSixPlay}
use Rattle.tables.specs.Round.{rank_of}

-- an event begins no round
abbrev begins_none : Event → Bool
begins_none event = is_none (round_begun_by event)

-- the list goes on, and nothing that is new begins a round
abbrev pub GoesOn : List Event → List Event → Type 0
GoesOn old new = GrowsBy begins_none old new

-- a round before rounds of two lists
pub round_in_front : (round : Option Round) (prefix back : List Round)
    → with_round round (prefix ++ back) ≡ with_round round prefix ++ back
round_in_front round prefix back = grind arith

-- rounds of one list after those of another
pub begun_in_both : (prefix back : List Event) → rounds_begun (prefix ++ back) ≡ rounds_begun prefix
    ++ rounds_begun back
begun_in_both [] back = refl
begun_in_both (event ∷ prefix) back =
    ap (with_round (round_begun_by event)) (begun_in_both prefix back)
    ∙ round_in_front (round_begun_by event) (rounds_begun prefix) (rounds_begun back)

-- to begin none, said in three ways
none_said : (first : Option Round) (all any : Bool) (rounds : List Round) → (is_none first && all) ≡
    true →
    (all ≡ true → (rounds ≡ []) × (any ≡ false)) → (with_round first rounds ≡ []) ×
    ((is_some first || any) ≡ false)
none_said first all any rounds none others = grind arith

pub none_begun : (more : List Event) → list_all begins_none more ≡ true → (rounds_begun more ≡ []) ×
    BeginsNoRound more
none_begun [] none = (refl, refl)
none_begun (event ∷ more) none = none_said (round_begun_by event) _ _ (rounds_begun more) none
    (none_begun more)

begin_none : (first : Option Round) (any all : Bool) → (is_some first || any) ≡ false →
    (any ≡ false → all ≡ true) →
    (is_none first && all) ≡ true
begin_none first any all none others = grind arith

all_begin_none : (more : List Event) → BeginsNoRound more → list_all begins_none more ≡ true
all_begin_none [] none = refl
all_begin_none (event ∷ more) none = begin_none (round_begun_by event) _ _ none (all_begin_none
    more)

-- a round adds its own ROUND event, and begins no other
pub round_goes_on : TurnOnlyAdds → (file : List ℕ) (round : Round) (old new : Game) →
    IsPlayed file round old new → GoesOn (old.events ++ event.Round round ∷ []) new.events
round_goes_on adds file =
    of_begun GoesOn
    (record {
      same = λ events. stays;
      both = λ a b c one two. one ⨾ two;
      aside = λ events event says. by_one_event events event (ap is_none says.round);
    })
    (λ file round company old new turn.
    let only = adds file round company old new turn in
    record {
      more = only.more;
      longer = ap (λ (game : Game). game.events) only.added;
      aside = all_begin_none only.more only.no_round;
    }) file

-- a round leaves the seats as they are
seats_of_round : (file : List ℕ) (round : Round) (old new : Game) → IsPlayed file round old new → new.seats ≡ old.seats
seats_of_round file round old new played = grind arith

-- a round only adds its own events
pub round_adds : TurnOnlyAdds → RoundsOnlyAdd
round_adds adds file old new played =
    let grows = round_goes_on adds file played.round old.game new.game played.played in
    let longer : new.game.events ≡ old.game.events ++ event.Round played.round ∷ grows.more =
    grows.longer ∙ append_assoc old.game.events (event.Round played.round ∷ []) grows.more
    in
    let seats = seats_of_round file played.round old.game new.game played.played in
    record {
      more = grows.more;
      added = λ i. record { seats = seats i; events = longer i };
      no_round = (none_begun grows.more grows.aside).1;
    }

-- each of these rounds has an earlier place than this one
abbrev AreBefore : List Round → Round → Type 0
AreBefore [] round = ⊤
AreBefore (one ∷ rounds) round = (rank_of one < rank_of round) × AreBefore rounds round

-- a round that is before each of these and before one more
one_more_after : (first : Round) (rounds : List Round) (round : Round) → IsBeforeEach first rounds →
    rank_of first < rank_of round → IsBeforeEach first (rounds ++ round ∷ [])
one_more_after first [] round each before = (lt-ltb (rank_of first) (rank_of round) before, tt)
one_more_after first (one ∷ rounds) round each before = search (
  rules,
  one_more_after first rounds
      round,
)

-- rounds in order, and one more after them all
order_goes_on : (rounds : List Round) (round : Round) → AreInOrder rounds → AreBefore rounds round
    → AreInOrder (rounds ++ round ∷ [])
order_goes_on [] round order before = (tt, tt)
order_goes_on (one ∷ rounds) round order before =
    (one_more_after one rounds round order.0 before.0, order_goes_on rounds round order.1 before.1)

-- rounds that are before a round, and that round, are before the next
all_before_next : (rounds : List Round) (round upcoming : Round) → AreBefore rounds round
    → rank_of round < rank_of upcoming → AreBefore (rounds ++ round ∷ []) upcoming
all_before_next [] round upcoming before later = (later, tt)
all_before_next (one ∷ rounds) round upcoming before later =
    let first : rank_of one < rank_of round = before.0 in
    (omega arith, all_before_next rounds round upcoming before.1 later)

-- what begins with a round still does once it has gone on
still_begins : (events : List Event) (round : Round) (more : List Event) → BeginWithRound events
    → BeginWithRound ((events ++ event.Round round ∷ []) ++ more)
still_begins events round more begins = grind arith

-- what a game between rounds says: it begins with a round, and its rounds are in order and before
-- the next, if one comes
record TellsInOrder (there : Between) : Type 0 where
  begins : BeginWithRound there.game.events
  order : AreInOrder (rounds_begun there.game.events)
  before : (upcoming : Round) → there.next ≡ next.Round upcoming → AreBefore (rounds_begun there.game.events) upcoming

-- the rounds of a list that grew by one round
begun_then : (events new : List Event) (round : Round) → GoesOn (events ++ event.Round round ∷ []) new
    → rounds_begun new ≡ rounds_begun events ++ round ∷ []
begun_then events new round grows =
    let recorded : List Event = events ++ event.Round round ∷ [] in
    ap rounds_begun grows.longer
    ∙ begun_in_both recorded grows.more
    ∙ ap (λ (list : List Round). rounds_begun recorded ++ list) (none_begun grows.more
    grows.aside).0
    ∙ append-nil (rounds_begun recorded)
    ∙ begun_in_both events (event.Round round ∷ [])

module _ (adds : TurnOnlyAdds) (numbered : SheetsAreNumbered) (file : List ℕ)
    (some : 0 < length (players_of file)) where
  -- a round that was played is before the next
  forward : (old new : Between) (later : Round) → IsNextInSet old → (round : IsRound file old new)
      → new.next ≡ next.Round later →
      rank_of round.round < rank_of later
  forward old new later within_set round comes =
      played_forward numbered file round.round later old.in_set (all_sold new.game.events) (broken_in new.game.events)
      some
      (within_set round.round round.comes) round.posted (follows file old new later round comes)

  -- so the order goes on
  round_in_order : (old new : Between) → TellsInOrder old → IsNextInSet old → IsRound file old new → TellsInOrder new
  round_in_order old new tells within_set round =
      let it : Round = round.round in
      let grows = round_goes_on adds file it old.game new.game round.played in
      let begun : rounds_begun new.game.events ≡ rounds_begun old.game.events ++ it ∷ [] =
      begun_then old.game.events new.game.events it grows in
      let before : AreBefore (rounds_begun old.game.events) it = tells.before it round.comes in
      record {
        begins = subst BeginWithRound (sym grows.longer) (still_begins old.game.events it grows.more tells.begins);
        order = subst AreInOrder (sym begun) (order_goes_on (rounds_begun old.game.events) it tells.order before);
        before =
            λ later comes.
            subst (λ (rounds : List Round). AreBefore rounds later) (sym begun)
            (all_before_next (rounds_begun old.game.events) it later before
            (forward old new later within_set round comes));
      }

  -- from the beginning
  all_in_order : (rounds : ℕ) (there : Between) → AreRounds file rounds (before_play file) there → TellsInOrder there
  all_in_order rounds there played =
      (through file (λ at. TellsInOrder at × IsNextInSet at)
      (λ old new tells round. (
        round_in_order old new tells.0 tells.1 round,
        round_in_set file old
            new tells.1 round,
      ))
      rounds (before_play file) there played
      (record { begins = tt; order = tt; before = λ upcoming comes. tt }, first_is_in_set file)).0

-- the rounds of a game follow in order
pub follow_in_order : TurnOnlyAdds → SheetsAreNumbered → ThreeToSixPlay → RoundsFollowInOrder
follow_in_order adds numbered players file last accepted plays =
    let three = (players file accepted).0 in
    let tells = all_in_order adds numbered file (omega arith) plays.rounds last plays.reached in
    (tells.begins, tells.order)
