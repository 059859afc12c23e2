-- The sequence goes forward in the order of all rounds, and no sheet is past the last of them: so
-- play reaches an end.
use Rattle.std.proofs.Common.{◌≡◌, ℕ, zero, suc, ◌+◌, ◌<◌, ◌≤◌, Bool, true, false}
use Rattle.std.proofs.Common.{is_some, refl, inl, inr, arith, List, length, ap}
use Rattle.std.proofs.Common.{rules}
use Rattle.std.proofs.lemmas.Bool.{and_parts, cases_lt, lt-ltb}
use Rattle.std.specs.List.{list_all, range_with_len}
use Rattle.events.specs.declared.event.Event.{Event}
use Rattle.totals.specs.LookBack.{broken_in}
use Rattle.privates.specs.Turn.{all_sold}
use Rattle.rounds.proofs.Coming.{OfNext, after_operating, follows, of_coming}
use Rattle.rounds.proofs.InSet.{IsInSet, IsNextInSet, in_any_set}
use Rattle.rounds.specs.Gifts.{GiftsWait}
use Rattle.rounds.specs.Play.{Between, IsRound}
use Rattle.rounds.specs.Sequence.{SequenceGoesForward, following, places_left, places_to_come}
use Rattle.rounds.specs.Sequence.{turn_in_set}
use Rattle.rounds.specs.declared.following.Next.{Next}
use Rattle.rounds.specs.declared.following.Next.TheVariants as next
use Rattle.sheets.specs.File.{all_posted, players_of, sheet_of}
use Rattle.sheets.specs.Laws.{SheetsAreNumbered, number_of}
use Rattle.tables.specs.Round.{number_most, operating_most, rank_of, stock_rank}
use Rattle.tables.specs.declared.round.Round.{Round}
use Rattle.tables.specs.declared.round.Round.TheVariants.{Opening, Stock, Operating}

-- where all have posted, each has
pub posted_each : (p : ℕ → Bool) (first n k : ℕ) → list_all p (range_with_len first n) ≡ true → first ≤ k
    → k < first + n → p k ≡ true
posted_each p first zero k all from below = absurd (omega arith)
posted_each p first (suc n) k all from below =
    elim (cases_lt first k) [
      | inl later ↦ posted_each p (first + 1) n k (and_parts (p first) _ all).1 (omega arith) (omega arith)
      | inr here ↦ let same : first ≡ k = omega arith in rw (← same) (and_parts (p first) _ all).0
    ]

-- a round that follows a round has a later place
later_place : (round : Round) (in_set : ℕ) (all_sold broken : Bool) → number_of round ≤ number_most →
    turn_in_set round ≤ operating_most →
    OfNext (λ later. rank_of round < rank_of later) (following round in_set all_sold broken)
later_place (Opening number) in_set true broken small turn = omega arith
later_place (Opening number) in_set false broken small turn = omega arith
later_place (Stock set) in_set all_sold broken small turn = omega arith
later_place (Operating set number) in_set all_sold broken small turn =
    after_operating (λ (later : Round). stock_rank set + number < rank_of later) set number in_set all_sold broken
    (λ more. omega arith) (λ past. omega arith)

-- so has one that comes
later_than : (round later : Round) (in_set : ℕ) (all_sold broken : Bool) → number_of round ≤ number_most →
    turn_in_set round ≤ operating_most → following round in_set all_sold broken ≡ next.Round later →
    rank_of round < rank_of later
later_than round later in_set all_sold broken small turn comes =
    of_coming (λ (later : Round). rank_of round < rank_of later) (following round in_set all_sold broken) later comes
    (later_place round in_set all_sold broken small turn)

-- the law of the sequence
pub goes_forward : SequenceGoesForward
goes_forward round later in_set all_sold broken small turn comes =
    lt-ltb (rank_of round) (rank_of later) (later_than round later in_set all_sold broken small turn comes)

-- each round that a sheet may name has a place left
before_the_last : (round : Round) → number_of round ≤ number_most → turn_in_set round ≤ operating_most
    → rank_of round < stock_rank (number_most + 1)
before_the_last round small turn = grind arith

-- a round that all have posted is numbered within the limit
pub posted_small : SheetsAreNumbered → (file : List ℕ) (round : Round) → 0 < length (players_of file) →
    all_posted file round ≡ true → number_of round ≤ number_most
posted_small numbered file round some posted =
    let first : is_some (sheet_of file 0 round) ≡ true =
    posted_each (λ seat. is_some (sheet_of file seat round)) 0 (length (players_of file)) 0 posted (omega arith)
    (omega arith) in
    numbered file 0 round (search rules)

module _ (numbered : SheetsAreNumbered) (file : List ℕ) (round later : Round) (in_set : ℕ)
    (all_sold broken : Bool) where
  -- what follows a round that is played comes later
  pub played_forward : 0 < length (players_of file) → IsInSet round in_set → all_posted file round ≡ true →
      following round in_set all_sold broken ≡ next.Round later → rank_of round < rank_of later
  played_forward some within_set posted comes =
      later_than round later in_set all_sold broken (posted_small numbered file round some posted)
      (in_any_set round in_set within_set) comes

  -- and leaves fewer places
  pub fewer_places : 0 < length (players_of file) → IsInSet round in_set → all_posted file round ≡ true →
      following round in_set all_sold broken ≡ next.Round later → places_left later < places_left round
  fewer_places some within_set posted comes =
      let small = posted_small numbered file round some posted in
      let within = before_the_last round small (in_any_set round in_set within_set) in
      let forward = played_forward some within_set posted comes in
      omega arith

module _ (numbered : SheetsAreNumbered) (file : List ℕ) (old new : Between) (some : 0 < length (players_of file))
    (round : IsRound file old new) (at : IsInSet round.round old.in_set) where
  -- fewer places are left after a round that was played, whatever comes next
  fewer_than_before : (upcoming : Next) → new.next ≡ upcoming → places_to_come upcoming < places_left round.round
  fewer_than_before (next.Round later) comes =
      fewer_places numbered file round.round later old.in_set (all_sold new.game.events) (broken_in new.game.events)
      some at round.posted
      (follows file old new later round comes)
  fewer_than_before next.Ended over =
      let small = posted_small numbered file round.round some round.posted in
      let within = before_the_last round.round small (in_any_set round.round old.in_set at) in
      omega (arith, within)

-- so each round that is played leaves fewer
pub fewer_to_come : SheetsAreNumbered → (file : List ℕ) (old new : Between) → 0 < length (players_of file)
    → IsNextInSet old →
    IsRound file old new → places_to_come new.next < places_to_come old.next
fewer_to_come numbered file old new some within_set round =
    let is : places_to_come old.next ≡ places_left round.round = ap places_to_come round.comes in
    let fewer = fewer_than_before numbered file old new some round (within_set round.round round.comes) new.next refl in
    omega (arith, is, fewer)

-- what a round needs holds before the next, if it holds after the one that was played
gifts_next : (round : Round) (in_set : ℕ) (all_sold broken : Bool) (events : List Event) →
    GiftsWait round events → OfNext (λ later. GiftsWait later events) (following round in_set all_sold broken)
gifts_next (Opening number) in_set true broken events waits = tt
gifts_next (Opening number) in_set false broken events waits = waits
gifts_next (Stock set) in_set all_sold broken events waits = tt
gifts_next (Operating set number) in_set all_sold broken events waits =
    after_operating (λ (later : Round). GiftsWait later events) set number in_set all_sold broken (λ more. tt)
    (λ past. tt)

-- so it does before one that comes
pub gifts_go_on : (round later : Round) (in_set : ℕ) (all_sold broken : Bool) (events : List Event) →
    GiftsWait round events → following round in_set all_sold broken ≡ next.Round later →
    GiftsWait later events
gifts_go_on round later in_set all_sold broken events waits comes =
    of_coming (λ (later : Round). GiftsWait later events) (following round in_set all_sold broken) later comes
    (gifts_next round in_set all_sold broken events waits)
