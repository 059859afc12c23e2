-- What holds of a round from its ROUND event on. It has to hold between a list and itself, of one
-- after the other, of each event that stands aside and of each company's turn. What is shown of
-- opening rounds by themselves has to hold only of each event that is still. What these and a ROUND
-- event keep, each round of a game keeps.
use Rattle.std.proofs.Common.{rules, ◌≡◌, ℕ, Bool, true, false, ◌&&◌, List, [], ◌∷◌, ◌++◌}
use Rattle.std.proofs.Common.{Option}
use Rattle.std.proofs.Common.{None, is_none, sym, subst, arith}
use Rattle.std.proofs.lemmas.Bool.{and_parts, not-true}
use Rattle.events.specs.Event.{bidding_of, operated_by, ownership_of, phase_set, round_begun_by, tile_laid}
use Rattle.events.specs.Event.{token_placed, train_moved}
use Rattle.events.specs.declared.event.Event.{Event}
use Rattle.events.specs.declared.event.Event.TheVariants as event
use Rattle.totals.specs.LookBack.{Game}
use Rattle.purchases.specs.PrivateLaws.{names_owner}
use Rattle.purchases.specs.SaleLaws.{sells_to_company}
use Rattle.operating.specs.Turn.{IsCompanyTurn}
use Rattle.privates.specs.Opening.{IsOpeningRound}
use Rattle.rounds.proofs.Growing.{Grows, GrowsStill, is_aside, is_still, over_growth}
use Rattle.rounds.proofs.OpeningGrows.{opening_grows}
use Rattle.rounds.proofs.OperatingGrows.{finished_still, opened_still}
use Rattle.rounds.proofs.StockGrows.{stock_round_still}
use Rattle.rounds.specs.OperatingRound.{IsOperatingRound, TakeTurns, operating_round_finished, operating_round_opened}
use Rattle.rounds.specs.Play.{AreRounds, Between, IsPlayed, before_play}
use Rattle.stock_round.specs.StockRound.{IsStockRound}
use Rattle.tables.specs.declared.roster.Company.{Company}
use Rattle.tables.specs.declared.round.Round.{Round}
use Rattle.tables.specs.declared.round.Round.TheVariants.{Opening, Stock, Operating}
use Rattle.rounds.proofs.Coming.{through}

-- what an event that stands aside says
pub record SaysNothing (event : Event) : Type 0 where
  pub round : round_begun_by event ≡ None
  pub tile : tile_laid event ≡ None
  pub token : token_placed event ≡ None
  pub turn : operated_by event ≡ None
  pub phase : phase_set event ≡ None
  pub train : train_moved event ≡ None
  pub sells : sells_to_company event ≡ false

-- what an event that is still says
pub record SaysStill (event : Event) : Type 0 where
  pub aside : SaysNothing event
  pub bids : bidding_of event ≡ None
  pub names : names_owner (ownership_of event) ≡ false

-- there is nothing, and more holds
nothing_and : {X : Type 0} (found : Option X) (more : Bool) → (is_none found && more) ≡ true →
    (found ≡ None) × (more ≡ true)
nothing_and found more both = grind arith

-- an event that stands aside says nothing of these
says_nothing : (event : Event) → is_aside event ≡ true → SaysNothing event
says_nothing event aside = search (rules, nothing_and, not-true)

-- nor does one that is still
pub says_still : (event : Event) → is_still event ≡ true → SaysStill event
says_still event still =
    let parts = and_parts (is_aside event) _ still in
    let bids = nothing_and (bidding_of event) _ parts.1 in
    record {
      aside = says_nothing event parts.0;
      bids = bids.0;
      names = not-true (names_owner (ownership_of event)) bids.1;
    }

-- it holds between a list and itself, of one after the other, and of each event that stands aside
pub record IsPassedOn (R : List Event → List Event → Type 0) : Type 0 where
  pub same : (events : List Event) → R events events
  pub both : (a b c : List Event) → R a b → R b c → R a c
  pub aside : (events : List Event) (event : Event) → SaysNothing event → R events (events ++ event ∷ [])

-- it holds of each company's turn
abbrev pub OfTurns : (List Event → List Event → Type 0) → Type 0
OfTurns R =
    (file : List ℕ) (round : Round) (company : Company) (old new : Game) →
    IsCompanyTurn file round company old new → R old.events new.events

-- it holds where a round begins
abbrev pub OfBeginnings : (List Event → List Event → Type 0) → Type 0
OfBeginnings R = (events : List Event) (round : Round) → R events (events ++ event.Round round ∷ [])

module _ (R : List Event → List Event → Type 0) (on : IsPassedOn R) where
  -- of a list that grows by events that stand aside
  pub of_growing : (old new : List Event) → Grows old new → R old new
  of_growing =
      over_growth is_aside R on.same on.both (λ events event aside. on.aside events event
      (says_nothing event aside))

-- it holds between a list and itself, of one after the other, of each event that is still and of
-- each company's turn
pub record IsPassedStill (R : List Event → List Event → Type 0) : Type 0 where
  pub same : (events : List Event) → R events events
  pub both : (a b c : List Event) → R a b → R b c → R a c
  pub still : (events : List Event) (event : Event) → SaysStill event → R events (events ++ event ∷ [])
  pub turns : OfTurns R

-- it holds of each opening round that has begun
abbrev pub OfOpenings : (List Event → List Event → Type 0) → Type 0
OfOpenings R =
    (file : List ℕ) (round : Round) (old new : Game) →
    IsOpeningRound file round old new → R (old.events ++ event.Round round ∷ []) new.events

module _ (R : List Event → List Event → Type 0) (on : IsPassedStill R) where
  -- of a list that grows by events that are still
  of_growing_still : (old new : List Event) → GrowsStill old new → R old new
  of_growing_still =
      over_growth is_still R on.same on.both (λ events event still. on.still events event
      (says_still event still))

  module _ (file : List ℕ) where
    -- of turns
    of_turns : (round : Round) (companies : List Company) (old new : Game) → TakeTurns file round companies old new →
        R old.events new.events
    of_turns round [] old new taken =
        subst (λ (game : Game). R old.events game.events) taken (on.same old.events)
    of_turns round (company ∷ others) old new taken =
        on.both old.events taken.0.events new.events (on.turns file round company old taken.0 taken.1.turn)
        (of_turns round others taken.0 new taken.2)

    -- of an operating round that has begun
    pub of_operating : (round : Round) (old new : Game) → IsOperatingRound file round old new →
        R (old.events ++ event.Round round ∷ []) new.events
    of_operating round old new played =
        let begun : List Event = old.events ++ event.Round round ∷ [] in
        let start : Game = operating_round_opened file round old in
        let turned : List Event = played.turned.events in
        let end : List Event = operating_round_finished file round old.seats turned in
        subst (λ (game : Game). R begun game.events) (sym played.after)
        (on.both begun start.events end (of_growing_still begun start.events (opened_still file round old))
        (on.both start.events turned end (of_turns round played.turns.companies start played.turned played.turns.turns)
        (of_growing_still turned end (finished_still file round old.seats turned))))

    -- of a stock round that has begun
    pub of_stock : (round : Round) (old new : Game) → IsStockRound file round old new →
        R (old.events ++ event.Round round ∷ []) new.events
    of_stock round old new played =
        of_growing_still (old.events ++ event.Round round ∷ []) new.events (stock_round_still file round old new played)

    -- of each round that has begun, if it holds of opening rounds
    pub of_each_begun : OfOpenings R → (round : Round) (old new : Game) → IsPlayed file round old new →
        R (old.events ++ event.Round round ∷ []) new.events
    of_each_begun openings (Opening number) old new played = openings file (Opening number) old new played
    of_each_begun openings (Stock set) old new played = of_stock (Stock set) old new played
    of_each_begun openings (Operating set number) old new played = of_operating (Operating set number) old new played

    -- of each round, if it holds where one begins too
    pub of_each_round : OfOpenings R → OfBeginnings R → (round : Round) (old new : Game) →
        IsPlayed file round old new → R old.events new.events
    of_each_round openings begins round old new played =
        on.both old.events (old.events ++ event.Round round ∷ []) new.events (begins old.events round)
        (of_each_begun openings round old new played)

module _ (R : List Event → List Event → Type 0) (on : IsPassedOn R) (turns : OfTurns R) (file : List ℕ) where
  -- what holds of each event that stands aside holds of each that is still, and of opening rounds
  still_too : IsPassedStill R
  still_too =
      record {
        same = on.same;
        both = on.both;
        still = λ events event says. on.aside events event says.aside;
        turns = turns;
      }

  openings_too : OfOpenings R
  openings_too file round old new played =
      of_growing R on (old.events ++ event.Round round ∷ []) new.events (opening_grows file round old new played)

  -- so of each round that has begun
  pub of_begun : (round : Round) (old new : Game) → IsPlayed file round old new →
      R (old.events ++ event.Round round ∷ []) new.events
  of_begun = of_each_begun R still_too file openings_too

  -- of each round, if it holds where one begins
  pub of_round : OfBeginnings R → (round : Round) (old new : Game) → IsPlayed file round old new →
      R old.events new.events
  of_round begins = of_each_round R still_too file openings_too begins

-- what holds by a list holds by a longer one
abbrev pub Keeps : (List Event → Type 0) → List Event → List Event → Type 0
Keeps P before after = P before → P after

-- it holds at first, and each of those keeps it
pub record IsKept (P : List Event → Type 0) : Type 0 where
  pub first : P []
  pub aside : (events : List Event) (event : Event) → SaysNothing event → P events → P (events ++ event ∷ [])
  pub begins : OfBeginnings (Keeps P)
  pub turns : OfTurns (Keeps P)

-- so it holds after each round of each game
pub in_each_game : (P : List Event → Type 0) → IsKept P → (file : List ℕ) (rounds : ℕ) (there : Between) →
    AreRounds file rounds (before_play file) there → P there.game.events
in_each_game P kept file rounds there played =
    let on : IsPassedOn (Keeps P) =
    record {
      same = λ events holds. holds;
      both = λ a b c one two holds. two (one holds);
      aside =
          kept.aside;
    } in
    through file (λ at. P at.game.events)
    (λ old new holds round. of_round (Keeps P) on kept.turns file kept.begins round.round old.game
    new.game round.played
    holds) rounds (before_play file) there played kept.first
