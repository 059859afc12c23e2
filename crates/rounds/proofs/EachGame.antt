-- What holds after each round of each game: those who bid sit at the table and bids rise, a private
-- that is closed has no owner, sellers have agreed, and trains and tiles are all there.
use Rattle.std.proofs.Common.{◌≡◌, ℕ, ◌<◌, Bool, true, false, nat_lt, List, [], ◌∷◌, ◌++◌, Option}
use Rattle.std.proofs.Common.{None, refl, sym, ◌∙◌, if◌then◌else◌, ◌||◌, is_none}
use Rattle.std.proofs.Common.{length, ap, subst, arith, ◌≤◌}
use Rattle.std.proofs.lemmas.Bool.{and_parts, ltb-true}
use Rattle.events.specs.Event.{bidding_of}
use Rattle.events.specs.declared.event.Event.{Event}
use Rattle.events.specs.declared.event.Event.TheVariants as event
use Rattle.totals.proofs.EventAtEnd.{bid_of_at_end, bid_of_before}
use Rattle.history.proofs.BidWords.{seated_after_bid, sale_cases}
use Rattle.totals.specs.Bids.{bid_of}
use Rattle.totals.specs.LookBack.{Game, is_closed, is_sold}
use Rattle.history.specs.Sound.{BiddersAreSeated}
use Rattle.privates.proofs.RulesAtTable.{by_rules, rules_at}
use Rattle.privates.specs.Opening.{IsOpeningRound}
use Rattle.privates.specs.Standing.{opening_standing_ruling}
use Rattle.privates.specs.Turn.{InOpeningTurn, after_opening_line}
use Rattle.rounds.proofs.OpeningSteps.{AnyPrivate, OfOpening, of_close, of_line, AnySeat}
use Rattle.rounds.proofs.OpeningSteps.{of_opening}
use Rattle.rounds.proofs.RoundSteps.{says_still, OfOpenings, in_each_game, of_each_round}
use Rattle.rounds.proofs.RoundSteps.{IsPassedStill, of_operating, of_stock, of_round, Keeps}
use Rattle.sheets.specs.Part.{Numbered}
use Rattle.tables.specs.Roster.{same_private}
use Rattle.tables.specs.declared.roster.Private.{Private}
use Rattle.tables.specs.declared.round.Round.{Round}
use Rattle.tables.specs.declared.seat.Seat.{Seat}
use Rattle.turns.proofs.RoundLeads.{round_leads}
use Rattle.operating.specs.PrivateLaws.{ClosedStaysClosed}
use Rattle.purchases.specs.PrivateLaws.{KeepsClosed, OthersKeepClosed, SalesKeepClosed}
use Rattle.purchases.specs.SaleLaws.{OthersKeepAgreed, SellersAgree}
use Rattle.operating.specs.SaleLaws.{TurnsKeepAgreed}
use Rattle.rounds.specs.Play.{IsPlayed, before_play}
use Rattle.rounds.specs.Privates.{ClosedForGood, SellersAgreeInEachGame, BidsRiseInEachGame}
use Rattle.rounds.proofs.Coming.{through}
use Rattle.std.proofs.lemmas.List.Folds.{list_any-append}
use Rattle.std.specs.List.{list_any}
use Rattle.events.specs.declared.event.Bidding.{Bidding}
use Rattle.operating.specs.BidLaws.{TurnsSayNoBid}
use Rattle.privates.specs.BidsRise.{BidsRise, OpeningBidsRise, is_near_earlier}
use Rattle.rounds.proofs.Growing.{over_growth}
use Rattle.sheets.specs.File.{players_of}
use Rattle.sheets.specs.Laws.{ThreeToSixPlay}
use Rattle.tables.specs.declared.round.Round.TheVariants.{Opening, Stock, Operating}
use Rattle.totals.specs.Trains.{phase_of}
use Rattle.purchases.proofs.Complete.{phase_kept}
use Rattle.purchases.specs.TrainLaws.{AllTrainsAreThere, AllTrainsAreThereAtFirst}
use Rattle.purchases.specs.TrainLaws.{OthersKeepStanding}
use Rattle.operating.specs.TrainLaws.{PhasesGoOnInTurns, TurnsKeepAll}
use Rattle.rounds.specs.Trains.{PhasesGoOnInRounds, AllTrainsAreThereInEachGame}
use Rattle.tables.specs.Train.{index_of_kind}
use Rattle.tables.proofs.Tests.{none_by_is_none}
use Rattle.operating.specs.TileLaws.{OthersKeepTiles, TilesAreAll, TilesAreAllAtFirst}
use Rattle.operating.specs.TileLaws.{TurnsKeepTiles}
use Rattle.rounds.specs.Tiles.{AllTilesAreThereInEachGame}

-- if those who bid sit at the table by the one list, they do by the other
abbrev pub StillSeated : ℕ → List Event → List Event → Type 0
StillSeated seats before after = BiddersAreSeated seats before → BiddersAreSeated seats after

-- an event that says nothing of bids keeps it so
pub others_seated : (seats : ℕ) (events : List Event) (its : Event) → bidding_of its ≡ None →
    StillSeated seats events (events ++ its ∷ [])
others_seated seats events its none seated private seat amount is_bid =
    seated private seat amount (sym (bid_of_before events its private seat none) ∙ is_bid)

-- so does a sale
sale_seated : (seats : ℕ) (events : List Event) (sold : Private) (buyer : Seat) (price : ℕ) →
    StillSeated seats events (events ++ event.Sold sold buyer price ∷ [])
sale_seated seats events sold buyer price seated private seat amount is_bid =
    seated private seat amount
    (sale_cases (same_private sold private) (bid_of events private seat) amount
    (sym (bid_of_at_end events (event.Sold sold buyer price) private seat) ∙ is_bid))

-- the seats of a table
abbrev AtTable : ℕ → Seat → Type 0
AtTable seats seat = seat.0 < seats

-- the parts of an opening round keep it so
opening_parts : (seats : ℕ) → OfOpening (AtTable seats) AnyPrivate (StillSeated seats)
opening_parts seats =
    record {
      same = λ events seated. seated;
      both = λ a b c one two seated. two (one seated);
      quiet = λ events its quiet. others_seated seats events its (says_still its (and_parts _ _
          quiet).0).bids;
      unsold = λ events private unsold. tt;
      sold = λ events private buyer price sells. sale_seated seats events private buyer price;
      bids = λ events private seat amount under. seated_after_bid seats events private seat amount under;
    }

-- by a line where the test of its seat passes
tested_line : (seats : ℕ) (seat : Seat) (turn : InOpeningTurn) (line : Numbered) (b : Bool) → (b ≡ true → seat.0 < seats) →
    StillSeated seats turn.events (if b then after_opening_line seats seat turn line else turn).events
tested_line seats seat turn line true under =
    of_line (AtTable seats) AnyPrivate (StillSeated seats) (opening_parts seats)
    (λ events seat number ruling. others_seated seats events (event.Ruled seat number ruling) refl)
    seats seat turn line (under refl)
tested_line seats seat turn line false under = λ seated. seated

-- an opening round keeps it so
pub opening_seated : (file : List ℕ) (round : Round) (old new : Game) → IsOpeningRound file round old new →
    0 < old.seats → StillSeated old.seats old.events new.events
opening_seated file round old new played some seated =
    let seats : ℕ = old.seats in
    round_leads (rules_at seats) (StillSeated seats)
    (record {
      stays = λ events seated. seated;
      further = λ a b c one two seated. two (one seated);
      standing = λ seat events line. others_seated seats events
          (event.Ruled seat line.number (opening_standing_ruling events line)) refl;
      line = λ any seat turn line. tested_line seats seat turn line (nat_lt seat.0 seats)
          (λ under. ltb-true seat.0 seats under);
      passes = λ events seat. others_seated seats events (event.Passes seat) refl;
      closed = λ any events. of_close (AtTable seats) AnyPrivate (StillSeated seats) (opening_parts
          seats) seats events;
      leaves = λ events seat lines. others_seated seats events (event.Left seat lines) refl;
    })
    file round old new (by_rules file round old new played some)
    (others_seated seats old.events (event.Round round) refl seated)

module _ (others : OthersKeepClosed) (sales : SalesKeepClosed) where
  -- what is unsold may be sold
  abbrev Unsold : List Event → Private → Type 0
  Unsold events private = is_sold events private ≡ false

  -- the parts of an opening round keep privates closed
  keeps_closed : OfOpening AnySeat Unsold KeepsClosed
  keeps_closed =
      record {
        same = λ events private closed. closed;
        both = λ a b c one two private closed. two private (one private closed);
        quiet = λ events its quiet. others events its (says_still its (and_parts _ _
            quiet).0).names;
        unsold = λ events private unsold. unsold;
        sold = sales;
        bids = λ events private seat amount sits. others events (event.Bids private seat amount) refl;
      }

  -- so does an opening round
  of_openings : OfOpenings KeepsClosed
  of_openings =
      of_opening AnySeat Unsold KeepsClosed keeps_closed
      (λ events seat number ruling. others events (event.Ruled seat number ruling) refl)
      (λ seat. tt)

  -- and each round
  of_rounds : ClosedStaysClosed → (file : List ℕ) (round : Round) (old new : Game) → IsPlayed file round old new →
      KeepsClosed old.events new.events
  of_rounds turns file round old new played =
      of_each_round KeepsClosed
      (record {
        same = keeps_closed.same;
        both = keeps_closed.both;
        still = λ events its says. others events its says.names;
        turns = turns;
      })
      file of_openings (λ events round. others events (event.Round round) refl) round old new played

-- so a private is closed for good
pub closed_for_good : OthersKeepClosed → SalesKeepClosed → ClosedStaysClosed → ClosedForGood
closed_for_good others sales turns file rounds old new private played closed =
    through file (λ at. is_closed at.game.events private ≡ true)
    (λ from to before round. of_rounds others sales turns file round.round from.game to.game
    round.played private
    before) rounds old new played closed

-- sellers agree in each game
pub sellers_agree : OthersKeepAgreed → TurnsKeepAgreed → SellersAgreeInEachGame
sellers_agree others turns =
    in_each_game SellersAgree
    (record {
      first = tt;
      aside = λ events event says. others events event says.sells;
      begins = λ events round. others events (event.Round round) refl;
      turns = turns;
    })

-- an event says nothing of bids
abbrev no_bid : Event → Bool
no_bid its = is_none (bidding_of its)

-- so bids still rise with it
still_rise : (events : List Event) (its : Event) → bidding_of its ≡ None → BidsRise events →
    BidsRise (events ++ its ∷ [])
still_rise [] its none rise = (refl, tt)
still_rise (first ∷ events) its none rise = (
  list_any-append (λ its. is_near_earlier (bidding_of first) (bidding_of its)) events (its ∷ [])
      ∙ ap (λ (b : Bool). b || list_any (λ its. is_near_earlier (bidding_of first) (bidding_of its))
      (its ∷ [])) rise.0
      ∙ ap (λ (word : Option Bidding). is_near_earlier (bidding_of first) word || false) none,
  still_rise events its none rise.1,
)

-- bids rise, and those that stand are of seats at the table
record RiseAt (seats : ℕ) (events : List Event) : Type 0 where
  rise : BidsRise events
  seated : BiddersAreSeated seats events

-- so it is after an event that says nothing of bids
still_so : (seats : ℕ) (events : List Event) (its : Event) → bidding_of its ≡ None → RiseAt seats
    events →
    RiseAt seats (events ++ its ∷ [])
still_so seats events its none before =
    record {
      rise = still_rise events its none before.rise;
      seated = others_seated seats events its
          none before.seated;
    }

-- stock rounds and operating rounds grow by those
rises_on : TurnsSayNoBid → (seats : ℕ) → IsPassedStill (Keeps (RiseAt seats))
rises_on turns seats =
    record {
      same = λ events before. before;
      both = λ a b c one two before. two (one before);
      still = λ events its says. still_so seats events its says.bids;
      turns = λ file round company old new turn.
          let says = turns file round company old new turn in
          over_growth no_bid (Keeps (RiseAt seats)) (λ events before. before)
          (λ a b c one two before. two (one before))
          (λ events its none. still_so seats events its (none_by_is_none (bidding_of its) none))
          old.events new.events
          (record {
            more = says.more;
            longer = ap (λ (game : Game). game.events) says.added;
            aside =
                says.no_bid;
          });
    }

-- bids that rise before a round rise after it, and the table stays
record RiseIn (seats : ℕ) (game : Game) : Type 0 where
  rises : RiseAt seats game.events
  table : game.seats ≡ seats

module _ (opening : OpeningBidsRise) (turns : TurnsSayNoBid) (file : List ℕ) (seats : ℕ) (some : 0 < seats) where
  -- over an opening round
  over_opening : (number : ℕ) (old new : Game) → IsPlayed file (Opening number) old new → RiseIn seats old →
      RiseIn seats new
  over_opening number old new played before =
      let here : RiseAt old.seats old.events = subst (λ (n : ℕ). RiseAt n old.events) (sym before.table) before.rises in
      let any : 0 < old.seats = omega (arith, before.table, some) in
      record {
        rises =
            record {
              rise = opening file (Opening number) old new played any here.seated here.rise;
              seated = subst (λ (n : ℕ). BiddersAreSeated n new.events) before.table
                  (opening_seated file (Opening number) old new played any here.seated);
            };
        table = ap (λ (game : Game). game.seats) played.after ∙ before.table;
      }

  -- over each round
  over_round : (round : Round) (old new : Game) → IsPlayed file round old new → RiseIn seats old → RiseIn seats new
  over_round (Opening number) old new played before = over_opening number old new played before
  over_round (Stock set) old new played before =
      record {
        rises = of_stock (Keeps (RiseAt seats)) (rises_on turns seats) file (Stock set) old new
            played
            (still_so seats old.events (event.Round (Stock set)) refl before.rises);
        table = ap (λ (game : Game). game.seats) played.after ∙ before.table;
      }
  over_round (Operating set number) old new played before =
      record {
        rises = of_operating (Keeps (RiseAt seats)) (rises_on turns seats) file (Operating set
            number) old new played
            (still_so seats old.events (event.Round (Operating set number)) refl before.rises);
        table = ap (λ (game : Game). game.seats) played.after ∙ before.table;
      }

-- nobody has bid at first
none_first : (seats : ℕ) → RiseAt seats []
none_first seats = record { rise = tt; seated = λ private seat amount is_bid. absurd (cc) }

-- so they rise in each game
pub bids_rise : OpeningBidsRise → ThreeToSixPlay → TurnsSayNoBid → BidsRiseInEachGame
bids_rise opening players turns file rounds there accepted played =
    let three = (players file accepted).0 in
    let seats : ℕ = length (players_of file) in
    (through file (λ at. RiseIn seats at.game)
    (λ old new before round. over_round opening turns file seats (omega (arith, three)) round.round
    old.game new.game
    round.played before) rounds (before_play file) there played
    (record { rises = none_first seats; table = refl })).rises.rise

-- trains are in each game
pub trains_are_there : AllTrainsAreThereAtFirst → OthersKeepStanding → TurnsKeepAll → AllTrainsAreThereInEachGame
trains_are_there first others turns =
    in_each_game AllTrainsAreThere
    (record {
      first = first;
      aside = λ events event says. others events event says.train says.phase;
      begins = λ events round. others events (event.Round round) refl refl;
      turns = turns;
    })

-- the phase is the same after a longer list, or a later one
abbrev PhaseGoesOn : List Event → List Event → Type 0
PhaseGoesOn before after = index_of_kind (phase_of before) ≤ index_of_kind (phase_of after)

-- so phases go on
pub phases_go_on : PhasesGoOnInTurns → PhasesGoOnInRounds
phases_go_on turns file old new round =
    of_round PhaseGoesOn
    (record {
      same = λ events. omega arith;
      both = λ a b c one two. omega arith;
      aside = λ events event says. omega (arith, ap index_of_kind (phase_kept events event says.phase));
    })
    turns file (λ events round. omega (arith, ap index_of_kind (phase_kept events (event.Round round) refl)))
    round.round old.game new.game round.played

-- tiles are in each game
pub tiles_are_there : TilesAreAllAtFirst → OthersKeepTiles → TurnsKeepTiles → AllTilesAreThereInEachGame
tiles_are_there first others turns =
    in_each_game TilesAreAll
    (record {
      first = first;
      aside = λ events event says. others events event says.tile;
      begins = λ events round. others events (event.Round round) refl;
      turns = turns;
    })
