-- A round is played only from the parts of its own sheets: in two files whose sheets for it are read
-- the same, it is played the same. So files whose sheets are read alike have the same game, and later
-- sheets change nothing.
use Rattle.std.proofs.Common.{◌≡◌, ℕ, ◌-◌, List, [], length, map, refl, sym, ap, subst, ◌∙◌, ◌∷◌}
use Rattle.std.proofs.Common.{◌++◌, Option, Some, None, zero, suc, is_some, ◌≤◌, ◌<◌, arith}
use Rattle.std.specs.List.{list_all, range_with_len}
use Rattle.events.specs.declared.event.Event.{Event}
use Rattle.events.specs.declared.event.Event.TheVariants as event
use Rattle.totals.specs.LookBack.{Game, priority_of, broken_in}
use Rattle.totals.specs.Operating.{rulings_in_round}
use Rattle.totals.specs.Shares.{president_of}
use Rattle.history.specs.Record.{revenues_recorded, with_left}
use Rattle.operating.specs.TurnState.{TurnState}
use Rattle.purchases.specs.Standing as rules
use Rattle.operating.specs.CompanyOrders.{LinesLead}
use Rattle.operating.specs.Pay.{withheld_if_unpaid}
use Rattle.operating.specs.Turn.{CompanyOrdersEnd, CompanyOrdersLead, begun}
use Rattle.operating.specs.TurnEnd.{EndLeads}
use Rattle.privates.specs.Turn.{opening_rules, all_sold}
use Rattle.rounds.specs.OperatingRound as operating
use Rattle.rounds.specs.Play.{Between, IsPlayed, IsRound, before_play, goes_on}
use Rattle.rounds.specs.Play.{rounds_of_new_set, AreRounds}
use Rattle.rounds.specs.ReadAlike.{ReadAlikeFor, AreReadAlike, SamePartsSameGame}
use Rattle.rounds.specs.ReadAlike.{SameSheetsAreReadAlike}
use Rattle.rounds.specs.declared.following.Next.{Next}
use Rattle.rounds.specs.declared.following.Next.TheVariants as next
use Rattle.sheets.specs.CompanyOrders.{company_orders_in}
use Rattle.sheets.specs.File.{all_posted, players_of}
use Rattle.sheets.specs.Part.{Numbered, SheetParts, written_turns_of, lines_in, parts_of_sheet}
use Rattle.sheets.specs.Taken.{after_all_before, after_each, after_lines_before}
use Rattle.stock_round.specs.Turn.{stock_rules}
use Rattle.tables.specs.Seat.{seat_at}
use Rattle.tables.specs.Turns.{InPlay, TurnsEnd}
use Rattle.tables.specs.declared.roster.Company.{Company}
use Rattle.tables.specs.declared.round.Round.{Round}
use Rattle.tables.specs.declared.round.Round.TheVariants.{Opening, Stock, Operating}
use Rattle.tables.specs.declared.seat.Seat.{Seat}
use Rattle.turns.specs.RoundOfTurns.{IsRoundOfTurns, RoundRules, in_play, turns_of}
use Rattle.std.specs.Prelude.{Option, [], unwrap_or}
use Rattle.rounds.specs.Arrival.{ArrivalChangesNoGame}
use Rattle.sheets.specs.Laws.{ArrivalChangesNothing, SheetsAreNumbered, ThreeToSixPlay}
use Rattle.rounds.proofs.Coming.{comes_once, follows}
use Rattle.rounds.proofs.Forward.{played_forward}
use Rattle.rounds.proofs.InSet.{IsNextInSet, comes_in_set}
use Rattle.rounds.specs.Causality.{AgreeUpTo, LaterSheetsChangeNothing}
use Rattle.tables.specs.Round.{rank_of}

module _ (first second : List ℕ) where
  module _ (round : Round) (same : ReadAlikeFor round first second) where
    -- standing lines do the same, whatever they do
    same_standing : {State : Type 0} (step : Seat → State → Numbered → State) (state : State)
        (seats : List ℕ)
        → after_all_before step first round state seats ≡ after_all_before step second round state seats
    same_standing step state [] = refl
    same_standing step state (seat ∷ seats) =
        ap (λ (parts : SheetParts). after_all_before step first round (after_each (step (seat_at seat)) state parts.before)
        seats) (same.parts seat)
        ∙ same_standing step (after_lines_before step second round state seat) seats

    -- so a round of turns is played alike
    same_round_of_turns : {TurnActions : Type 0} (kind : RoundRules TurnActions) (old new : Game)
        → IsRoundOfTurns kind first round old new → IsRoundOfTurns kind second round old new
    same_round_of_turns kind old new played =
        let seats : List ℕ = range_with_len 0 old.seats in
        let standing = same_standing kind.standing (old.events ++ event.Round round ∷ []) seats in
        record {
          last = played.last;
          turns = subst (λ (play : InPlay (List Event) Numbered). TurnsEnd (turns_of kind old.seats)
              play played.last)
              (λ i. in_play (standing i) (priority_of old.seats old.events).0 0
              (map (λ seat. written_turns_of (same.parts seat i)) seats)) played.turns;
          after = played.after;
        }

    -- they open an operating round the same way
    same_operating_opened : (old : Game) → operating.operating_round_opened first round old ≡ operating.operating_round_opened
        second round old
    same_operating_opened old =
        ap (λ (events : List Event). revenues_recorded (record { seats = old.seats; events = events }))
        (same_standing rules.after_operating_standing_line (old.events ++ event.Round round ∷ [])
        (range_with_len 0 old.seats))

    -- a company's orders lead to the same
    same_orders : (company : Company) (turn new : TurnState) (president : Option Seat)
        → CompanyOrdersLead first round company turn president new
        → CompanyOrdersLead second round company turn president new
    same_orders company turn new None leads = leads
    same_orders company turn new (Some seat) leads =
        subst (λ (parts : SheetParts). LinesLead (record { company = company; president = seat }) turn
        (company_orders_in company parts.opened) new) (same.parts seat.0) leads

    -- and its turn ends alike by those orders
    same_end : (company : Company) (game new : Game) (president : Option Seat)
        → CompanyOrdersEnd first round company game president new
        → CompanyOrdersEnd second round company game president new
    same_end company game new None ends = ends
    same_end company game new (Some seat) ends =
        subst (λ (parts : SheetParts). EndLeads (record { company = company; president = seat })
        (company_orders_in company parts.opened) game new) (same.parts seat.0) ends

    -- so companies take the same turns, one after another
    same_turns : (companies : List Company) (old new : Game)
        → operating.TakeTurns first round companies old new → operating.TakeTurns second round companies old new
    same_turns [] old new turns = turns
    same_turns (company ∷ others) old new turns =
        let turn = turns.1.turn in
        let president : Option Seat = president_of old.events company in (
          turns.0,
          record {
            is_next = turns.1.is_next;
            turn = record {
              last = turn.last;
              orders = same_orders company (begun old company) turn.last president turn.orders;
              after = same_end company (withheld_if_unpaid company turn.last).game turns.0 president
                  turn.after;
            };
          },
          same_turns others turns.0 new turns.2,
        )

    -- as many lines are left
    same_left : (events : List Event) (seats : List ℕ)
        → operating.left_events first round events seats ≡ operating.left_events second round events seats
    same_left events [] = refl
    same_left events (seat ∷ seats) =
        ap
        (λ (parts : SheetParts).
        with_left (seat_at seat) (lines_in parts - rulings_in_round events (seat_at seat))
        (operating.left_events first round events seats))
        (same.parts seat)
        ∙ ap (λ (rest : List Event). with_left (seat_at seat) (operating.lines_left second round events (seat_at seat))
        rest) (same_left events seats)

    -- an operating round is played alike
    same_operating : (old new : Game)
        → operating.IsOperatingRound first round old new → operating.IsOperatingRound second round old new
    same_operating old new played =
        let turns = played.turns in
        record {
          turned = played.turned;
          turns = record {
            companies = turns.companies;
            turns = subst (λ (start : Game). operating.TakeTurns second round turns.companies start
                played.turned)
                (same_operating_opened old)
                (same_turns turns.companies (operating.operating_round_opened first round old) played.turned
                turns.turns);
            over_then = turns.over_then;
          };
          after =
              played.after
              ∙ ap (λ (left : List Event). record { seats = old.seats; events = played.turned.events ++ left })
              (same_left played.turned.events (range_with_len 0 old.seats));
        }

  -- so is a round of each kind
  same_played : (round : Round) (old new : Game) → ReadAlikeFor round first second → IsPlayed first round old new
      → IsPlayed second round old new
  same_played (Opening number) old new same played =
      same_round_of_turns (Opening number) same opening_rules old new played
  same_played (Stock set) old new same played = same_round_of_turns (Stock set) same stock_rules old
      new played
  same_played (Operating set number) old new same played =
      same_operating (Operating set number) same old new played

  -- all are posted in both files, or in neither
  pub same_posted : (round : Round) → players_of first ≡ players_of second → ReadAlikeFor round first second
      → all_posted first round ≡ all_posted second round
  same_posted round players same =
      λ i. list_all (λ seat. same.posted seat i) (range_with_len 0 (length (players i)))

  -- both files go on, or neither
  pub same_goes_on : (upcoming : Next) → players_of first ≡ players_of second
      → ((round : Round) → ReadAlikeFor round first second) →
      goes_on first upcoming ≡ goes_on second upcoming
  same_goes_on (next.Round round) players same = same_posted round players (same round)
  same_goes_on next.Ended players same = refl

  -- one round is played alike
  pub same_round : (old new : Between) → players_of first ≡ players_of second → (round : IsRound first old new)
      → ReadAlikeFor round.round first second → IsRound second old new
  same_round old new players round same =
      record {
        round = round.round;
        comes = round.comes;
        posted = sym (same_posted round.round players same) ∙ round.posted;
        played = same_played round.round old.game new.game same round.played;
        next_then = round.next_then;
        in_set_then = round.in_set_then;
      }

  -- the files begin alike
  pub same_before : players_of first ≡ players_of second → before_play first ≡ before_play second
  same_before players =
      λ i. record {
        game = record { seats = length (players i); events = [] };
        in_set = rounds_of_new_set [];
        next =
            next.Round (Opening 1);
      }

-- sheets that are read alike let the same rounds be played
all_the_same : (f g : List ℕ) → AreReadAlike f g → (rounds : ℕ) (there : Between)
    → AreRounds f rounds (before_play f) there → AreRounds g rounds (before_play g) there
all_the_same f g same zero there played = sym (same_before f g same.players) ∙ played
all_the_same f g same (suc rounds) there played = (
  played.0,
  all_the_same f g same rounds played.0 played.1,
  same_round f g played.0 there same.players played.2 (same.sheets played.2.round),
)

-- and so the same game
pub same_game : SamePartsSameGame
same_game f g same last plays =
    record {
      rounds = plays.rounds;
      reached = all_the_same f g same plays.rounds last plays.reached;
      stopped = sym (same_goes_on f g last.next same.players same.sheets) ∙ plays.stopped;
    }

-- in files of one version the same sheets are read alike
pub read_alike : SameSheetsAreReadAlike
read_alike first second round version same =
    record {
      posted = λ seat. ap (λ (sheet : Option (List (List ℕ))). is_some sheet) (same seat);
      parts = λ seat i. parts_of_sheet (version i) round (unwrap_or (same seat i) []);
    }

-- in which order the sheets of different players arrive changes nothing in the game
pub arrival_no_game : ArrivalChangesNothing → ArrivalChangesNoGame
arrival_no_game nothing f g version players sent =
    same_game f g
    (record {
      players = players;
      sheets = λ round. read_alike f g round version (λ seat. nothing f g sent seat round);
    })

module _ (numbered : SheetsAreNumbered) (last : Round) (first second : List ℕ) (some : 0 < length (players_of first))
    (agree : AgreeUpTo last first second) where
  -- a round that was played is before the next
  forward : (old new : Between) (later : Round) → IsNextInSet old → (round : IsRound first old new)
      → new.next ≡ next.Round later → rank_of round.round < rank_of later
  forward old new later within_set round comes =
      played_forward numbered first round.round later old.in_set (all_sold new.game.events)
      (broken_in new.game.events) some
      (within_set round.round round.comes) round.posted (follows first old new later round comes)

  -- a round up to the last is played alike
  alike : (old new : Between) (round : IsRound first old new) → rank_of round.round ≤ rank_of last
      → IsRound second old new
  alike old new round up_to =
      same_round first second old new agree.players round (agree.sheets round.round up_to)

  -- so are those that lead to one up to the last
  pub all_alike : (rounds : ℕ) (there : Between) (upcoming : Round) → there.next ≡ next.Round upcoming
      → rank_of upcoming ≤ rank_of last →
      AreRounds first rounds (before_play first) there → AreRounds second rounds (before_play second) there
  all_alike zero there upcoming comes up_to played = sym (same_before first second agree.players) ∙ played
  all_alike (suc rounds) there upcoming comes up_to played =
      let round : IsRound first played.0 there = played.2 in
      let before = forward played.0 there upcoming (comes_in_set first rounds played.0 played.1) round comes in
      let earlier : rank_of round.round ≤ rank_of last = omega arith in
      (played.0, all_alike rounds played.0 round.round round.comes earlier played.1, alike played.0 there round earlier)

  -- and the last itself
  pub last_alike : (old new : Between) → old.next ≡ next.Round last → IsRound first old new → IsRound second old new
  last_alike old new comes round =
      let same : rank_of round.round ≡ rank_of last =
      ap rank_of (comes_once round.round last (sym round.comes ∙ comes)) in
      alike old new round (omega (arith, same))

-- later sheets change nothing
pub later_nothing : SheetsAreNumbered → ThreeToSixPlay → LaterSheetsChangeNothing
later_nothing numbered players round first second old new accepted agree played =
    let three = (players first accepted).0 in
    let some : 0 < length (players_of first) = omega arith in
    record {
      rounds = played.rounds;
      before = all_alike numbered round first second some agree played.rounds old round played.comes (omega arith)
          played.before;
      comes = played.comes;
      step = last_alike numbered round first second some agree old new played.comes played.step;
    }
