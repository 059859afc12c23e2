-- The turns of the companies in an operating round. Each leaves one company fewer that has not
-- operated: so they lead to one end, which comes after at most eight, and no company takes two. With
-- what comes before and after them they are a whole operating round.
use Rattle.std.proofs.Common.{◌≡◌, ℕ, ◌+◌, ◌<◌, ◌≤◌, Bool, true, false, ◌||◌, if◌then◌else◌}
use Rattle.std.proofs.Common.{List, [], ◌∷◌, length, Option, Some, None, refl, sym, ap, ◌∙◌, arith}
use Rattle.std.proofs.Common.{zero, suc, ◌++◌, is_some, subst, ◌-◌, ◌==◌, append_assoc}
use Rattle.events.specs.declared.event.Event.{Event}
use Rattle.totals.specs.LookBack.{Game, in_round, with_event, with_events}
use Rattle.totals.specs.Operating.{has_operated, turn_said, rulings_in_round}
use Rattle.market.specs.OperatingOrder.{IsOperatingOrder, next_company, operating_order_of, times}
use Rattle.operating.proofs.Idle.{all_have_operated, fewer_idle, idle_few, idle_of, next_is_idle}
use Rattle.rounds.specs.OperatingRound.{CompaniesOperateOnce, EndsSoon}
use Rattle.rounds.specs.OperatingRound.{OneOperatingRound, TakeTurns, TakesTurn, TurnsLead}
use Rattle.rounds.specs.OperatingRound.{operating_round_finished, operating_round_opened, IsOperatingRound, left_events}
use Rattle.rounds.specs.OperatingRound.{lines_left}
use Rattle.tables.specs.Roster.{same_company}
use Rattle.tables.specs.declared.roster.Company.{Company}
use Rattle.std.specs.Option.{option_map}
use Rattle.events.specs.Event.{operated_by}
use Rattle.events.specs.declared.event.Event.TheVariants as event
use Rattle.totals.proofs.EventAtEnd.{now_said_before, now_said_here}
use Rattle.operating.specs.Laws.{CompanyOperates, CompanyTurnEnds, OneCompanyTurn}
use Rattle.operating.specs.Turn.{IsCompanyTurn}
use Rattle.rounds.proofs.Growing.{Grows}
use Rattle.rounds.proofs.OperatingGrows.{opened_grows}
use Rattle.rounds.proofs.RoundSteps.{SaysNothing, of_growing}
use Rattle.tables.specs.declared.round.Round.{Round}
use Rattle.std.proofs.lemmas.List.{append-nil}
use Rattle.std.specs.List.{range_with_len}
use Rattle.history.proofs.Recording.{left_first}
use Rattle.totals.specs.AtEnd.{RulingsAreCounted}
use Rattle.history.specs.Record.{revenues_recorded, with_left}
use Rattle.purchases.specs.Standing.{after_all_standing_lines}
use Rattle.sheets.specs.File.{players_of}
use Rattle.sheets.specs.Part.{lines_in, parts_for}
use Rattle.tables.specs.Seat.{seat_at}
use Rattle.tables.specs.declared.seat.Seat.{Seat}
use Rattle.tables.proofs.Companies.{company_is}
use Rattle.sheets.proofs.TakenLemmas.{next_seat}

-- the order of companies is one
abbrev AreOrdered : Type 0
AreOrdered = (events : List Event) → IsOperatingOrder events (operating_order_of events)

-- two companies that are the next are the same
pub next_once : (found : Option Company) (a b : Company) → found ≡ Some a → found ≡ Some b → a ≡ b
next_once found a b first second = cc

-- none is the next, and some is: not both
pub not_both : (found : Option Company) (company : Company) → found ≡ None → found ≡ Some company → ⊥
not_both found company none some = cc

module _ (once : OneCompanyTurn) (file : List ℕ) (round : Round) where
  -- the turns lead to one end
  turns_once : (first second : List Company) (old a b : Game) → TakeTurns file round first old a →
      next_company a.events ≡ None → TakeTurns file round second old b → next_company b.events ≡ None → a ≡ b
  turns_once [] [] old a b first first_over second second_over = sym first ∙ second
  turns_once [] (company ∷ others) old a b first first_over second second_over =
      absurd (not_both (next_company old.events) company
      (ap (λ (game : Game). next_company game.events) first ∙ first_over) second.1.is_next)
  turns_once (company ∷ others) [] old a b first first_over second second_over =
      absurd (not_both (next_company old.events) company
      (ap (λ (game : Game). next_company game.events) second ∙ second_over) first.1.is_next)
  turns_once (one ∷ ones) (other ∷ others) old a b first first_over second second_over =
      let same : one ≡ other = next_once (next_company old.events) one other first.1.is_next second.1.is_next in
      let turn : IsCompanyTurn file round one old second.0 =
      subst (λ (company : Company). IsCompanyTurn file round company old second.0) (sym same) second.1.turn in
      let mid : first.0 ≡ second.0 = once file round one old first.0 second.0 first.1.turn turn in
      turns_once ones others first.0 a b first.2 first_over
      (subst (λ (game : Game). TakeTurns file round others game b) (sym mid) second.2) second_over

-- an operating round has at most one outcome
pub operating_once : OneCompanyTurn → OneOperatingRound
operating_once once file round old a b first second =
    let game : Game → Game = λ turned. record {
      seats = old.seats;
      events =
          operating_round_finished file round old.seats turned.events;
    } in
    first.after
    ∙ ap game (turns_once once file round first.turns.companies second.turns.companies (operating_round_opened file round old)
    first.turned second.turned first.turns.turns first.turns.over_then second.turns.turns second.turns.over_then)
    ∙ sym second.after

-- one more company takes its turn
pub one_more_turn : (file : List ℕ) (round : Round) (companies : List Company) (company : Company)
    (old mid new : Game) →
    TakeTurns file round companies old mid → TakesTurn file round company mid new →
    TakeTurns file round (companies ++ company ∷ []) old new
one_more_turn file round [] company old mid new turns turn =
    (new, subst (λ (game : Game). TakesTurn file round company game new) (sym turns) turn, refl)
one_more_turn file round (first ∷ others) company old mid new turns turn =
    (turns.0, turns.1, one_more_turn file round others company turns.0 mid new turns.2 turn)

-- one if it is so
abbrev count_of : Bool → ℕ
count_of b = if b then 1 else 0

-- one that operates now has not before, and others are as before
one_taken : (after before same : Bool) → after ≡ (before || same) → (same ≡ true → before ≡ false) →
    ◌≡◌ {A = ℕ} ((if same then 1 else 0) + (if before then 1 else 0)) (if after then 1 else 0)
one_taken after before same is idle = grind arith

module _ (operates_too : CompanyOperates) (ordered : AreOrdered) (file : List ℕ) (round : Round) where
  -- a turn leaves fewer idle
  pub turn_leaves_fewer : (company : Company) (old new : Game) → TakesTurn file round company old new
      → idle_of new.events < idle_of old.events
  turn_leaves_fewer company old new turn =
      fewer_idle company old.events new.events (operates_too file round company old new turn.turn)
      (next_is_idle ordered old.events company turn.is_next).1

  -- the turns reach an end
  turns_end : CompanyTurnEnds → (bound : ℕ) (old : Game) → idle_of old.events < bound
      → (turned : Game) × TurnsLead file round old turned
  turns_end ends zero old few = absurd (omega arith)
  turns_end ends (suc bound) old few =
      elim (next_company old.events) as (λ (found : Option Company). next_company old.events ≡ found
      → (turned : Game) × TurnsLead file round old turned) [
        | None ↦ λ none. (old, record { companies = []; turns = refl; over_then = none })
        | Some company ↦ λ found.
            let turn = ends file round company old in
            let taken : TakesTurn file round company old turn.0 = record { is_next = found; turn = turn.1 } in
            let fewer = turn_leaves_fewer company old turn.0 taken in
            let rest = turns_end ends bound turn.0 (omega (arith, few, fewer)) in (
              rest.0,
              record {
                companies = company ∷ rest.1.companies;
                turns =
                    (turn.0, taken, rest.1.turns);
                over_then = rest.1.over_then;
              },
            )
      ]
      refl

  -- each of them leaves fewer idle
  length_few : (companies : List Company) (old new : Game) → TakeTurns file round companies old new
      → length companies + idle_of new.events ≤ idle_of old.events
  length_few [] old new turns =
      let same : idle_of old.events ≡ idle_of new.events =
      ap (λ (game : Game). idle_of game.events) turns in omega (arith, same)
  length_few (company ∷ others) old new turns =
      let rest = length_few others turns.0 new turns.2 in
      let fewer = turn_leaves_fewer company old turns.0 turns.1 in
      omega (arith, rest, fewer)

  -- how often a company took a turn, and whether it had operated before, say whether it has now
  turns_taken : (companies : List Company) (old new : Game) (company : Company) →
      TakeTurns file round companies old new →
      times company companies + (if has_operated old.events company then 1 else 0)
      ≡ (if has_operated new.events company then 1 else 0)
  turns_taken [] old new company turns =
      let same = ap (λ (game : Game). count_of (has_operated game.events company)) turns in
      omega (arith, same)
  turns_taken (first ∷ others) old new company turns =
      let one = one_taken (has_operated turns.0.events company) (has_operated old.events company)
      (same_company first company) (operates_too file round first old turns.0 turns.1.turn company)
      (λ same. ap (has_operated old.events) (sym (company_is first company same))
      ∙ (next_is_idle ordered old.events first turns.1.is_next).1) in
      omega (arith, one, turns_taken others turns.0 new company turns.2)

-- a list and a longer one say alike whether a company has operated
abbrev OperatedAlike : Company → List Event → List Event → Type 0
OperatedAlike company before after = has_operated after company ≡ has_operated before company

-- what is said of a company's turn within a round
abbrev in_turns : Company → Event → Option (Option Company)
in_turns company = in_round (λ event. turn_said company (operated_by event))

-- events that stand aside say nothing of it
says_no_turn : (company : Company) (event : Event) → SaysNothing event → in_turns company event ≡ None
says_no_turn company event says =
    ap (λ (round : Option Round). if is_some round then Some None else option_map Some
    (turn_said company (operated_by event))) says.round
    ∙ ap (λ (turn : Option Company). option_map Some (turn_said company turn)) says.turn

-- nobody has operated once a round has begun, and then events stand aside
no_one_yet : (events new : List Event) (round : Round) (company : Company) →
    Grows (events ++ event.Round round ∷ []) new → has_operated new company ≡ false
no_one_yet events new round company grows =
    of_growing (OperatedAlike company)
    (record {
      same = λ events. refl;
      both = λ a b c one two. two ∙ one;
      aside = λ events event says. ap is_some (now_said_before (in_turns company) events event
          (says_no_turn company event says));
    })
    (events ++ event.Round round ∷ []) new grows
    ∙ ap is_some (now_said_here (in_turns company) events (event.Round round) None refl)

-- an operating round ends
pub operating_ends : CompanyOperates → CompanyTurnEnds → AreOrdered → (file : List ℕ) (round : Round) (old : Game)
    → EndsSoon file round old
operating_ends operates_too ends ordered file round old =
    let start : Game = operating_round_opened file round old in
    let end = turns_end operates_too ordered file round ends (idle_of start.events + 1) start (omega arith) in
    record {
      new = record { seats = old.seats; events = operating_round_finished file round old.seats end.0.events };
      played = record { turned = end.0; turns = end.1; after = refl };
    }

-- a count by a test is one at most
at_most_one : (b : Bool) (count : ℕ) → count ≡ (if b then 1 else 0) → count ≤ 1
at_most_one b count is = grind arith

-- in an operating round companies operate once each
pub operate_once : CompanyOperates → AreOrdered → CompaniesOperateOnce
operate_once operates_too ordered file round old new played =
    let start : Game = operating_round_opened file round old in
    let companies : List Company = played.turns.companies in
    let turned : Game = played.turned in
    let count : (company : Company) → times company companies ≡ (if has_operated turned.events
    company then 1 else 0) =
    λ company.
    let none = ap count_of (no_one_yet old.events start.events round company (opened_grows file
    round old)) in
    omega (arith, none, turns_taken operates_too ordered file round companies start turned company played.turns.turns)
    in
    record {
      at_most_eight = omega (
        arith,
        length_few operates_too ordered file round companies start turned
            played.turns.turns,
        idle_few start.events,
      );
      no_second = λ company. at_most_one (has_operated turned.events company) (times company companies) (count company);
      no_one_missed =
          λ solvent company operating.
          count company ∙ ap count_of (all_have_operated ordered turned.events company solvent
          played.turns.over_then
          operating);
    }

-- the ROUND event, the standing lines and the revenues open a round
pub round_opened : (file : List ℕ) (round : Round) (old recorded ruled paid : Game)
    → old.seats ≡ length (players_of file) → recorded ≡ with_event old (event.Round round)
    → ruled ≡ with_events recorded (after_all_standing_lines (length (players_of file)) file round recorded.events)
    → paid ≡ revenues_recorded ruled → paid ≡ operating_round_opened file round old
round_opened file round old recorded ruled paid players is_recorded is_ruled is_paid =
    let ruled_at : ℕ → Game → Game = λ seats game.
    with_events game (after_all_standing_lines seats file round game.events) in
    is_paid ∙ ap revenues_recorded (is_ruled ∙ ap (ruled_at (length (players_of file))) is_recorded
    ∙ ap (λ (seats : ℕ). ruled_at seats (with_event old (event.Round round))) (sym players))

-- what opened a round, the turns of the companies and what was left are a round
pub whole_round : (file : List ℕ) (round : Round) (old paid turned new : Game) → old.seats ≡ length (players_of file)
    → paid ≡ operating_round_opened file round old → TurnsLead file round paid turned → turned.seats ≡ paid.seats
    → new ≡ with_events turned (operating_round_finished file round (length (players_of file)) turned.events)
    → IsOperatingRound file round old new
whole_round file round old paid turned new players is_paid lead turned_seats is_new =
    let finished : ℕ → ℕ → Game = λ table seats.
    record { seats = table; events = operating_round_finished file round seats turned.events } in
    record {
      turned = turned;
      turns = subst (λ (game : Game). TurnsLead file round game turned) is_paid lead;
      after =
          is_new
          ∙ ap (λ (table : ℕ). finished table (length (players_of file)))
          (turned_seats ∙ ap (λ (game : Game). game.seats) is_paid)
          ∙ ap (finished old.seats) (sym players);
    }

-- a count of lines that were left adds no ruling
count_adds_none : RulingsAreCounted → (none : Bool) (events : List Event) (left : Seat) (count : ℕ) (seat : Seat)
    → rulings_in_round (events ++ (if none then [] else event.Left left count ∷ [])) seat ≡ rulings_in_round events seat
count_adds_none counted none events left count seat = grind (
  arith,
  append-nil events,
  counted
      events (event.Left left count) seat,
)

-- so as many were ruled
pub as_many_ruled : RulingsAreCounted → (from old new : List Event) (left : Seat) (count : ℕ) (seat : Seat)
    → rulings_in_round old seat ≡ rulings_in_round from seat → new ≡ old ++ with_left left count []
    → rulings_in_round new seat ≡ rulings_in_round from seat
as_many_ruled counted from old new left count seat before recorded = let none = count_adds_none
    counted (count == 0) old left count seat in grind (arith, none)

-- the seats that are left bring, after the next of them, what they bring before it
pub left_goes_on : (file : List ℕ) (round : Round) (from old new : List Event) (seat total : ℕ) (left : Seat)
    → seat < total → left ≡ seat_at seat → rulings_in_round old left ≡ rulings_in_round from left
    → new ≡ old ++ with_left left (lines_left file round old left) []
    → new ++ left_events file round from (range_with_len (seat + 1) (total - (seat + 1)))
    ≡ old ++ left_events file round from (range_with_len seat (total - seat))
left_goes_on file round from old new seat total left within is_seat as_many recorded =
    let rest : List Event = left_events file round from (range_with_len (seat + 1) (total - (seat + 1))) in
    ap (λ (all : List Event). all ++ rest) recorded
    ∙ append_assoc old (with_left left (lines_left file round old left) []) rest
    ∙ ap (λ (all : List Event). old ++ all)
    (left_first left (lines_left file round old left) rest
    ∙ ap (λ (ruled : ℕ). with_left left (lines_in (parts_for file round left.0) - ruled) rest) as_many
    ∙ ap (λ (seat : Seat). with_left seat (lines_left file round from seat) rest) is_seat)
    ∙ ap (λ (seats : List ℕ). old ++ left_events file round from seats) (sym (next_seat seat total within))
