-- The calls of a game, turn by turn and round by round. They are the calls of the one game of the
-- file, and each game makes some. Each call succeeds, and is for a round that a line can name. It is
-- one list of calls, of which play that is broken off makes a prefix.
use Rattle.std.proofs.Common.{◌≡◌, ℕ, zero, suc, List, [], ◌∷◌, Some, None, Result, Ok, Err, refl}
use Rattle.std.proofs.Common.{sym, ap, subst, ◌∙◌, inl, inr, ◌<◌, ◌≤◌, Bool, true, false, length}
use Rattle.std.proofs.Common.{arith}
use Rattle.totals.specs.LookBack.{Game, broken_in}
use Rattle.market.specs.OperatingOrder.{next_company}
use Rattle.operating.proofs.Calls.{broken_off, joined, no_more, once_more, silent}
use Rattle.operating.proofs.TurnCalled.{turn_leads}
use Rattle.operating.proofs.TurnLemmas.{seats_stay}
use Rattle.operating.specs.Calls.{AreMade, Call, Course, Earns, Makes, SomeTimesThen, Then}
use Rattle.operating.specs.Calls.{TimesThen, Unasked}
use Rattle.operating.specs.TurnCalls.{SomeTurnCalls, asked, OneListOfTurnCalls}
use Rattle.operating.specs.TurnCalls.{RefusedTurnCallsAreAPrefix}
use Rattle.rounds.specs.GameCalls.{AreOver, CallsAreOfTheGame, CompanyCalls, EachGameCalls}
use Rattle.rounds.specs.GameCalls.{IsFinished, IsOpened, NextCalls, OperatingCalls, PlayedCalls}
use Rattle.rounds.specs.GameCalls.{PlayStops, RoundCalls, SomeCalls, TurnsCall, between_after}
use Rattle.rounds.specs.GameCalls.{ArePrefix, OneListOfCalls, RefusedCallsAreAPrefix}
use Rattle.rounds.specs.OperatingRound.{IsOperatingRound, TakeTurns, TakesTurn, TurnsLead}
use Rattle.rounds.specs.OperatingRound.{operating_round_finished, operating_round_opened}
use Rattle.rounds.specs.Play.{AreRounds, Between, IsPlayed, IsRound, IsTheGame, IsToPlay, Played}
use Rattle.rounds.specs.Play.{SomeGame, before_play, coming, end_of, in_set_before, goes_on}
use Rattle.rounds.specs.declared.fault.PlayFault.{PlayFault}
use Rattle.rounds.specs.declared.fault.PlayFault.TheVariants.{Memory}
use Rattle.rounds.specs.declared.following.Next.{Next}
use Rattle.tables.specs.declared.roster.Company.{Company}
use Rattle.tables.specs.declared.round.Round.{Round}
use Rattle.tables.specs.declared.round.Round.TheVariants.{Opening, Stock, Operating}
use Rattle.std.specs.Prelude.{IsOk, pos}
use Rattle.std.specs.List.{AllByRecursion}
use Rattle.events.specs.declared.event.Event.{Event}
use Rattle.operating.proofs.EachCall.{HoldsOfEach, of_both, of_none, of_then, of_times, of_turn}
use Rattle.operating.proofs.EachCall.{of_unasked}
use Rattle.privates.specs.Turn.{all_sold}
use Rattle.rounds.proofs.Coming.{OfNext, after_operating, comes_once, follows, of_coming}
use Rattle.rounds.proofs.Forward.{posted_small}
use Rattle.rounds.proofs.InSet.{IsNextInSet, first_is_in_set, in_any_set, round_in_set}
use Rattle.rounds.proofs.OneGame.{was_on, OneOpeningRound, OneStockRound}
use Rattle.rounds.proofs.StepByStep.{IsAt, leads_on, step_calls}
use Rattle.rounds.specs.CallsNamed.{CallsAreNamed}
use Rattle.rounds.specs.Sequence.{following, turn_in_set}
use Rattle.rounds.specs.StepsCall.{GamesAreAnswered, StepsAreAnswered}
use Rattle.rounds.specs.declared.following.Next.TheVariants as next
use Rattle.sheets.specs.File.{players_of}
use Rattle.sheets.specs.Laws.{SheetsAreNumbered, ThreeToSixPlay, number_of}
use Rattle.tables.specs.Round.{IsNamed, number_most, operating_most}
use Rattle.std.proofs.lemmas.Bool.{true≢false}
use Rattle.legal_runs.specs.declared.runner.RunnerFault.{RunnerFault}
use Rattle.operating.proofs.OneCourse.{Agree, some_times_agree, then_agree, unasked_agrees}
use Rattle.rounds.proofs.CompanyTurns.{next_once, not_both}
use Rattle.rounds.specs.Faults.{fault_in_turn}

-- between two rounds, after one of them
pub after_round :
    (round : Round) (in_set later : ℕ) (next : Next) (game : Game) → next ≡ coming round in_set game.events →
    later ≡ in_set_before next game.events in_set → record { game = game; in_set = later; next = next }
    ≡ between_after round in_set game
after_round round in_set later next game comes is_later =
    let is : later ≡ in_set_before (coming round in_set game.events) game.events in_set =
    is_later ∙ ap (λ (n : Next). in_set_before n game.events in_set) comes in
    λ i. record { game = game; in_set = is i; next = comes i }

module _ {Runner : Type 0} (earns : Earns Runner) where
  -- the turn of the company that is next
  pub next_turn :
      (file : List ℕ) (round : Round) (company : Company) (old : Game) (outcome : Result Game PlayFault)
      (before after : Runner) →
      next_company old.events ≡ Some company → Makes earns before (CompanyCalls file round company old outcome) after →
      Makes earns before (NextCalls file round old outcome) after
  next_turn file round company old outcome before after is made = (made.0, (company, is, made.1), made.2)

  -- the turns of a round that was opened, and what follows them
  pub turns_of_round :
      (file : List ℕ) (round : Round) (old paid : Game) (outcome : Result Game PlayFault) (before after : Runner)
      → paid ≡ operating_round_opened file round old →
      Makes earns before (Then (TurnsCall file round) (Unasked Memory (IsFinished file round)) paid outcome) after →
      Makes earns before (OperatingCalls file round old outcome) after
  turns_of_round file round old paid outcome before after is_opened made =
      joined earns (Unasked Memory (IsOpened file round))
      (Then (TurnsCall file round) (Unasked Memory (IsFinished file round))) old paid outcome
      before before after (silent earns Memory (IsOpened file round) old paid before before is_opened refl) made

  -- the turns, and what was left
  pub turns_followed :
      (file : List ℕ) (round : Round) (paid turned : Game) (outcome : Result Game PlayFault) (before after : Runner) →
      Makes earns before (TurnsCall file round paid (Ok turned)) after
      → Unasked Memory (IsFinished file round) turned outcome [] →
      Makes earns before (Then (TurnsCall file round) (Unasked Memory (IsFinished file round)) paid outcome) after
  turns_followed file round paid turned outcome before after made end =
      joined earns (TurnsCall file round) (Unasked Memory (IsFinished file round)) paid turned outcome before after
      after made ([], end, refl)

  -- the round that comes was played
  pub round_on :
      (file : List ℕ) (round : Round) (old new : Between) (before after : Runner) → IsToPlay file old.next round →
      new ≡ between_after round old.in_set new.game → Makes earns before
      (PlayedCalls file round old.game (Ok new.game)) after →
      Makes earns before (RoundCalls file old (Ok new)) after
  round_on file round old new before after is_next is_new made =
      let After : Course Game Between PlayFault = Unasked Memory
      (λ (game : Game) (to : Between). to ≡ between_after round old.in_set game) in
      let all = joined earns (PlayedCalls file round) After old.game new.game (Ok new) before after after made
      ([], (is_new, refl), refl) in
      (all.0, (round, is_next, all.1), all.2)

  -- it was broken off
  pub round_broken :
      (file : List ℕ) (round : Round) (old : Between) (fault : PlayFault) (before after : Runner)
      → IsToPlay file old.next round →
      Makes earns before (PlayedCalls file round old.game (Err fault)) after
      → Makes earns before (RoundCalls file old (Err fault)) after
  round_broken file round old fault before after is_next made =
      let After : Course Game Between PlayFault = Unasked Memory
      (λ (game : Game) (to : Between). to ≡ between_after round old.in_set game) in
      let all = broken_off earns (PlayedCalls file round) After old.game fault before after made in
      (all.0, (round, is_next, all.1), all.2)

-- the turns of companies, with their calls, are their turns, and leave the seats as they are
turns_lead :
    (file : List ℕ) (round : Round) (times : ℕ) (old new : Game) (calls : List Call) →
    TimesThen times (NextCalls file round) (Unasked Memory AreOver) old (Ok new) calls
    → TurnsLead file round old new × (new.seats ≡ old.seats)
turns_lead file round zero old new calls course = (
  record {
    companies = [];
    turns = sym course.0.stays;
    over_then = subst (λ (game : Game). next_company game.events ≡ None) (sym course.0.stays) course.0.none;
  },
  ap (λ (game : Game). game.seats) course.0.stays,
)
turns_lead file round (suc times) old new calls course =
    elim course [
      | inl never ↦ absurd never
      | inr joins ↦
          let rest = turns_lead file round times joins.between new joins.later joins.goes_on in
          let company : Company = joins.leads.0 in
          let turn = turn_leads file round company old joins.between joins.earlier joins.leads.2 in
          let first : TakesTurn file round company old joins.between =
          record { is_next = joins.leads.1; turn = turn } in (
            record {
              companies = company ∷ rest.0.companies;
              turns = (joins.between, first, rest.0.turns);
              over_then = rest.0.over_then;
            },
            rest.1 ∙ seats_stay file round company old joins.between turn,
          )
    ]

-- an operating round, with its calls, is one
operating_played :
    (file : List ℕ) (round : Round) (old new : Game) (calls : List Call)
    → OperatingCalls file round old (Ok new) calls →
    IsOperatingRound file round old new
operating_played file round old new calls course =
    elim course [
      | inl never ↦ absurd never
      | inr first ↦ elim first.goes_on [
        | inl never ↦ absurd never
        | inr rest ↦
            let led = turns_lead file round rest.leads.0 first.between rest.between rest.earlier rest.leads.1 in
            let seats : rest.between.seats ≡ old.seats = led.1 ∙ ap (λ (game : Game). game.seats) first.leads.0 in
            record {
              turned = rest.between;
              turns = subst (λ (game : Game). TurnsLead file round game rest.between) first.leads.0 led.0;
              after =
                  rest.goes_on.0
                  ∙ ap (λ (n : ℕ). record { seats = n; events = operating_round_finished file round n rest.between.events }) seats;
            }
      ]
    ]

-- so is a round of each kind
is_played :
    (file : List ℕ) (round : Round) (old new : Game) (calls : List Call) → PlayedCalls file round old (Ok new) calls →
    IsPlayed file round old new
is_played file (Opening number) old new calls course = course.0
is_played file (Stock set) old new calls course = course.0
is_played file (Operating set number) old new calls course =
    operating_played file (Operating set number) old new calls course

-- so is a round between others
pub is_round : (file : List ℕ) (old new : Between) (calls : List Call) → RoundCalls file old
    (Ok new) calls
    → IsRound file old new
is_round file old new calls course =
    elim course.2 [
      | inl never ↦ absurd never
      | inr joins ↦
          let is : new ≡ between_after course.0 old.in_set joins.between = joins.goes_on.0 in
          subst (λ (after : Between). IsRound file old after) (sym is)
          (record {
            round = course.0;
            comes = course.1.comes;
            posted = course.1.posted;
            played = is_played file course.0 old.game joins.between joins.earlier joins.leads;
            next_then = refl;
            in_set_then = refl;
          })
    ]

-- a runner of which nothing is asked, for the calls alone
abbrev AnyRunner : Earns (Unit {0})
AnyRunner before position round company trains answer after = Unit

all_made : (calls : List Call) → AreMade AnyRunner tt calls tt
all_made [] = refl
all_made (call ∷ calls) = (tt, tt, all_made calls)

-- there are such calls
abbrev AreSome : (List Call → Type 0) → Type 0
AreSome Are = Makes AnyRunner tt Are tt

module _ (some : SomeTurnCalls) (file : List ℕ) where
  -- turns of companies make calls
  turns_called : (round : Round) (companies : List Company) (old new : Game) →
      TakeTurns file round companies old new → next_company new.events ≡ None →
      AreSome (TurnsCall file round old (Ok new))
  turns_called round [] old new turns over =
      no_more AnyRunner (NextCalls file round) (Unasked Memory AreOver) old (Ok new) tt tt
      (silent AnyRunner Memory AreOver old new tt tt
      (record
      { none = ap (λ (game : Game). next_company game.events) turns ∙ over; stays = sym turns })
      refl)
  turns_called round (company ∷ others) old new turns over =
      let first = some file round company old turns.0 turns.1.turn in
      once_more AnyRunner (NextCalls file round) (Unasked Memory AreOver) old turns.0 (Ok new) tt tt
      tt
      (first.0, (company, turns.1.is_next, first.1), all_made first.0)
      (turns_called round others turns.0 new turns.2 over)

  -- so does an operating round
  operating_called : (round : Round) (old new : Game) → IsOperatingRound file round old new →
      AreSome (OperatingCalls file round old (Ok new))
  operating_called round old new played =
      let start : Game = operating_round_opened file round old in
      let turned : Game = played.turned in
      let turns = turns_called round played.turns.companies start turned played.turns.turns
      played.turns.over_then in
      let seats : turned.seats ≡ old.seats =
      (turns_lead file round turns.1.0 start turned turns.0 turns.1.1).1 in
      let after : new ≡ record { seats = turned.seats; events = operating_round_finished file round turned.seats turned.events } =
      played.after ∙ ap (λ (n : ℕ). record
      { seats = n; events = operating_round_finished file round n turned.events }) (sym seats) in
      turns_of_round AnyRunner file round old start (Ok new) tt tt refl
      (turns_followed AnyRunner file round start turned (Ok new) tt tt turns (after, refl))

  -- so does a round of each kind
  played_called : (round : Round) (old new : Game) → IsPlayed file round old new →
      AreSome (PlayedCalls file round old (Ok new))
  played_called (Opening number) old new played = ([], (played, refl), refl)
  played_called (Stock set) old new played = ([], (played, refl), refl)
  played_called (Operating set number) old new played = operating_called (Operating set number) old
      new played

  -- so do rounds before others that do
  rounds_called : (rounds : ℕ) (old mid : Between) (played : Played) → AreRounds file rounds old
      mid →
      AreSome (SomeTimesThen (RoundCalls file) (Unasked Memory (PlayStops file)) mid (Ok played)) →
      AreSome (SomeTimesThen (RoundCalls file) (Unasked Memory (PlayStops file)) old (Ok played))
  rounds_called zero old mid played rounds later =
      subst (λ (at : Between). AreSome (SomeTimesThen (RoundCalls file) (Unasked Memory
      (PlayStops file)) at (Ok played)))
      (sym rounds) later
  rounds_called (suc rounds) old mid played are later =
      let last : IsRound file are.0 mid = are.2 in
      let course =
      round_on AnyRunner file last.round are.0 mid tt tt
      (record { comes = last.comes; posted = last.posted })
      (after_round last.round are.0.in_set mid.in_set mid.next mid.game last.next_then
      last.in_set_then)
      (played_called last.round are.0.game mid.game last.played) in
      rounds_called rounds old are.0 played are.1
      (once_more AnyRunner (RoundCalls file) (Unasked Memory (PlayStops file)) are.0 mid (Ok played) tt
      tt tt course later)

-- and so does each game
pub game_called : SomeTurnCalls → EachGameCalls
game_called some played game =
    let is : played ≡ record {
      file = played.file;
      game = game.last.game;
      end = end_of game.last.next game.last.game.events;
    } =
    λ i. record { file = played.file; game = game.game i; end = game.end i }
    in
    let all = rounds_called some played.file game.plays.rounds (before_play played.file) game.last
    played
    game.plays.reached
    (no_more AnyRunner (RoundCalls played.file) (Unasked Memory (PlayStops played.file)) game.last
    (Ok played) tt tt
    (silent AnyRunner Memory (PlayStops played.file) game.last played tt tt
    (record { stopped = game.plays.stopped; game = is }) refl)) in
    (all.0, all.1)

-- and so there are calls for each file that is not refused
pub some_called : SomeGame → SomeTurnCalls → SomeCalls
some_called game some file accepted =
    let it = game file accepted in
    let played : Played = record { file = file; game = it.0.game; end = end_of it.0.next it.0.game.events } in
    let calls = game_called some played (record { last = it.0; plays = it.1; game = refl; end = refl }) in
    (played, calls.0, calls.1)

-- one round before others
one_before : (file : List ℕ) (n : ℕ) (old mid new : Between) → IsRound file old mid → AreRounds file n mid new
    → AreRounds file (suc n) old new
one_before file zero old mid new first rounds = (old, refl, subst (λ (at : Between). IsRound file old at) rounds first)
one_before file (suc n) old mid new first rounds =
    (rounds.0, one_before file n old mid rounds.0 first rounds.1, rounds.2)

-- the rounds of a game, with their calls, are its rounds
rounds_lead :
    (file : List ℕ) (times : ℕ) (old : Between) (played : Played) (calls : List Call) →
    TimesThen times (RoundCalls file) (Unasked Memory (PlayStops file)) old (Ok played) calls →
    (last : Between) × AreRounds file times old last × PlayStops file last played
rounds_lead file zero old played calls course = (old, refl, course.0)
rounds_lead file (suc times) old played calls course =
    elim course [
      | inl never ↦ absurd never
      | inr joins ↦
          let rest = rounds_lead file times joins.between played joins.later joins.goes_on in (
            rest.0,
            one_before file times old joins.between rest.0 (is_round file old joins.between joins.earlier joins.leads)
                rest.1,
            rest.2,
          )
    ]

-- so these calls are of the game of the file
pub of_the_game : CallsAreOfTheGame
of_the_game file played calls course =
    let led = rounds_lead file course.0 (before_play file) played calls course.1 in
    let is = led.2.game in (
      ap (λ (p : Played). p.file) is,
      subst IsTheGame (sym is)
          (record {
            last = led.0;
            plays = record { rounds = course.0; reached = led.1; stopped = led.2.stopped };
            game = refl;
            end = refl;
          }),
    )

-- it holds of each call that succeeds in a turn in this round
abbrev OfAsked : (Call → Type 0) → Round → Type 0
OfAsked P round = (company : Company) (events : List Event) (revenue : ℕ) → P (asked company round
    events (Ok (pos revenue)))

module _ (P : Call → Type 0) (file : List ℕ) where
  -- so of those of an operating round
  of_operating : (round : Round) → OfAsked P round → HoldsOfEach P (OperatingCalls file round)
  of_operating round each =
      of_then P (Unasked Memory (IsOpened file round))
      (Then (TurnsCall file round) (Unasked Memory (IsFinished file round)))
      (of_unasked P Memory (IsOpened file round))
      (of_then P (TurnsCall file round) (Unasked Memory (IsFinished file round))
      (λ old to calls turns. of_times P (NextCalls file round) (Unasked Memory AreOver)
      (λ from next some course. of_turn P round each file course.0 from next some course.2)
      (of_unasked P Memory AreOver) turns.0 old to calls turns.1)
      (of_unasked P Memory (IsFinished file round)))

  -- of those of a round, by its kind
  of_played : (round : Round) → OfAsked P round → HoldsOfEach P (PlayedCalls file round)
  of_played (Opening number) each old to calls course = of_none P calls course.1
  of_played (Stock set) each old to calls course = of_none P calls course.1
  of_played (Operating set number) each old to calls course =
      of_operating (Operating set number) each old to calls course

  -- of those of a round between others
  of_round : (old new : Between) (calls : List Call) (course : RoundCalls file old (Ok new) calls) →
      OfAsked P course.0 → AllByRecursion P calls
  of_round old new calls course each =
      let Leads : Game → Between → Type 0 = λ game to. to ≡ between_after course.0 old.in_set
      game in
      of_then P (PlayedCalls file course.0) (Unasked Memory Leads) (of_played course.0 each)
      (of_unasked P Memory Leads) old.game new calls course.2

  -- of those of all rounds from a place on, where it is known of each place which round is next
  of_rounds : (At : Between → Type 0) →
      ((old : Between) (round : Round) → At old → IsToPlay file old.next round → OfAsked P round) →
      ((old new : Between) → At old → IsRound file old new → At new) →
      (times : ℕ) (old : Between) (played : Played) (calls : List Call) → At old →
      TimesThen times (RoundCalls file) (Unasked Memory (PlayStops file)) old (Ok played) calls →
      AllByRecursion P calls
  of_rounds At each on zero old played calls at course = of_none P calls course.1
  of_rounds At each on (suc times) old played calls at course =
      elim course [
        | inl never ↦ absurd never
        | inr joins ↦
            subst (AllByRecursion P) (sym joins.all)
            (of_both P joins.earlier joins.later
            (of_round old joins.between joins.earlier joins.leads (each old joins.leads.0 at
            joins.leads.1))
            (of_rounds At each on times joins.between played joins.later
            (on old joins.between at (is_round file old joins.between joins.earlier joins.leads))
            joins.goes_on))
      ]

-- each call of a game succeeds
pub games_answered : GamesAreAnswered
games_answered file played calls course =
    of_rounds (λ call. IsOk call.answer) file (λ there. Unit) (λ old round at to_play company events
    revenue. refl)
    (λ old new at round. tt) course.0 (before_play file) played calls tt course.1

-- and each of a step
pub steps_answered : StepsAreAnswered
steps_answered old new round calls step its =
    let at : IsAt old.file step.from old = record { of_file = refl; there = step.there } in
    let on = leads_on old.file step.from old new round at step in
    of_round (λ call. IsOk call.answer) old.file step.from on.to calls
    (step_calls old.file step.from (Ok on.to) old new calls at on.at.there
    (was_on old.file step.from on.to on.played) its) (λ company events revenue. refl)

-- the numbers of a round begin with 1
abbrev AreFromOne : Round → Type 0
AreFromOne (Opening number) = 1 ≤ number
AreFromOne (Stock set) = 1 ≤ set
AreFromOne (Operating set number) = (1 ≤ set) × (1 ≤ number)

-- so do those of each round that follows
next_from_one : (round : Round) (in_set : ℕ) (all_sold broken : Bool) → AreFromOne round
    → OfNext AreFromOne (following round in_set all_sold broken)
next_from_one (Opening number) in_set true broken from = omega arith
next_from_one (Opening number) in_set false broken from = omega arith
next_from_one (Stock set) in_set all_sold broken from = (from, omega arith)
next_from_one (Operating set number) in_set all_sold broken from =
    after_operating AreFromOne set number in_set all_sold broken (λ more. (from.0, omega arith)) (λ past. omega arith)

-- a round with such numbers that a sheet can name, within a set, is one that a line can name
named : (round : Round) → AreFromOne round → number_of round ≤ number_most → turn_in_set round ≤ operating_most
    → IsNamed round
named (Opening number) from small turn = (from, small)
named (Stock set) from small turn = (from, small)
named (Operating set number) from small turn = ((from.0, small), (from.1, turn))

-- the round that comes next, if one does, has such numbers
abbrev ComesFromOne : Between → Type 0
ComesFromOne there = (round : Round) → there.next ≡ next.Round round → AreFromOne round

-- so it is before the first round
first_from_one : (file : List ℕ) → ComesFromOne (before_play file)
first_from_one file round comes = subst AreFromOne (comes_once (Opening 1) round comes) (omega arith)

-- and after each that was played
from_one_then : (file : List ℕ) (old new : Between) → ComesFromOne old → IsRound file old new →
    ComesFromOne new
from_one_then file old new from round later comes =
    let sold = all_sold new.game.events in
    let broken = broken_in new.game.events in
    of_coming AreFromOne (following round.round old.in_set sold broken) later (follows file old new
    later round comes)
    (next_from_one round.round old.in_set sold broken (from round.round round.comes))

-- so all calls of a game are for rounds that a line can name
pub calls_named : SheetsAreNumbered → ThreeToSixPlay → CallsAreNamed
calls_named numbered players file played calls accepted course =
    let many = (players file accepted).0 in
    let some : 0 < length (players_of file) = omega (arith, many) in
    of_rounds (λ call. IsNamed call.round) file (λ there. ComesFromOne there × IsNextInSet there)
    (λ old round at to_play company events revenue.
    named round (at.0 round to_play.comes) (posted_small numbered file round some to_play.posted)
    (in_any_set round old.in_set (at.1 round to_play.comes)))
    (λ old new at round. (
      from_one_then file old new at.0 round,
      round_in_set file old new at.1
          round,
    ))
    course.0 (before_play file) played calls (first_from_one file, first_is_in_set file) course.1

-- a fault of play says why a call failed, and for whom
abbrev TellsOf : PlayFault → RunnerFault → Call → Type 0
TellsOf fault why call = fault ≡ fault_in_turn why call.round call.company

-- from each place such a course leads to one end by one list of calls, and by a prefix of them if
-- it is broken off
abbrev IsOne : {A B : Type 0} → Course A B PlayFault → Type 0
IsOne course = Agree Memory TellsOf course course

module _ (lists : OneListOfTurnCalls) (prefixes : RefusedTurnCallsAreAPrefix) (file : List ℕ) where
  -- a prefix of the calls of a company's turn
  company_prefix :
      (round : Round) (company : Company) (old new : Game) (fault : PlayFault) (some all : List Call) →
      CompanyCalls file round company old (Err fault) some → CompanyCalls file round company old (Ok new) all
      → ArePrefix fault some all
  company_prefix round company old new fault some all broken led =
      elim (prefixes file round company old new broken.0 some all broken.2 led) [
        | inl first ↦ inl (broken.1 ∙ ap (λ (why : RunnerFault). fault_in_turn why round company) first.0, first.1)
        | inr short ↦ inr (
          short.0,
          short.1,
          broken.1
              ∙ ap (λ (why : RunnerFault). fault_in_turn why round company) short.2.0
              ∙ (λ i. fault_in_turn short.0 (sym short.2.1 i) (sym short.2.2 i)),
        )
      ]

  -- the turn of the next company
  next_called_once : (round : Round) → IsOne (NextCalls file round)
  next_called_once round =
      record {
        once = λ old a b some others first second.
            let same : first.0 ≡ second.0 = next_once (next_company old.events) first.0 second.0 first.1 second.1 in
            lists file round first.0 old a b some others first.2
            (subst (λ (company : Company). CompanyCalls file round company old (Ok b) others) (sym same) second.2);
        prefix = λ old fault to some all broken led.
            let same : broken.0 ≡ led.0 = next_once (next_company old.events) broken.0 led.0 broken.1 led.1 in
            company_prefix round broken.0 old to fault some all broken.2
            (subst (λ (company : Company). CompanyCalls file round company old (Ok to) all) (sym same) led.2);
      }

  -- the turns of companies
  turns_called_once : (round : Round) → IsOne (TurnsCall file round)
  turns_called_once round =
      some_times_agree Memory TellsOf (NextCalls file round) AreOver (next_called_once round)
      (λ from a b first second. first.stays ∙ sym second.stays)
      (λ from to outcome calls over next. not_both (next_company from.events) next.0 over.none next.1)

  -- an operating round
  operating_called_once : (round : Round) → IsOne (OperatingCalls file round)
  operating_called_once round =
      let opening = unasked_agrees Memory TellsOf (IsOpened file round) (λ from a b first second. first ∙ sym second) in
      let ending = unasked_agrees Memory TellsOf (IsFinished file round)
      (λ from a b first second. first ∙ sym second) in
      let turns = then_agree Memory TellsOf (TurnsCall file round) (TurnsCall file round)
      (Unasked Memory (IsFinished file round)) (Unasked Memory (IsFinished file round)) (turns_called_once round)
      ending in
      then_agree Memory TellsOf (Unasked Memory (IsOpened file round)) (Unasked Memory (IsOpened file round))
      (Then (TurnsCall file round) (Unasked Memory (IsFinished file round)))
      (Then (TurnsCall file round) (Unasked Memory (IsFinished file round))) opening turns

  module _ (one_opening : OneOpeningRound) (one_stock : OneStockRound) where
    -- a round of each kind
    played_called_once : (round : Round) → IsOne (PlayedCalls file round)
    played_called_once (Opening number) =
        unasked_agrees Memory TellsOf (IsPlayed file (Opening number)) (one_opening file (Opening number))
    played_called_once (Stock set) = unasked_agrees Memory TellsOf (IsPlayed file (Stock set))
        (one_stock file (Stock set))
    played_called_once (Operating set number) = operating_called_once (Operating set number)

    -- a round that is next, from the place before it
    this_called_once : (round : Round) (in_set : ℕ) →
        IsOne (Then (PlayedCalls file round) (Unasked Memory
        (λ (game : Game) (new : Between). new ≡ between_after round in_set game)))
    this_called_once round in_set =
        let After : Course Game Between PlayFault = Unasked Memory
        (λ (game : Game) (new : Between). new ≡ between_after round in_set game) in
        then_agree Memory TellsOf (PlayedCalls file round) (PlayedCalls file round) After After
        (played_called_once round)
        (unasked_agrees Memory TellsOf (λ (game : Game) (new : Between). new ≡ between_after round in_set game)
        (λ from a b first second. first ∙ sym second))

    -- the next round
    round_called_once : IsOne (RoundCalls file)
    round_called_once =
        record {
          once = λ old a b some others first second.
              let Of : Round → Result Between PlayFault → List Call → Type 0 = λ round outcome calls.
              Then (PlayedCalls file round) (Unasked Memory (λ (game : Game) (new : Between). new
              ≡ between_after round old.in_set game)) old.game outcome calls
              in
              let same : first.0 ≡ second.0 = comes_once first.0 second.0 (sym first.1.comes ∙ second.1.comes) in
              let this = this_called_once first.0 old.in_set in
              this.once old.game a b some others first.2 (subst (λ (round : Round). Of round (Ok b) others) (sym same)
              second.2);
          prefix = λ old fault to some all broken led.
              let Of : Round → Result Between PlayFault → List Call → Type 0 = λ round outcome calls.
              Then (PlayedCalls file round) (Unasked Memory (λ (game : Game) (new : Between). new
              ≡ between_after round old.in_set game)) old.game outcome calls
              in
              let same : broken.0 ≡ led.0 = comes_once broken.0 led.0 (sym broken.1.comes ∙ led.1.comes) in
              let this = this_called_once broken.0 old.in_set in
              this.prefix old.game fault to some all broken.2
              (subst (λ (round : Round). Of round (Ok to) all) (sym same) led.2);
        }

    -- and the game
    game_called_once : IsOne (SomeTimesThen (RoundCalls file) (Unasked Memory (PlayStops file)))
    game_called_once =
        some_times_agree Memory TellsOf (RoundCalls file) (PlayStops file) round_called_once
        (λ from a b first second. first.game ∙ sym second.game)
        (λ from to outcome calls stops round. true≢false
        (sym (ap (goes_on file) round.1.comes ∙ round.1.posted) ∙ stops.stopped))

module _ (lists : OneListOfTurnCalls) (prefixes : RefusedTurnCallsAreAPrefix) (one_opening : OneOpeningRound)
    (one_stock : OneStockRound) where
  -- so the game of a file makes one list of calls
  pub one_list : OneListOfCalls
  one_list file a b some others first second =
      let one = game_called_once lists prefixes file one_opening one_stock in one.once (before_play file) a b some
      others first second

  -- and a prefix of them where play is broken off
  pub a_prefix : RefusedCallsAreAPrefix
  a_prefix file fault played refused whole broken led =
      let one = game_called_once lists prefixes file one_opening one_stock in one.prefix (before_play file) fault played
      refused whole broken led
