-- A play, step by step: what its steps lead to is the game of its file, and the calls of a step are
-- those of its round. Joined they are those of the game, or of one that was broken off.
use Rattle.std.proofs.Common.{◌≡◌, ℕ, zero, suc, ◌<◌, ◌≤◌, true, false, List, [], length, Result}
use Rattle.std.proofs.Common.{Ok, Err, refl, sym, ap, subst, ◌∙◌, inl, inr, arith, ◌++◌}
use Rattle.std.proofs.Common.{append_assoc}
use Rattle.std.specs.Prelude.{Option, Some, None}
use Rattle.std.proofs.lemmas.Bool.{true≢false}
use Rattle.operating.specs.Calls.{AreMade, Call, Earns, Makes, SomeTimesThen, Unasked}
use Rattle.totals.specs.LookBack.{Game, broken_in}
use Rattle.history.specs.Sound.{IsSound}
use Rattle.privates.specs.Turn.{all_sold}
use Rattle.rounds.proofs.Coming.{comes_once, follows}
use Rattle.rounds.proofs.Forward.{fewer_to_come, gifts_go_on, posted_small}
use Rattle.rounds.proofs.InSet.{IsInSet, comes_in_set}
use Rattle.rounds.proofs.OneGame.{OneOpeningRound, OneStockRound, on, on_the_way, was_on}
use Rattle.rounds.specs.GameCalls.{RoundCalls, PlayStops, GameCalls}
use Rattle.rounds.specs.Gifts.{GiftsWait}
use Rattle.rounds.specs.OperatingRound.{OneOperatingRound}
use Rattle.rounds.specs.Play.{AreRounds, Between, IsPlayed, IsRound, IsToPlay, SomeGame}
use Rattle.rounds.specs.Play.{before_play, coming, end_of, goes_on, in_set_before, Played}
use Rattle.rounds.specs.Steps.{BreaksOff, CallsBetween, ComesNext, HasComeTo, IsOver, PlaysNext}
use Rattle.rounds.specs.Steps.{Stays, StepCalls, StepsPlay, StepsPlayTheGame, Underway, end_there}
use Rattle.rounds.specs.Steps.{game_so_far, game_there, places_ahead, places_there, started}
use Rattle.rounds.specs.Steps.{there_unless}
use Rattle.rounds.specs.declared.fault.PlayFault.{PlayFault}
use Rattle.rounds.specs.declared.following.Next.{Next}
use Rattle.rounds.specs.declared.game.End.{End}
use Rattle.sheets.specs.File.{players_of}
use Rattle.sheets.specs.Laws.{SheetsAreNumbered, number_of}
use Rattle.tables.specs.Round.{number_most}
use Rattle.tables.specs.declared.round.Round.{Round}
use Rattle.tables.specs.declared.round.Round.TheVariants.{Opening}
use Rattle.std.proofs.lemmas.List.{append-nil}
use Rattle.rounds.specs.StepsBroken.{BrokenStepsCallABrokenGame}
use Rattle.rounds.specs.StepsCall.{StepsCall, StepsCallTheGame}
use Rattle.rounds.specs.declared.fault.PlayFault.TheVariants.{Memory}

-- a play of this file is at this place
pub record IsAt (file : List ℕ) (here : Between) (play : Underway) : Type 0 where
  pub of_file : play.file ≡ file
  pub there : play.there ≡ Ok here

-- it is at one
pub same_place : (a b : Between) (there : Result Between PlayFault) → there ≡ Ok a → there ≡ Ok b →
    a ≡ b
same_place a b there at_a at_b = cc

-- a step that plays a round leads on from one place to another
pub record LeadsOn (file : List ℕ) (here : Between) (new : Underway) : Type 0 where
  pub to : Between
  pub at : IsAt file to new
  pub played : IsRound file here to

pub leads_on : (file : List ℕ) (here : Between) (old new : Underway) (round : Round) → IsAt file
    here old
    → PlaysNext old round new → LeadsOn file here new
leads_on file here old new round at step =
    let same : step.from ≡ here = same_place step.from here old.there step.there at.there in
    record {
      to = step.to;
      at = record {
        of_file = ap (λ (play : Underway). play.file) step.after ∙ at.of_file;
        there = ap (λ (play : Underway). play.there) step.after;
      };
      played = subst (λ (f : List ℕ). IsRound f here step.to) at.of_file
          (subst (λ (from : Between). IsRound old.file from step.to) same step.played);
    }

-- a step that is broken off, where play was not, breaks off the round that comes next
pub breaks_off : (file : List ℕ) (here : Between) (old new : Underway) (fault : PlayFault) →
    IsAt file here old
    → BreaksOff old fault new → (new.there ≡ Err fault) × (goes_on file here.next ≡ true)
breaks_off file here old new fault at (inl before) = let there = at.there in absurd (cc)
breaks_off file here old new fault at (inr now) =
    let same : now.1.from ≡ here = same_place now.1.from here old.there now.1.there at.there in (
      ap (λ (play : Underway). play.there) now.2,
      subst (λ (f : List ℕ). goes_on f here.next ≡ true) at.of_file
          (subst (λ (b : Between). goes_on old.file b.next ≡ true) same
          (on old.file now.1.from now.0 now.1.to_play)),
    )

-- a step that returns why play stopped says of which game
pub stops_here : (file : List ℕ) (here : Between) (old new : Underway) (end : End) (game : Game) →
    IsAt file here old
    → Stays old end new → game_so_far new ≡ Some game
    → PlayStops file here (record { file = file; game = game; end = end })
stops_here file here old new end game at stays so_far =
    let same : stays.over.last ≡ here = same_place stays.over.last here old.there stays.over.there
    at.there in
    let there : Some here.game ≡ Some game = sym (ap game_so_far stays.after ∙ ap game_there
    at.there) ∙ so_far in
    let why : Some end ≡ Some (end_of here.next here.game.events) = stays.why ∙ ap end_there
    at.there in
    let is_game : game ≡ here.game = cc in
    let is_end : end ≡ end_of here.next here.game.events = cc in
    record {
      stopped = subst (λ (f : List ℕ). goes_on f here.next ≡ false) at.of_file
          (subst (λ (b : Between). goes_on old.file b.next ≡ false) same stays.over.stopped);
      game = λ i. record { file = file; game = is_game i; end = is_end i };
    }

-- the calls of a step from the place where play is
from_here : (file : List ℕ) (here : Between) (to : Result Between PlayFault) (old new : Underway)
    (calls : List Call) → IsAt file here old → new.there ≡ to → StepCalls old new calls
    → CallsBetween file (Ok here) to calls
from_here file here to old new calls at there its = rw (at.of_file, at.there, there) at its

-- where a round can be played they are those of the round
of_round : (file : List ℕ) (here : Between) (to : Result Between PlayFault) (calls : List Call)
    → goes_on file here.next ≡ true → CallsBetween file (Ok here) to calls → RoundCalls file here to
    calls
of_round file here to calls goes (inl course) = course.1
of_round file here to calls goes (inr none) = absurd (true≢false (sym goes ∙ none.0))

pub step_calls : (file : List ℕ) (here : Between) (to : Result Between PlayFault)
    (old new : Underway)
    (calls : List Call) → IsAt file here old → new.there ≡ to → goes_on file here.next ≡ true
    → StepCalls old new calls → RoundCalls file here to calls
step_calls file here to old new calls at there goes its =
    of_round file here to calls goes (from_here file here to old new calls at there its)

-- where none can be there are none
no_calls : (file : List ℕ) (here : Between) (to : Result Between PlayFault) (calls : List Call)
    → goes_on file here.next ≡ false → CallsBetween file (Ok here) to calls → calls ≡ []
no_calls file here to calls stopped (inl course) = absurd (true≢false (sym course.0 ∙ stopped))
no_calls file here to calls stopped (inr none) = none.1

module _ {Runner : Type 0} (earns : Earns Runner) where
  -- so it is with what they make of a runner
  pub called_between :
      (file : List ℕ) (here : Between) (to : Result Between PlayFault) (old new : Underway) (before after : Runner)
      → IsAt file here old → new.there ≡ to → goes_on file here.next ≡ true
      → Makes earns before (StepCalls old new) after → Makes earns before (RoundCalls file here to)
      after
  called_between file here to old new before after at there goes made =
      (made.0, step_calls file here to old new made.0 at there goes made.1, made.2)

  pub silent_stop :
      (file : List ℕ) (here : Between) (old new : Underway) (before after : Runner) → IsAt file here
      old
      → goes_on file here.next ≡ false → Makes earns before (StepCalls old new) after → after ≡
      before
  silent_stop file here old new before after at stopped made =
      let none : made.0 ≡ [] = no_calls file here new.there made.0 stopped
      (from_here file here new.there old new made.0 at refl made.1) in
      subst (λ (all : List Call). AreMade earns before all after) none made.2

-- at first a play is before its first round
pub begins : (file : List ℕ) (play : Underway) → play ≡ started file → IsAt file (before_play file)
    play
begins file play is =
    record {
      of_file = ap (λ (it : Underway). it.file) is;
      there = ap (λ (it : Underway). it.there) is;
    }

-- where play is at a place, no fault has broken it off, and its own place is that one
no_fault : (fault : Option PlayFault) (here at : Between) → there_unless fault here ≡ Ok at
    → (fault ≡ None) × (here ≡ at)
no_fault fault here at is = grind arith

-- a play by its fields: its file, its fault, its place, its last round and its outcome
pub record Fields : Type 0 where
  pub file : List ℕ
  pub fault : Option PlayFault
  pub here : Between
  pub last : Option Round
  pub outcome : Option End

-- as a contract sees it
abbrev pub seen : Fields → Underway
seen of = record {
  file = of.file;
  there = there_unless of.fault of.here;
  last_round = of.last;
  outcome = of.outcome;
}

-- the round is the next of a play with these fields
pub record IsUpcoming (of : Fields) (play : Underway) (round : Round) : Type 0 where
  pub is : seen of ≡ play
  pub none : of.fault ≡ None
  pub come : HasComeTo of.file of.here
  pub to_play : IsToPlay of.file of.here.next round

pub upcoming :
    (of : Fields) (play : Underway) (round : Round) → seen of ≡ play → ComesNext play round
    → (of.fault ≡ None → HasComeTo of.file of.here) → IsUpcoming of play round
upcoming of play round is comes holds =
    let next : ComesNext (seen of) round = subst (λ (at : Underway). ComesNext at round) (sym is)
    comes in
    let at = no_fault of.fault of.here next.from next.there in
    record {
      is = is;
      none = at.0;
      come = holds at.0;
      to_play = subst (λ (b : Between). IsToPlay of.file b.next round) (sym at.1) next.to_play;
    }

-- where there is no fault, the round that is to be played comes next, and where none is, play is over
pub comes_next : (of : Fields) (play : Underway) (round : Round) → seen of ≡ play → of.fault ≡ None
    → IsToPlay of.file of.here.next round → ComesNext play round
comes_next of play round is none to_play =
    subst (λ (at : Underway). ComesNext at round) is
    (record {
      from = of.here;
      there = ap (λ (f : Option PlayFault). there_unless f of.here) none;
      to_play = to_play;
    })

pub is_over : (of : Fields) (play : Underway) → seen of ≡ play → of.fault ≡ None
    → goes_on of.file of.here.next ≡ false → IsOver play
is_over of play is none stopped =
    subst IsOver is
    (record {
      last = of.here;
      there = ap (λ (f : Option PlayFault). there_unless f of.here) none;
      stopped = stopped;
    })

-- before the first round
pub come_first :
    (file : List ℕ) (here : Between) → before_play file ≡ here → 3 ≤ length (players_of file) → IsSound here.game →
    GiftsWait (Opening 1) here.game.events → HasComeTo file here
come_first file here first players sound gifts =
    record {
      rounds = zero;
      reached = first;
      players = players;
      sound = sound;
      seats = ap (λ (at : Between). at.game.seats) (sym first);
      gifts =
          λ round comes.
          subst (λ (at : Round). GiftsWait at here.game.events)
          (comes_once (Opening 1) round (ap (λ (at : Between). at.next) first ∙ comes)) gifts;
    }

module _ (of : Fields) (play : Underway) (round : Round) (at : IsUpcoming of play round) where
  -- a file that is played has players
  some_play : 0 < length (players_of of.file)
  some_play = let players = at.come.players in omega (arith, players)

  -- a round that is to be played is numbered within the limit, and is within its set
  pub is_numbered : SheetsAreNumbered → number_of round ≤ number_most
  is_numbered numbered = posted_small numbered of.file round some_play at.to_play.posted

  pub is_in_set : IsInSet round of.here.in_set
  is_in_set = comes_in_set of.file at.come.rounds of.here at.come.reached round at.to_play.comes

  -- the calls of its round are those of a step to there
  pub calls_seen :
      {Runner : Type 0} (earns : Earns Runner) (to : Result Between PlayFault) (before after :
      Runner) →
      Makes earns before (RoundCalls of.file of.here to) after →
      Makes earns before (CallsBetween play.file play.there to) after
  calls_seen earns to before after made =
      subst (λ (it : Underway). Makes earns before (CallsBetween it.file it.there to) after) at.is
      (subst (λ (f : Option PlayFault). Makes earns before (CallsBetween of.file (there_unless f
      of.here) to) after)
      (sym at.none) (made.0, inl (on of.file of.here round at.to_play, made.1), made.2))

  module _ (game : Game) (in_set : ℕ) (upcoming : Next)
      (is_played : IsPlayed of.file round of.here.game game) (comes : upcoming ≡ coming round
      of.here.in_set game.events)
      (counted : in_set ≡ in_set_before upcoming game.events of.here.in_set) where
    -- once it was played, play is there
    abbrev there : Between
    there = record { game = game; in_set = in_set; next = upcoming }

    abbrev pub played : IsRound of.file of.here there
    played = record {
      round = round;
      comes = at.to_play.comes;
      posted = at.to_play.posted;
      played = is_played;
      next_then = comes;
      in_set_then = counted;
    }

    -- it has come that much further
    pub come_on : IsSound game → game.seats ≡ of.here.game.seats → GiftsWait round game.events
        → HasComeTo of.file there
    come_on sound seats gifts =
        record {
          rounds = suc at.come.rounds;
          reached = (of.here, at.come.reached, played);
          players = at.come.players;
          sound = sound;
          seats = seats ∙ at.come.seats;
          gifts =
              λ later is_next.
              gifts_go_on round later of.here.in_set (all_sold game.events) (broken_in game.events)
              game.events gifts
              (follows of.file of.here there later played is_next);
        }

    -- a step has played it
    pub plays_next : PlaysNext play round
        (record {
          file = of.file;
          there = there_unless of.fault there;
          last_round = Some round;
          outcome = of.outcome;
        })
    plays_next =
        subst (λ (it : Underway). PlaysNext it round (record {
          file = of.file;
          there = there_unless of.fault there;
          last_round = Some round;
          outcome = of.outcome;
        })) at.is
        (record {
          from = of.here;
          to = there;
          there = ap (λ (f : Option PlayFault). there_unless f of.here) at.none;
          played = played;
          is_round = refl;
          after = ap (λ (f : Option PlayFault). record {
            file = of.file;
            there = there_unless f there;
            last_round = Some round;
            outcome = of.outcome;
          }) at.none;
        })

    -- and fewer places are left
    pub comes_nearer : SheetsAreNumbered → places_there (there_unless of.fault there) < places_ahead
        play
    comes_nearer numbered =
        let fewer = fewer_to_come numbered of.file of.here there some_play
        (comes_in_set of.file at.come.rounds of.here at.come.reached) played in
        subst (λ (it : Underway). places_there (there_unless of.fault there) < places_ahead it)
        at.is
        (subst (λ (f : Option PlayFault). places_there (there_unless f there) < places_there
        (there_unless f of.here))
        (sym at.none) fewer)

-- where steps have led from the start of a file, this many of its rounds were played
pub record Reached (file : List ℕ) (steps : ℕ) (play : Underway) : Type 0 where
  pub here : Between
  pub at : IsAt file here play
  pub rounds : AreRounds file steps (before_play file) here

-- so it is after each number of steps
pub steps_reach : (file : List ℕ) (steps : ℕ) (play : Underway) → StepsPlay steps (started file) play
    → Reached file steps play
steps_reach file zero play stepped =
    record { here = before_play file; at = begins file play stepped; rounds = refl }
steps_reach file (suc steps) play stepped =
    let reached = steps_reach file steps stepped.0 stepped.1 in
    let on = leads_on file reached.here stepped.0 play stepped.2 reached.at stepped.3 in
    record { here = on.to; at = on.at; rounds = (reached.here, reached.rounds, on.played) }

-- so steps play the game of the file
pub steps_play : OneOpeningRound → OneStockRound → OneOperatingRound → SomeGame → StepsPlayTheGame
steps_play one_opening one_stock one_operating some file steps play accepted stepped =
    let reached = steps_reach file steps play stepped in
    let game = some file accepted in
    let on = on_the_way one_opening one_stock one_operating file steps game.1.rounds (before_play
    file) reached.here
    game.0 reached.rounds game.1.reached game.1.stopped in (
      reached.here,
      reached.at.there,
      record
          { reached = reached.rounds; later = on.0; last = game.0; ahead = on.1; plays = game.1 },
    )

-- where steps have led, with their calls: what follows the calls from there on makes the calls of a
-- game with them
record HasCome (file : List ℕ) (play : Underway) (calls : List Call) : Type 0 where
  here : Between
  at : IsAt file here play
  on :
      (outcome : Result Played PlayFault) (later : List Call)
      → SomeTimesThen (RoundCalls file) (Unasked Memory (PlayStops file)) here outcome later →
      GameCalls file outcome (calls ++ later)

-- so it is after each number of steps
has_come : (steps : ℕ) (file : List ℕ) (play : Underway) (calls : List Call) → StepsCall steps file play calls
    → HasCome file play calls
has_come zero file play calls called =
    record {
      here = before_play file;
      at = begins file play called.0;
      on = λ outcome later course.
          subst (λ (all : List Call). GameCalls file outcome (all ++ later)) (sym called.1) course;
    }
has_come (suc steps) file play calls called =
    let mid : Underway = called.0 in
    let before : List Call = called.1 in
    let its : List Call = called.5 in
    let so_far = has_come steps file mid before called.2 in
    let on = leads_on file so_far.here mid play called.3 so_far.at called.4 in
    let course = step_calls file so_far.here (Ok on.to) mid play its so_far.at on.at.there
    (was_on file so_far.here on.to on.played) called.6 in
    record {
      here = on.to;
      at = on.at;
      on =
          λ outcome later rest.
          subst (GameCalls file outcome)
          (sym (append_assoc before its later) ∙ ap (λ (all : List Call). all ++ later)
          (sym called.7))
          (so_far.on outcome (its ++ later) (
            suc rest.0,
            inr (record {
              between = on.to;
              earlier = its;
              later = later;
              leads = course;
              goes_on = rest.1;
              all = refl;
            }),
          ));
    }

-- once play has stopped
pub call_the_game : StepsCallTheGame
call_the_game file steps last ended end calls called stays =
    let so_far = has_come steps file last calls called in
    let played : Played = record { file = file; game = so_far.here.game; end = end } in
    let stops : PlayStops file so_far.here played =
    stops_here file so_far.here last ended end so_far.here.game so_far.at stays
    (ap (λ (at : Underway). game_so_far at) stays.after ∙ ap game_there so_far.at.there)
    in (
      played,
      subst (GameCalls file (Ok played)) (append-nil calls) (so_far.on (Ok played) []
          (zero, (stops, refl))),
    )

-- and where it was broken off
pub broken_steps : BrokenStepsCallABrokenGame
broken_steps file steps last broken fault calls its called breaks made =
    let so_far = has_come steps file last calls called in
    let off = breaks_off file so_far.here last broken fault so_far.at breaks in
    so_far.on (Err fault) its
    (1, inl (step_calls file so_far.here (Err fault) last broken its so_far.at off.0 off.1 made))
