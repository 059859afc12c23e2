-- Where a position is: the place in the game of a file that a play has come to, or at which the game stopped.
use Rattle.std.proofs.Common.{◌≡◌, ◌++◌, ◌∷◌, [], List, ℕ, Err, Ok, Option, Some, None, is_some, false, refl, sym, ap, subst}
use Rattle.std.proofs.Common.{◌∙◌, true≢false}
use Rattle.std.proofs.lemmas.Bool.{or_parts}
use Rattle.std.specs.List.{list_any}
use Rattle.std.specs.Option.{option_or}
use Rattle.std.specs.Prelude.{IsOk, Result}
use Rattle.desk_base.proofs.PlayedLemmas.{last_begun, no_moment_before_last as none_before_last}
use Rattle.desk_base.proofs.PlayedLemmas.{none_was_played, shows_behind, shows_before, no_moment_behind, no_moment_before}
use Rattle.desk_base.specs.Moments.{IsAfterRound, IsBefore, IsBehind, IsFromStart, StandsIn}
use Rattle.desk_base.specs.Played.{IsMomentFault, IsRoundFault, ShowsNone, moment_after}
use Rattle.desk_base.specs.Positions.{IsAt, IsLastRound, IsPlayedRound, StandsAt}
use Rattle.desk_base.specs.SetNumber.{IsNumberPlayed}
use Rattle.desk_base.specs.declared.between_rounds.Moment.TheVariants.{Last, After, Before, BeforeLast}
use Rattle.desk_base.specs.declared.between_rounds.Stood.{Stood}
use Rattle.desk_base.specs.declared.fault.DeskFault.{DeskFault}
use Rattle.desk_base.specs.declared.fault.DeskFault.TheVariants as desk
use Rattle.desk_base.specs.declared.positions.PlayedRound.{PlayedRound}
use Rattle.desk_base.specs.declared.positions.Position.{Position}
use Rattle.events.specs.Event.{round_begun_by}
use Rattle.events.specs.declared.event.Event.{Event}
use Rattle.events.specs.declared.event.Event.TheVariants as event
use Rattle.operating.specs.Laws.{BeginsNoRound}
use Rattle.rounds.proofs.StepByStep.{same_place, steps_reach}
use Rattle.rounds.specs.Begun.{RoundsOnlyAdd}
use Rattle.rounds.specs.Play.{AreRounds, Between, IsTheGame, IsToPlay, OneGame, Played, Plays, before_play, end_of}
use Rattle.rounds.specs.Steps.{Underway, game_so_far, game_there}
use Rattle.rounds.specs.declared.fault.PlayFault.{PlayFault}
use Rattle.tables.specs.declared.round.Round.{Round}
use Rattle.totals.specs.LookBack.{Game, round_of}

-- a play that shows a game is not broken off
is_ok_there : (there : Result Between PlayFault) (game : Game) → game_there there ≡ Some game → IsOk there
is_ok_there (Ok there) game shown = refl
is_ok_there (Err fault) game shown = absurd (cc)

pub unbroken : (play : Underway) (stood : Stood) → StandsIn play stood → IsOk play.there
unbroken play stood shows = is_ok_there play.there stood.history.now shows.game

-- a position that a state of a play shows stands where the play is
pub stands_at : (play : Underway) (stood : Stood) (position : Position) → StandsIn play stood
    → game_so_far play ≡ Some position.history → position.end ≡ stood.end → position.in_set ≡ stood.in_set
    → position.sheets.now ≡ play.file → StandsAt play position
stands_at play stood position shows game end in_set sheets =
    record {
      sheets = sheets;
      place =
          λ there at from_start.
          let its = shows.there there at from_start in
          let so_far : Some there.game ≡ Some position.history = sym (ap game_there at) ∙ game in
          let is_game : position.history ≡ there.game = cc in
          record { game = is_game; end = end ∙ its.end; in_set = in_set ∙ its.in_set };
    }

-- the position after the last round: the game has stopped there
pub is_at_last : (file : List ℕ) (played : Played) (position : Position) → played.file ≡ file
    → IsNumberPlayed played position.in_set → position.history ≡ played.game → position.end ≡ played.end
    → position.sheets.now ≡ file → IsAt file Last position
is_at_last file played position file_is number game end sheets =
    record {
      sheets = sheets;
      there = number.last;
      at = subst (λ (its : List ℕ). Plays its number.last) file_is number.stopped.plays;
      place = record {
        game = game ∙ number.stopped.game;
        end = end ∙ number.stopped.end;
        in_set = number.number;
      };
    }

-- the position of a play behind a round
pub is_at_after : (file : List ℕ) (round : Round) (play : Underway) (position : Position) → IsBehind file round play
    → StandsAt play position → IsAt file (After round) position
is_at_after file round play position behind stands =
    record {
      sheets = stands.sheets ∙ behind.file_is;
      there = behind.there;
      at = behind.after;
      place =
          stands.place behind.there behind.at
          (subst (λ (its : List ℕ). IsFromStart its play) (sym behind.file_is) behind.from_start);
    }

-- and of one before a round
pub is_at_before : (file : List ℕ) (round : Round) (play : Underway) (position : Position) → IsBefore file round play
    → StandsAt play position → IsAt file (Before round) position
is_at_before file round play position before stands =
    let here : Between = before.next.from in
    let reached = steps_reach file before.from_start.rounds play before.from_start.steps in
    let same : reached.here ≡ here = same_place reached.here here play.there reached.at.there before.next.there in
    record {
      sheets = stands.sheets ∙ before.file_is;
      there = here;
      at = record {
        rounds = before.from_start.rounds;
        reached =
            subst (λ (its : Between). AreRounds file before.from_start.rounds (before_play file) its) same reached.rounds;
        to_play = subst (λ (its : List ℕ). IsToPlay its here.next round) before.file_is before.next.to_play;
      };
      place =
          stands.place here before.next.there
          (subst (λ (its : List ℕ). IsFromStart its play) (sym before.file_is) before.from_start);
    }

-- so a play that was played behind a round, or before one, has a position
pub shown_after : (file : List ℕ) (round : Round) (play : Underway) (fault : DeskFault) → IsBehind file round play
    → ShowsNone play fault → IsMomentFault file (After round) fault
shown_after file round play fault behind none =
    no_moment_behind fault round file (shows_behind file round play fault behind none)

pub shown_before : (file : List ℕ) (round : Round) (play : Underway) (fault : DeskFault) → IsBefore file round play
    → ShowsNone play fault → IsMomentFault file (Before round) fault
shown_before file round play fault before none =
    no_moment_before fault round file (shows_before file round play fault before none)

-- the round that began last in the game of a file is its last
pub is_last_round : (file : List ℕ) (played : Played) (round : Round) → played.file ≡ file → IsTheGame played
    → round_of played.game.events ≡ Some round → IsLastRound file round
is_last_round file played round of_file game last =
    record { played = played; of_file = record { of_file = of_file; game = game }; last = last }

-- before it is before the last round
pub is_at_before_last : (file : List ℕ) (round : Round) (position : Position) → IsLastRound file round
    → IsAt file (Before round) position → IsAt file BeforeLast position
is_at_before_last file round position last at =
    record {
      sheets = at.sheets;
      there = at.there;
      at = record { round = round; last = last; before = at.at };
      place = at.place;
    }

-- a game has a moment before the last round that it plays
pub no_moment_before_last : OneGame → (fault : DeskFault) (round : Round) (file : List ℕ) → IsLastRound file round
    → IsMomentFault file (Before round) fault → IsMomentFault file BeforeLast fault
no_moment_before_last one desk.Round round file last none =
    none_before_last one desk.Round round file (record {
      played = last.played;
      of_file = last.of_file;
      is = last_begun last.played.game.events round last.last;
    }) none
no_moment_before_last one desk.Memory round file last none = none
no_moment_before_last one (desk.File fault) round file last none = none

-- nothing is begun where there is nothing
none_begun : (begun : Option Round) → is_some begun ≡ false → begun ≡ None
none_begun None none = refl
none_begun (Some round) none = absurd (true≢false none)

-- events that begin no round leave no last round
no_round_of : (events : List Event) → BeginsNoRound events → round_of events ≡ None
no_round_of [] none = refl
no_round_of (first ∷ events) none =
    let parts = or_parts (is_some (round_begun_by first)) (list_any (λ its. is_some (round_begun_by its)) events) none in
    ap (λ (it : Option Round). option_or it (round_begun_by first)) (no_round_of events parts.1)
    ∙ none_begun (round_begun_by first) parts.0

-- so the last round of a list is the one behind which no other begins
last_round_of : (before more : List Event) (round : Round) → BeginsNoRound more
    → round_of (before ++ event.Round round ∷ more) ≡ Some round
last_round_of [] more round none = ap (λ (it : Option Round). option_or it (Some round)) (no_round_of more none)
last_round_of (first ∷ before) more round none =
    ap (λ (it : Option Round). option_or it (round_begun_by first)) (last_round_of before more round none)

-- after a round it is the last
last_after : RoundsOnlyAdd → (file : List ℕ) (round : Round) (there : Between) → IsAfterRound file round there
    → round_of there.game.events ≡ Some round
last_after adds file round there after =
    let grows = adds file after.before there after.played in
    ap (λ (game : Game). round_of game.events) grows.added
    ∙ last_round_of after.before.game.events grows.more after.played.round grows.no_round
    ∙ ap (λ (its : Round). Some its) after.is_round

-- the last round of the game at the moment after the round that is asked for is this round, or else the last that was played
pub is_played_round : RoundsOnlyAdd → (file : List ℕ) (asked : Option Round) (its : PlayedRound)
    → IsAt file (moment_after asked) its.position → round_of its.position.history.events ≡ Some its.round
    → IsPlayedRound file asked its
is_played_round adds file None its at last = record { at = at; last = last; named = λ round is. absurd (cc) }
is_played_round adds file (Some asked) its at last =
    let there : round_of its.position.history.events ≡ Some asked =
    ap (λ (game : Game). round_of game.events) at.place.game ∙ last_after adds file asked at.there at.at in
    let is : Some its.round ≡ Some asked = sym last ∙ there in
    record { at = at; last = last; named = λ round named. cc }

-- if no round is the last there, the round that is asked for was not played
pub no_round_there : RoundsOnlyAdd → (file : List ℕ) (asked : Option Round) (position : Position)
    → IsAt file (moment_after asked) position → round_of position.history.events ≡ None
    → IsRoundFault file asked desk.Round
no_round_there adds file None position at none =
    let there : Between = at.there in
    none_was_played (record { file = file; game = there.game; end = end_of there.next there.game.events }) file refl
    (record { last = there; plays = at.at; game = refl; end = refl })
    (sym (ap (λ (game : Game). round_of game.events) at.place.game) ∙ none)
no_round_there adds file (Some asked) position at none =
    let there : round_of position.history.events ≡ Some asked =
    ap (λ (game : Game). round_of game.events) at.place.game ∙ last_after adds file asked at.there at.at in
    let is : Some asked ≡ None = sym there ∙ none in
    absurd (cc)

-- where the game has no moment after the round that is asked for, this was not played
pub no_round_at_moment : (fault : DeskFault) (asked : Option Round) (file : List ℕ)
    → IsMomentFault file (moment_after asked) fault → IsRoundFault file asked fault
no_round_at_moment desk.Round None file none = absurd none
no_round_at_moment desk.Round (Some round) file none = none
no_round_at_moment desk.Memory asked file none = none
no_round_at_moment (desk.File fault) asked file none = none
