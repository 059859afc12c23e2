-- Which rounds a play has played so far: once no round can be played next, these are all that the game
-- of its file has.
use Rattle.std.proofs.Common.{◌≡◌, ℕ, Bool, true, false, List, [], ◌∷◌, Ok, Option, Some, None, is_some, refl, sym, ap, subst}
use Rattle.std.proofs.Common.{◌∙◌, ◌||◌, true≢false}
use Rattle.std.proofs.Math.Bool.{or-true}
use Rattle.std.proofs.lemmas.Bool.{or_parts}
use Rattle.std.proofs.lemmas.List.Folds.{list_any-append}
use Rattle.std.specs.List.{list_any}
use Rattle.std.specs.Option.{option_or}
use Rattle.desk_base.proofs.MomentLemmas.{same_round_is, same_round_self}
use Rattle.desk_base.specs.Moments.{IsBefore, IsBehind, IsFromStart, StandsIn, is_awaited, is_last}
use Rattle.desk_base.specs.Played.{IsMomentFault, IsNotPlayedIn, IsPlayedIn, IsRoundFault, ShowsNone, begins}
use Rattle.desk_base.specs.Played.{is_played, is_round, round_asked, was_played}
use Rattle.desk_base.specs.Refusal.{HasNone}
use Rattle.desk_base.specs.declared.between_rounds.Moment.{Moment}
use Rattle.desk_base.specs.declared.between_rounds.Moment.TheVariants.{After, Before, BeforeLast}
use Rattle.desk_base.specs.declared.between_rounds.Stood.{Stood}
use Rattle.desk_base.specs.declared.fault.DeskFault.{DeskFault}
use Rattle.desk_base.specs.declared.fault.DeskFault.TheVariants as desk
use Rattle.events.specs.Event.{round_begun_by}
use Rattle.events.specs.declared.event.Event.{Event}
use Rattle.events.specs.declared.event.Event.TheVariants as event
use Rattle.operating.specs.Laws.{BeginsNoRound}
use Rattle.rounds.proofs.StepByStep.{same_place, steps_reach}
use Rattle.rounds.specs.Begun.{RoundsOnlyAdd}
use Rattle.rounds.specs.Play.{Between, IsTheGame, OneGame, Played, Plays, before_play, end_of, goes_on}
use Rattle.rounds.specs.Steps.{ComesNext, PlaysNext, Stays, Underway, game_so_far, game_there, started}
use Rattle.rounds.specs.declared.following.Next.{Next}
use Rattle.rounds.specs.declared.game.End.{End}
use Rattle.rounds.specs.declared.game.End.TheVariants.{Awaiting}
use Rattle.sheets.specs.File.{all_posted}
use Rattle.tables.specs.Round.{same_round}
use Rattle.tables.specs.declared.round.Round.{Round}
use Rattle.totals.specs.LookBack.{Game, round_of}

-- a play has not played a round so far
abbrev pub HasNotPlayed : Underway → Round → Type 0
HasNotPlayed play asked = (there : Between) → play.there ≡ Ok there → was_played there.game.events asked ≡ false

-- nothing is not this round
none_is_not : (asked : Round) (begun : Option Round) → is_some begun ≡ false → is_round asked begun ≡ false
none_is_not asked None none = refl
none_is_not asked (Some round) none = absurd (true≢false none)

-- events that begin no round do not begin this one
begins_not : (asked : Round) (events : List Event) → BeginsNoRound events → was_played events asked ≡ false
begins_not asked [] none = refl
begins_not asked (first ∷ events) none =
    let parts = or_parts (is_some (round_begun_by first)) (list_any (λ its. is_some (round_begun_by its)) events) none in
    ap (λ (it : Bool). it || was_played events asked) (none_is_not asked (round_begun_by first) parts.0)
    ∙ begins_not asked events parts.1

-- none was played before the first step
pub none_at_first : (file : List ℕ) (asked : Round) (play : Underway) → play ≡ started file → HasNotPlayed play asked
none_at_first file asked play is there at =
    let first : before_play file ≡ there =
    same_place (before_play file) there play.there (ap (λ (it : Underway). it.there) is) at in
    subst (λ (it : Between). was_played it.game.events asked ≡ false) first refl

-- a step that plays another round leaves it so
pub none_one_step_on : RoundsOnlyAdd → (asked round : Round) (old new : Underway) → HasNotPlayed old asked
    → PlaysNext old round new → same_round round asked ≡ false → HasNotPlayed new asked
none_one_step_on adds asked round old new none step other there at =
    let to : step.to ≡ there = same_place step.to there new.there (ap (λ (it : Underway). it.there) step.after) at in
    let grows = adds old.file step.from step.to step.played in
    let before : was_played step.from.game.events asked ≡ false = none step.from step.there in
    let its : same_round step.played.round asked ≡ false =
    ap (λ (it : Round). same_round it asked) step.is_round ∙ other in
    let after : was_played step.to.game.events asked ≡ false =
    ap (λ game. was_played game.events asked) grows.added
    ∙ list_any-append (begins asked) step.from.game.events (event.Round step.played.round ∷ grows.more)
    ∙ ap (λ (it : Bool). it || (same_round step.played.round asked || was_played grows.more asked)) before
    ∙ ap (λ (it : Bool). it || was_played grows.more asked) its
    ∙ begins_not asked grows.more grows.no_round in
    subst (λ (it : Between). was_played it.game.events asked ≡ false) to after

-- the round that was played last is another
pub last_is_other : (round asked : Round) (last : Option Round) → last ≡ Some round → is_last last asked ≡ false
    → same_round round asked ≡ false
last_is_other round asked last is other = sym (ap (λ (it : Option Round). is_last it asked) is) ∙ other

-- a step plays no round that did not come next
other_if : (asked round : Round) (old new : Underway) → PlaysNext old round new → (ComesNext old asked → ⊥)
    → (same : Bool) → same_round round asked ≡ same → same_round round asked ≡ false
other_if asked round old new step not_next false is = is
other_if asked round old new step not_next true is =
    let its : step.played.round ≡ asked = step.is_round ∙ same_round_is round asked is in
    absurd (not_next (subst (ComesNext old) its (record {
      from = step.from;
      there = step.there;
      to_play = record { comes = step.played.comes; posted = step.played.posted };
    })))

pub next_is_other : (asked round : Round) (old new : Underway) → PlaysNext old round new → (ComesNext old asked → ⊥)
    → same_round round asked ≡ false
next_is_other asked round old new step not_next =
    other_if asked round old new step not_next (same_round round asked) refl

-- where no round can be played next, the game of the file did not play it
pub not_played_at_end : (file : List ℕ) (asked : Round) (end : End) (play new : Underway) → play.file ≡ file
    → IsFromStart file play → HasNotPlayed play asked → Stays play end new → IsNotPlayedIn file (Some asked)
not_played_at_end file asked end play new file_is from_start none stays =
    let reached = steps_reach file from_start.rounds play from_start.steps in
    let over = stays.over in
    let last : over.last ≡ reached.here = same_place over.last reached.here play.there over.there reached.at.there in
    let here : Between = reached.here in
    record {
      played = record { file = file; game = here.game; end = end_of here.next here.game.events };
      of_file = record {
        of_file = refl;
        game = record {
          last = here;
          plays = record {
            rounds = from_start.rounds;
            reached = reached.rounds;
            stopped =
                subst (λ (its : List ℕ). goes_on its here.next ≡ false) file_is
                (subst (λ (it : Between). goes_on play.file it.next ≡ false) last over.stopped);
          };
          game = refl;
          end = refl;
        };
      };
      none = none here reached.at.there;
    }

-- a play that stands somewhere shows its game
shows : (play : Underway) (there : Between) (fault : DeskFault) → play.there ≡ Ok there → ShowsNone play fault
    → fault ≡ desk.Memory
shows play there desk.Memory at none = refl
shows play there (desk.File fault) at none = absurd none
shows play there desk.Round at none =
    let so_far : game_so_far play ≡ Some there.game = ap game_there at in
    absurd (cc)

-- one behind a round shows it, and so does one before a round
pub shows_behind : (file : List ℕ) (asked : Round) (play : Underway) (fault : DeskFault) → IsBehind file asked play
    → ShowsNone play fault → IsRoundFault file (Some asked) fault
shows_behind file asked play fault behind none =
    subst (IsRoundFault file (Some asked)) (sym (shows play behind.there fault behind.at none)) tt

pub shows_before : (file : List ℕ) (asked : Round) (play : Underway) (fault : DeskFault) → IsBefore file asked play
    → ShowsNone play fault → IsRoundFault file (Some asked) fault
shows_before file asked play fault before none =
    subst (IsRoundFault file (Some asked)) (sym (shows play before.next.from fault before.next.there none)) tt

-- no round comes next where a state of the play shows that another is awaited, or none
pub not_awaited : (play : Underway) (stood : Stood) (asked : Round) → StandsIn play stood
    → is_awaited stood.end asked ≡ false → IsFromStart play.file play → ComesNext play asked → ⊥
not_awaited play stood asked shown other from_start comes =
    let there = shown.there comes.from comes.there from_start in
    let its : stood.end ≡ Awaiting asked =
    there.end ∙ ap (λ (upcoming : Next). end_of upcoming comes.from.game.events) comes.to_play.comes in
    true≢false (sym (ap (λ (end : End). is_awaited end asked) its ∙ same_round_self asked) ∙ other)

-- nor where a seat has no sheet for it
pub not_posted : (play : Underway) (asked : Round) → all_posted play.file asked ≡ false → ComesNext play asked → ⊥
not_posted play asked none comes = true≢false (sym comes.to_play.posted ∙ none)

-- nor where a play shows no game
pub not_shown : (play : Underway) (asked : Round) → game_so_far play ≡ None → ComesNext play asked → ⊥
not_shown play asked none comes =
    let so_far : game_so_far play ≡ Some comes.from.game = ap game_there comes.there in
    cc

-- a file without sheets has no round, and no moment
pub no_round_where_it_fails : (fault : DeskFault) (asked : Option Round) (file : List ℕ) → HasNone fault file
    → IsRoundFault file asked fault
no_round_where_it_fails desk.Round asked file none = absurd none
no_round_where_it_fails desk.Memory asked file none = none
no_round_where_it_fails (desk.File fault) asked file none = none

pub no_moment_where_it_fails : (fault : DeskFault) (moment : Moment) (file : List ℕ) → HasNone fault file
    → IsMomentFault file moment fault
no_moment_where_it_fails desk.Round moment file none = absurd none
no_moment_where_it_fails desk.Memory moment file none = none
no_moment_where_it_fails (desk.File fault) moment file none = none

-- nor has a game one after or before a round that it does not play
pub no_moment_behind : (fault : DeskFault) (round : Round) (file : List ℕ) → IsRoundFault file (Some round) fault
    → IsMomentFault file (After round) fault
no_moment_behind desk.Round round file none = none
no_moment_behind desk.Memory round file none = none
no_moment_behind (desk.File fault) round file none = none

pub no_moment_before : (fault : DeskFault) (round : Round) (file : List ℕ) → IsRoundFault file (Some round) fault
    → IsMomentFault file (Before round) fault
no_moment_before desk.Round round file none = none
no_moment_before desk.Memory round file none = none
no_moment_before (desk.File fault) round file none = none

-- nor one before the last, if it plays none
pub no_moment_before_any : (fault : DeskFault) (file : List ℕ) → IsRoundFault file None fault
    → IsMomentFault file BeforeLast fault
no_moment_before_any desk.Round file none = none
no_moment_before_any desk.Memory file none = none
no_moment_before_any (desk.File fault) file none = none

-- the one game of a file has played a round or not
not_both : OneGame → (file : List ℕ) (round : Round) → IsPlayedIn file round → IsNotPlayedIn file (Some round) → ⊥
not_both one file round is not =
    let a = is.of_file.game in
    let b = not.of_file.game in
    let same : a.last ≡ b.last =
    one file a.last b.last (subst (λ (its : List ℕ). Plays its a.last) is.of_file.of_file a.plays)
    (subst (λ (its : List ℕ). Plays its b.last) not.of_file.of_file b.plays) in
    let game : is.played.game ≡ not.played.game = a.game ∙ ap (λ (it : Between). it.game) same ∙ sym b.game in
    true≢false (sym is.is ∙ ap (λ (its : Game). was_played its.events round) game ∙ not.none)

-- so there is always a moment before a round that it plays
pub no_moment_before_last : OneGame → (fault : DeskFault) (round : Round) (file : List ℕ) → IsPlayedIn file round
    → IsRoundFault file (Some round) fault → IsMomentFault file BeforeLast fault
no_moment_before_last one desk.Round round file is none = absurd (not_both one file round is none)
no_moment_before_last one desk.Memory round file is none = none
no_moment_before_last one (desk.File fault) round file is none = none

-- the last round that began was played
last_of : (first : Event) (events : List Event) (round : Round) (later : Option Round)
    → ((it : Round) → round_of events ≡ Some it → was_played events it ≡ true) → round_of events ≡ later
    → option_or (round_of events) (round_begun_by first) ≡ Some round → was_played (first ∷ events) round ≡ true
last_of first events round None begun none is =
    let its : round_begun_by first ≡ Some round =
    sym (ap (λ (it : Option Round). option_or it (round_begun_by first)) none) ∙ is in
    ap (λ (it : Option Round). is_round round it || was_played events round) its
    ∙ ap (λ (it : Bool). it || was_played events round) (same_round_self round)
last_of first events round (Some later) begun some is =
    let its : Some later ≡ Some round =
    sym (ap (λ (it : Option Round). option_or it (round_begun_by first)) some) ∙ is in
    let played : was_played events round ≡ true = begun round (some ∙ its) in
    ap (λ (it : Bool). is_round round (round_begun_by first) || it) played ∙ or-true (is_round round (round_begun_by first))

pub last_begun : (events : List Event) (round : Round) → round_of events ≡ Some round → was_played events round ≡ true
last_begun [] round is = absurd (cc)
last_begun (first ∷ events) round is = last_of first events round (round_of events) (last_begun events) refl is

-- and where none began, none was
pub none_was_played : (played : Played) (file : List ℕ) → played.file ≡ file → IsTheGame played
    → round_of played.game.events ≡ None → IsNotPlayedIn file None
none_was_played played file of_file game none =
    record {
      played = played;
      of_file = record { of_file = of_file; game = game };
      none = ap (is_played played.game.events) none;
    }

-- the round that is asked for was not played, or there is none to be asked for
pub round_was_not_played : (played : Played) (file : List ℕ) (asked : Option Round) → played.file ≡ file
    → IsTheGame played → is_played played.game.events (round_asked played asked) ≡ false → IsNotPlayedIn file asked
round_was_not_played played file asked of_file game none =
    record { played = played; of_file = record { of_file = of_file; game = game }; none = none }

-- the last round that began was played, so there are turns of it
pub has_turns : (events : List Event) (round : Round) → round_of events ≡ Some round → was_played events round ≡ false → ⊥
has_turns events round last none = true≢false (sym (last_begun events round last) ∙ none)
