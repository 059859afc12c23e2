-- Where a play stands that has come from the start of its file: after the round that it played last, before what follows it.
use Rattle.std.proofs.Common.{◌≡◌, ℕ, zero, suc, ◌<◌, ◌≤◌, Bool, true, false, if◌then◌else◌, List, Ok, Option, Some, None, refl, sym, ap, subst}
use Rattle.std.proofs.Common.{◌∙◌, length, arith, true≢false}
use Rattle.std.proofs.lemmas.Bool.{and_parts, eq-eqb, eqb-true}
use Rattle.std.specs.Prelude.{◌==◌, ◌&&◌}
use Rattle.desk_base.proofs.SetLemmas.{keeps_number, number_by_next, number_in_round}
use Rattle.desk_base.specs.Moments.{IsAfterRound, IsBehind, IsFromStart, IsNumbered, ShowsBetween, StandsIn, end_shown}
use Rattle.desk_base.specs.Moments.{is_awaited, is_last}
use Rattle.desk_base.specs.SetNumber.{end_after, number_in_set, set_of}
use Rattle.desk_base.specs.declared.between_rounds.Stood.{Stood}
use Rattle.events.specs.declared.event.Event.{Event}
use Rattle.rounds.proofs.Forward.{posted_small}
use Rattle.rounds.proofs.StepByStep.{same_place, steps_reach}
use Rattle.rounds.specs.Begun.{RoundsOnlyAdd}
use Rattle.rounds.specs.Play.{AreRounds, Between, IsRound, before_play, coming, end_of}
use Rattle.rounds.specs.Steps.{ComesNext, PlaysNext, StepsPlay, Underway, game_so_far, game_there, started}
use Rattle.rounds.specs.declared.following.Next.{Next}
use Rattle.rounds.specs.declared.following.Next.TheVariants as next
use Rattle.rounds.specs.declared.game.End.{End}
use Rattle.rounds.specs.declared.game.End.TheVariants.{Awaiting, Bank, Bankrupt}
use Rattle.sheets.specs.File.{all_posted, players_of}
use Rattle.sheets.specs.Laws.{SheetsAreNumbered}
use Rattle.tables.specs.Round.{same_round}
use Rattle.tables.specs.declared.round.Round.{Round}
use Rattle.tables.specs.declared.round.Round.TheVariants.{Opening, Stock, Operating}
use Rattle.totals.specs.LookBack.{Game, bankrupt_in}

-- two rounds of one kind and number are one
pub same_round_is : (a b : Round) → same_round a b ≡ true → a ≡ b
same_round_is (Opening m) (Opening n) same = ap (λ k. Opening k) (eqb-true m n same)
same_round_is (Opening m) (Stock n) same = absurd (true≢false (sym same))
same_round_is (Opening m) (Operating n k) same = absurd (true≢false (sym same))
same_round_is (Stock m) (Opening n) same = absurd (true≢false (sym same))
same_round_is (Stock m) (Stock n) same = ap (λ k. Stock k) (eqb-true m n same)
same_round_is (Stock m) (Operating n k) same = absurd (true≢false (sym same))
same_round_is (Operating m j) (Opening n) same = absurd (true≢false (sym same))
same_round_is (Operating m j) (Stock n) same = absurd (true≢false (sym same))
same_round_is (Operating m j) (Operating n k) same =
    let parts = and_parts (m == n) (j == k) same in
    let set : m ≡ n = eqb-true m n parts.0 in
    let number : j ≡ k = eqb-true j k parts.1 in
    ap (λ s. Operating s j) set ∙ ap (λ i. Operating n i) number

-- a round is of its own kind and number
pub same_round_self : (round : Round) → same_round round round ≡ true
same_round_self (Opening n) = eq-eqb n n refl
same_round_self (Stock n) = eq-eqb n n refl
same_round_self (Operating n k) =
    ap (λ (it : Bool). it && (k == k)) (eq-eqb n n refl) ∙ eq-eqb k k refl

-- what holds of a play where its steps have led
record HasLed (file : List ℕ) (play : Underway) (here : Between) : Type 0 where
  none : play.outcome ≡ None
  numbered : IsNumbered play.last_round
  end : end_shown None play.last_round here.game.events ≡ end_of here.next here.game.events
  after : (asked : Round) → is_last play.last_round asked ≡ true → IsAfterRound file asked here

-- this round of the file was played between them
abbrev IsRoundOf : List ℕ → Round → Between → Between → Type 0
IsRoundOf file round old new = (played : IsRound file old new) × (played.round ≡ round)

-- what comes after it is what the list of events says
end_behind : RoundsOnlyAdd → (file : List ℕ) (steps : ℕ) (old new : Between) (round : Round)
    → AreRounds file steps (before_play file) old → IsRoundOf file round old new
    → end_after round new.game.events ≡ end_of new.next new.game.events
end_behind adds file steps old new round reached played =
    let events : List Event = new.game.events in
    let number : old.in_set ≡ (set_of events).rounds =
    number_in_round adds file old new (keeps_number adds file steps old reached) played.0 in
    ap (λ (its : Round). end_of (coming its (set_of events).rounds events) events) (sym played.1)
    ∙ ap (λ (in_set : ℕ). end_of (coming played.0.round in_set events) events) (sym number)
    ∙ ap (λ (next : Next). end_of next events) (sym played.0.next_then)

module _ (numbered : SheetsAreNumbered) (adds : RoundsOnlyAdd) (file : List ℕ) (some : 0 < length (players_of file)) where
  -- before the first step
  led_at_first : (play : Underway) → play ≡ started file → HasLed file play (before_play file)
  led_at_first play is =
      subst (λ (at : Underway). HasLed file at (before_play file)) (sym is) (record {
        none = refl;
        numbered = tt;
        end = refl;
        after = λ asked last. absurd (true≢false (sym last));
      })

  -- after one that played a round
  led_on : (steps : ℕ) (old : Between) (play : Underway) (here : Between) (round : Round)
      → AreRounds file steps (before_play file) old → IsRoundOf file round old here → play.outcome ≡ None
      → play.last_round ≡ Some round → HasLed file play here
  led_on steps old play here round reached played none last =
      let posted : all_posted file round ≡ true =
      subst (λ (its : Round). all_posted file its ≡ true) played.1 played.0.posted in
      record {
        none = none;
        numbered = subst IsNumbered (sym last) (posted_small numbered file round some posted);
        end =
            ap (λ (its : Option Round). end_shown None its here.game.events) last
            ∙ end_behind adds file steps old here round reached played;
        after =
            λ asked is.
            let named : same_round round asked ≡ true = sym (ap (λ (its : Option Round). is_last its asked) last) ∙ is in
            record {
              rounds = steps;
              before = old;
              reached = reached;
              played = played.0;
              is_round = played.1 ∙ same_round_is round asked named;
            };
      }

  -- so it is where any steps have led
  steps_led : (steps : ℕ) (play : Underway) (here : Between) → StepsPlay steps (started file) play → play.there ≡ Ok here
      → HasLed file play here
  steps_led zero play here stepped at =
      let same : before_play file ≡ here =
      same_place (before_play file) here play.there (ap (λ (it : Underway). it.there) stepped) at in
      subst (λ (b : Between). HasLed file play b) same (led_at_first play stepped)
  steps_led (suc steps) play here stepped at =
      let old = stepped.0 in
      let round = stepped.2 in
      let step = stepped.3 in
      let reached = steps_reach file steps old stepped.1 in
      let from : step.from ≡ reached.here = same_place step.from reached.here old.there step.there reached.at.there in
      let to : step.to ≡ here = same_place step.to here play.there (ap (λ (it : Underway). it.there) step.after) at in
      let led = steps_led steps old reached.here stepped.1 reached.at.there in
      let played : IsRoundOf file round reached.here here =
      subst (λ (b : Between). IsRoundOf file round reached.here b) to
      (subst (λ (b : Between). IsRoundOf file round b step.to) from
      (subst (λ (f : List ℕ). IsRoundOf f round step.from step.to) reached.at.of_file (step.played, step.is_round))) in
      led_on steps reached.here play here round reached.rounds played
      (ap (λ (it : Underway). it.outcome) step.after ∙ led.none) (ap (λ (it : Underway). it.last_round) step.after)

-- a play that has come from the start of a file is after the round that it played last
pub is_behind : SheetsAreNumbered → RoundsOnlyAdd → (file : List ℕ) (asked : Round) (play : Underway)
    → 3 ≤ length (players_of file) → play.file ≡ file → IsFromStart file play → is_last play.last_round asked ≡ true
    → IsBehind file asked play
is_behind numbered adds file asked play players file_is from_start last =
    let reached = steps_reach file from_start.rounds play from_start.steps in
    let led = steps_led numbered adds file (omega (arith, players)) from_start.rounds play reached.here from_start.steps
    reached.at.there in
    record {
      file_is = file_is;
      from_start = from_start;
      there = reached.here;
      at = reached.at.there;
      after = led.after asked last;
    }

-- a state that shows what a play shows shows where it is, if the play has come from the start of its file
pub shows_there : SheetsAreNumbered → RoundsOnlyAdd → (play : Underway) (stood : Stood) → 3 ≤ length (players_of play.file)
    → game_so_far play ≡ Some stood.history.now
    → (IsNumbered play.last_round → stood.end ≡ end_shown play.outcome play.last_round stood.history.now.events)
    → stood.in_set ≡ number_in_set stood.end stood.history.now.events
    → (there : Between) → play.there ≡ Ok there → IsFromStart play.file play → ShowsBetween there stood
shows_there numbered adds play stood players game end in_set there at from_start =
    let led = steps_led numbered adds play.file (omega (arith, players)) from_start.rounds play there from_start.steps at in
    let reached = steps_reach play.file from_start.rounds play from_start.steps in
    let here : reached.here ≡ there = same_place reached.here there play.there reached.at.there at in
    let rounds : AreRounds play.file from_start.rounds (before_play play.file) there =
    subst (λ (b : Between). AreRounds play.file from_start.rounds (before_play play.file) b) here reached.rounds in
    let so_far : Some there.game ≡ Some stood.history.now = sym (ap game_there at) ∙ game in
    let is_game : stood.history.now ≡ there.game = cc in
    let is_end : stood.end ≡ end_of there.next there.game.events =
    end led.numbered
    ∙ ap (λ (its : Option End). end_shown its play.last_round stood.history.now.events) led.none
    ∙ ap (λ (its : Game). end_shown None play.last_round its.events) is_game
    ∙ led.end in
    record {
      game = is_game;
      end = is_end;
      in_set =
          in_set
          ∙ ap (λ (its : End). number_in_set its stood.history.now.events) is_end
          ∙ ap (λ (its : Game). number_in_set (end_of there.next there.game.events) its.events) is_game
          ∙ number_by_next there.next there.game.events
          ∙ sym (keeps_number adds play.file from_start.rounds there rounds);
    }

-- a play that has taken no step has come from the start
pub at_start : (file : List ℕ) (play : Underway) → play ≡ started file → IsFromStart file play
at_start file play is = record { rounds = zero; steps = is }

-- and so has one that has played a round more
pub one_step_on : (file : List ℕ) (round : Round) (old new : Underway) → IsFromStart file old → PlaysNext old round new
    → IsFromStart file new
one_step_on file round old new from_start step =
    record { rounds = suc from_start.rounds; steps = (old, from_start.steps, round, step) }

-- a game that is over awaits no round
none_awaited : (bankrupt : Bool) (round : Round) → (if bankrupt then Bankrupt else Bank) ≡ Awaiting round → ⊥
none_awaited true round is = absurd (cc)
none_awaited false round is = absurd (cc)

-- a round comes next where it is awaited
awaited_next : (upcoming : Next) (events : List Event) (round : Round) → end_of upcoming events ≡ Awaiting round
    → upcoming ≡ next.Round round
awaited_next (next.Round its) events round is = cc
awaited_next next.Ended events round is = absurd (none_awaited (bankrupt_in events) round is)

-- a game awaits a round that it is found to await
pub it_is_awaited : (end : End) (asked : Round) → is_awaited end asked ≡ true → end ≡ Awaiting asked
it_is_awaited (Awaiting round) asked is = ap (λ (its : Round). Awaiting its) (same_round_is round asked is)
it_is_awaited Bank asked is = absurd (true≢false (sym is))
it_is_awaited Bankrupt asked is = absurd (true≢false (sym is))

-- so a round comes next where a state of the play shows that it is awaited
pub it_comes_next : (play : Underway) (stood : Stood) (asked : Round) → StandsIn play stood
    → stood.end ≡ Awaiting asked → all_posted play.file asked ≡ true → IsFromStart play.file play → ComesNext play asked
it_comes_next play stood asked shows end posted from_start =
    let reached = steps_reach play.file from_start.rounds play from_start.steps in
    let there = shows.there reached.here reached.at.there from_start in
    let awaited : end_of reached.here.next reached.here.game.events ≡ Awaiting asked = sym there.end ∙ end in
    record {
      from = reached.here;
      there = reached.at.there;
      to_play = record {
        comes = awaited_next reached.here.next reached.here.game.events asked awaited;
        posted = posted;
      };
    }
