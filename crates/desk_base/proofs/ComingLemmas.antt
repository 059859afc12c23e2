-- A round that cannot come never comes: what holds of the round that is awaited holds of each that
-- follows.
use Rattle.std.proofs.Common.{◌≡◌, ℕ, zero, suc, ◌+◌, ◌<◌, ◌≤◌, Bool, true, false, ◌||◌, not, nat_le, nat_lt}
use Rattle.std.proofs.Common.{if◌then◌else◌, List, [], ◌∷◌, ◌++◌, length, refl, sym, ap, subst, ◌∙◌, arith, true≢false}
use Rattle.std.proofs.lemmas.Bool.{and_from, eqb-true, le-leb, le-ltb}
use Rattle.std.proofs.lemmas.List.Folds.{list_any-append}
use Rattle.std.specs.Prelude.{◌==◌, ⊤}
use Rattle.desk_base.proofs.SetLemmas.{number_there}
use Rattle.desk_base.specs.Coming.{NeverComes, can_come, is_in_time, may_come, may_follow, most_in_set, set_of}
use Rattle.desk_base.specs.SetNumber.{number_in_set}
use Rattle.desk_base.specs.Stopped.{StoppedAt}
use Rattle.events.specs.Event.{says_broken}
use Rattle.events.specs.declared.event.Event.{Event}
use Rattle.events.specs.declared.event.Event.TheVariants as event
use Rattle.totals.specs.LookBack.{Game, broken_in}
use Rattle.totals.specs.Trains.{phase_of}
use Rattle.purchases.proofs.Complete.{phase_kept}
use Rattle.privates.specs.Turn.{all_sold}
use Rattle.rounds.proofs.Coming.{OfNext, after_operating, comes_once, follows, in_set_then, no_round, of_coming}
use Rattle.rounds.proofs.Forward.{played_forward}
use Rattle.rounds.proofs.InSet.{IsInSet, IsNextInSet, comes_in_set, round_in_set}
use Rattle.rounds.proofs.OpeningGrows.{opening_grows}
use Rattle.rounds.proofs.RoundSteps.{of_growing}
use Rattle.rounds.specs.Begun.{AddsRound, RoundsOnlyAdd}
use Rattle.rounds.specs.Play.{AreRounds, Between, IsPlayed, IsRound, Played, before_play, end_of, in_set_before}
use Rattle.rounds.specs.Play.{rounds_of_new_set}
use Rattle.rounds.specs.Sequence.{following}
use Rattle.rounds.specs.declared.following.Next.{Next}
use Rattle.rounds.specs.declared.following.Next.TheVariants as next
use Rattle.rounds.specs.declared.game.End.{End}
use Rattle.rounds.specs.declared.game.End.TheVariants.{Awaiting}
use Rattle.sheets.specs.File.{IsAccepted, players_of}
use Rattle.sheets.specs.Laws.{SheetsAreNumbered, ThreeToSixPlay}
use Rattle.tables.specs.Round.{is_before, operating_most, rank_of}
use Rattle.tables.specs.Train.{rounds_in_set_of}
use Rattle.tables.specs.declared.round.Round.{Round}
use Rattle.tables.specs.declared.round.Round.TheVariants.{Opening, Stock, Operating}

-- before an opening round the first set is to have as many operating rounds as the phase gives it
abbrev OpensWith : Round → List Event → ℕ → Type 0
OpensWith (Opening number) events in_set = in_set ≡ rounds_of_new_set events
OpensWith other events in_set = ⊤

-- no phase begins in an opening round
phase_through : (file : List ℕ) (number : ℕ) (old new : Game) → IsPlayed file (Opening number) old new
    → phase_of new.events ≡ phase_of old.events
phase_through file number old new played =
    of_growing (λ before after. phase_of after ≡ phase_of before)
    (record {
      same = λ events. refl;
      both = λ a b c first second. second ∙ first;
      aside =
          λ events its says. phase_kept events its says.phase;
    })
    (old.events ++ event.Round (Opening number) ∷ []) new.events (opening_grows file (Opening number) old new played)
    ∙ phase_kept old.events (event.Round (Opening number)) refl

-- so it is behind it
opens_through : (file : List ℕ) (round : Round) (old new : Game) (in_set : ℕ) → IsPlayed file round old new →
    OpensWith round old.events in_set → OpensWith round new.events in_set
opens_through file (Opening number) old new in_set played opens =
    opens ∙ ap rounds_in_set_of (sym (phase_through file number old new played))
opens_through file (Stock set) old new in_set played opens = tt
opens_through file (Operating set number) old new in_set played opens = tt

-- and before the round that follows
opens_next : (round : Round) (events : List Event) (in_set : ℕ) (sold broken : Bool) → OpensWith round events in_set →
    OfNext (λ later. OpensWith later events (in_set_before (next.Round later) events in_set))
    (following round in_set sold broken)
opens_next (Opening number) events in_set true broken opens = tt
opens_next (Opening number) events in_set false broken opens = opens
opens_next (Stock set) events in_set sold broken opens = tt
opens_next (Operating set number) events in_set sold broken opens =
    after_operating (λ (later : Round). OpensWith later events (in_set_before (next.Round later) events in_set)) set
    number in_set sold broken
    (λ more. tt) (λ past. tt)

-- ahead of an awaited round, whose set has this many operating rounds, where the bank was broken or
-- not
record InSets (awaited : Round) (count : ℕ) (broken : Bool) (round : Round) (in_set : ℕ) : Type 0 where
  later : set_of awaited ≤ set_of round
  number : set_of round ≡ set_of awaited → in_set ≡ count
  stays : broken ≡ true → set_of round ≡ set_of awaited

-- the round that follows is ahead too
sets_next : (awaited : Round) (count : ℕ) (was : Bool) (round : Round) (in_set : ℕ) (sold broken : Bool)
    (events : List Event) →
    (was ≡ true → broken ≡ true) → OpensWith round events in_set → InSets awaited count was round in_set →
    OfNext (λ later. InSets awaited count was later (in_set_before (next.Round later) events in_set))
    (following round in_set sold broken)
sets_next awaited count was (Opening number) in_set true broken events still opens ahead =
    record { later = ahead.later; number = λ same. sym opens ∙ ahead.number same; stays = ahead.stays }
sets_next awaited count was (Opening number) in_set false broken events still opens ahead =
    record { later = ahead.later; number = ahead.number; stays = ahead.stays }
sets_next awaited count was (Stock set) in_set sold broken events still opens ahead =
    record { later = ahead.later; number = ahead.number; stays = ahead.stays }
sets_next awaited count was (Operating set number) in_set sold true events still opens ahead =
    elim (nat_lt number in_set) as (λ (more : Bool).
    OfNext (λ later. InSets awaited count was later (in_set_before (next.Round later) events in_set))
    (if more then next.Round (Operating set (number + 1)) else next.Ended)) [
      | true ↦ record { later = ahead.later; number = ahead.number; stays = ahead.stays }
      | false ↦ tt
    ]
sets_next awaited count was (Operating set number) in_set sold false events still opens ahead =
    let no_earlier : set_of awaited ≤ set = ahead.later in
    after_operating (λ (later : Round). InSets awaited count was later
    (in_set_before (next.Round later) events in_set)) set number in_set sold false
    (λ more. record { later = ahead.later; number = ahead.number; stays = ahead.stays })
    (λ past.
    record {
      later = omega (arith, no_earlier);
      number = λ (same : set + 1 ≡ set_of awaited). absurd (omega (arith, no_earlier, same));
      stays = λ is. absurd (true≢false (sym (still is)));
    })

-- a round that is ahead and is within its set may come
in_time : (set : ℕ) (broken : Bool) (its : ℕ) → (broken ≡ true → its ≡ set) → is_in_time set broken its ≡ true
in_time set true its stays =
    let same : its ≡ set = stays refl in
    ap (λ b. b || false) (le-leb its set (omega (arith, same)))
in_time set false its stays =
    elim (nat_le its set) as (λ (b : Bool). (b || true) ≡ true) [ true ↦ refl | false ↦ refl ]

within_most : (set count its in_set number : ℕ) → (its ≡ set → in_set ≡ count) → number ≤ in_set
    → in_set ≤ operating_most →
    nat_le number (most_in_set set count its) ≡ true
within_most set count its in_set number same within few =
    elim (its == set) as (λ (b : Bool). (its == set) ≡ b → nat_le number (if b then count else operating_most) ≡ true) [
      | true ↦ λ is. let counted : in_set ≡ count = same (eqb-true its set is) in le-leb number count
          (omega (arith, counted, within))
      | false ↦ λ other. le-leb number operating_most (omega (arith, within, few))
    ]
    refl

comes_in : (awaited : Round) (count : ℕ) (broken : Bool) (round : Round) (in_set : ℕ)
    → InSets awaited count broken round in_set →
    IsInSet round in_set → may_come (set_of awaited) count broken round ≡ true
comes_in awaited count broken (Opening number) in_set ahead within_set = refl
comes_in awaited count broken (Stock set) in_set ahead within_set = in_time (set_of awaited) broken set ahead.stays
comes_in awaited count broken (Operating set number) in_set ahead within_set =
    and_from (nat_le number (most_in_set (set_of awaited) count set)) (is_in_time (set_of awaited) broken set)
    (within_most (set_of awaited) count set in_set number ahead.number within_set.within within_set.few)
    (in_time (set_of awaited) broken set ahead.stays)

-- ahead of where a game stopped
record IsAhead (awaited : Round) (count : ℕ) (broken : Bool) (there : Between) : Type 0 where
  order : (round : Round) → there.next ≡ next.Round round → rank_of awaited ≤ rank_of round
  sets : (round : Round) → there.next ≡ next.Round round → InSets awaited count broken round there.in_set
  opens : (round : Round) → there.next ≡ next.Round round → OpensWith round there.game.events there.in_set
  still : broken ≡ true → broken_in there.game.events ≡ true
  within_set : IsNextInSet there

-- a broken bank stays broken through a round
broken_through : (round : Round) (old new : Game) → AddsRound round old new → broken_in old.events ≡ true
    → broken_in new.events ≡ true
broken_through round old new adds is =
    ap (λ (game : Game). broken_in game.events) adds.added
    ∙ list_any-append says_broken old.events (event.Round round ∷ adds.more)
    ∙ ap (λ b. b || broken_in (event.Round round ∷ adds.more)) is

module _ (adds : RoundsOnlyAdd) (numbered : SheetsAreNumbered) (file : List ℕ)
    (some : 0 < length (players_of file)) where
  -- a round that is played leads on
  round_ahead : (awaited : Round) (count : ℕ) (broken : Bool) (old new : Between) → IsAhead awaited count broken old
      → IsRound file old new →
      IsAhead awaited count broken new
  round_ahead awaited count broken old new ahead round =
      let events = new.game.events in
      let sold = all_sold events in
      let still : broken ≡ true → broken_in events ≡ true =
      λ is. broken_through round.round old.game new.game (adds file old new round) (ahead.still is) in
      let opens : OpensWith round.round events old.in_set =
      opens_through file round.round old.game new.game old.in_set round.played (ahead.opens round.round round.comes) in
      record {
        order =
            λ later comes.
            let before : rank_of awaited ≤ rank_of round.round = ahead.order round.round round.comes in
            let forward = played_forward numbered file round.round later old.in_set sold (broken_in events) some
            (ahead.within_set round.round round.comes) round.posted (follows file old new later round comes) in
            omega (arith, before, forward);
        sets =
            λ later comes.
            subst (λ (number : ℕ). InSets awaited count broken later number)
            (sym (in_set_then file old new later round comes))
            (of_coming (λ (at : Round). InSets awaited count broken at
            (in_set_before (next.Round at) events old.in_set))
            (following round.round old.in_set sold (broken_in events)) later (follows file old new later round comes)
            (sets_next awaited count broken round.round old.in_set sold (broken_in events) events still opens
            (ahead.sets round.round round.comes)));
        opens =
            λ later comes.
            subst (λ (number : ℕ). OpensWith later events number) (sym (in_set_then file old new later round comes))
            (of_coming (λ (at : Round). OpensWith at events (in_set_before (next.Round at) events old.in_set))
            (following round.round old.in_set sold (broken_in events)) later (follows file old new later round comes)
            (opens_next round.round events old.in_set sold (broken_in events) opens));
        still = still;
        within_set = round_in_set file old new ahead.within_set round;
      }

  -- so do all that follow
  all_ahead : (awaited : Round) (count : ℕ) (broken : Bool) (rounds : ℕ) (last there : Between)
      → IsAhead awaited count broken last →
      AreRounds file rounds last there → IsAhead awaited count broken there
  all_ahead awaited count broken zero last there ahead played = subst (IsAhead awaited count broken) played ahead
  all_ahead awaited count broken (suc rounds) last there ahead played =
      round_ahead awaited count broken played.0 there
      (all_ahead awaited count broken rounds last played.0 ahead played.1) played.2

-- a game opens so wherever it comes
abbrev OpensNext : Between → Type 0
OpensNext there = (round : Round) → there.next ≡ next.Round round → OpensWith round there.game.events there.in_set

round_opens : (file : List ℕ) (old new : Between) → OpensNext old → IsRound file old new → OpensNext new
round_opens file old new opens round later comes =
    let events = new.game.events in
    subst (λ (number : ℕ). OpensWith later events number) (sym (in_set_then file old new later round comes))
    (of_coming (λ (at : Round). OpensWith at events (in_set_before (next.Round at) events old.in_set))
    (following round.round old.in_set (all_sold events) (broken_in events)) later
    (follows file old new later round comes)
    (opens_next round.round events old.in_set (all_sold events) (broken_in events)
    (opens_through file round.round old.game new.game old.in_set round.played (opens round.round round.comes))))

game_opens : (file : List ℕ) (rounds : ℕ) (there : Between) → AreRounds file rounds (before_play file) there
    → OpensNext there
game_opens file zero there played =
    subst OpensNext played
    (λ round comes. subst (λ (at : Round). OpensWith at [] (before_play file).in_set)
    (comes_once (Opening 1) round comes) refl)
game_opens file (suc rounds) there played =
    round_opens file played.0 there (game_opens file rounds played.0 played.1) played.2

-- where a game has stopped before a round, it is ahead of itself
first_ahead : (file : List ℕ) (rounds : ℕ) (last : Between) (awaited : Round)
    → AreRounds file rounds (before_play file) last →
    last.next ≡ next.Round awaited → IsAhead awaited last.in_set (broken_in last.game.events) last
first_ahead file rounds last awaited reached comes =
    record {
      order = λ round is. subst (λ (at : Round). rank_of awaited ≤ rank_of at)
          (comes_once awaited round (sym comes ∙ is)) (omega arith);
      sets =
          λ round is.
          subst (λ (at : Round). InSets awaited last.in_set (broken_in last.game.events) at last.in_set)
          (comes_once awaited round (sym comes ∙ is))
          (record { later = omega arith; number = λ same. refl; stays = λ broken. refl });
      opens = game_opens file rounds last reached;
      still = λ is. is;
      within_set = comes_in_set file rounds last reached;
    }

-- once a game is over no round comes
none_comes : (file : List ℕ) (rounds : ℕ) (last there : Between) → last.next ≡ next.Ended
    → AreRounds file rounds last there → there ≡ last
none_comes file zero last there over played = sym played
none_comes file (suc rounds) last there over played =
    let same : played.0 ≡ last = none_comes file rounds last played.0 over played.1 in
    let comes : last.next ≡ next.Round played.2.round = ap (λ (at : Between). at.next) (sym same) ∙ played.2.comes in
    absurd (no_round played.2.round (sym over ∙ comes))

-- neither is a round before itself, nor one that is ahead
not_before : (awaited round : Round) → rank_of awaited ≤ rank_of round → not (is_before round awaited) ≡ true
not_before awaited round order = ap not (le-ltb (rank_of round) (rank_of awaited) order)

module _ (adds : RoundsOnlyAdd) (numbered : SheetsAreNumbered) (few : ThreeToSixPlay) (played : Played)
    (round : Round) where
  module _ (last there : Between) (file : List ℕ) (rounds : ℕ) (stopped : StoppedAt played last)
      (accepted : IsAccepted file) (reached : AreRounds file rounds last there)
      (comes : there.next ≡ next.Round round) where
    -- if it comes, it may follow the awaited round
    may_follow_so : (awaited : Round) → last.next ≡ next.Round awaited
        → may_follow awaited last.in_set (broken_in last.game.events) round ≡ true
    may_follow_so awaited awaits =
        let players = few file accepted in
        let some : 0 < length (players_of file) = omega (arith, players.0) in
        let ahead = all_ahead adds numbered file some awaited last.in_set (broken_in last.game.events) rounds last there
        (first_ahead played.file stopped.plays.rounds last awaited stopped.plays.reached awaits) reached in
        and_from (not (is_before round awaited)) (may_come (set_of awaited) last.in_set (broken_in last.game.events)
        round)
        (not_before awaited round (ahead.order round comes))
        (comes_in awaited last.in_set (broken_in last.game.events) round there.in_set (ahead.sets round comes)
        (ahead.within_set round comes))

    -- so it can come
    comes_so : (upcoming : Next) → last.next ≡ upcoming → can_come played.end played.game.events round ≡ true
    comes_so (next.Round awaited) awaits =
        let end : played.end ≡ Awaiting awaited = stopped.end ∙ ap (λ (it : Next). end_of it last.game.events) awaits in
        let number : number_in_set (Awaiting awaited) played.game.events ≡ last.in_set =
        ap (λ (it : End). number_in_set it played.game.events) (sym end) ∙ number_there adds played last stopped in
        ap (λ (it : End). can_come it played.game.events round) end
        ∙ ap (λ (n : ℕ). may_follow awaited n (broken_in played.game.events) round) number
        ∙ ap (λ (game : Game). may_follow awaited last.in_set (broken_in game.events) round) stopped.game
        ∙ may_follow_so awaited awaits
    comes_so next.Ended over =
        let same : there.next ≡ last.next = ap (λ (at : Between). at.next)
        (none_comes file rounds last there over reached) in
        absurd (no_round round (sym over ∙ sym same ∙ comes))

  -- one that cannot never comes
  pub never_comes : (result : Bool) → result ≡ can_come played.end played.game.events round → result ≡ false
      → NeverComes played round
  never_comes result is cannot last there file rounds stopped accepted reached comes =
      true≢false (sym (comes_so last there file rounds stopped accepted reached comes last.next refl) ∙ sym is ∙ cannot)
