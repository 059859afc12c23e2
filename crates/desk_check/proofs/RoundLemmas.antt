-- The rounds that the events of a game begin, kept event by event.
use Rattle.std.proofs.Common.{◌≡◌, ℕ, Bool, true, false, ◌||◌, cond, List, [], ◌∷◌, ◌++◌, Option, Some, None, is_some}
use Rattle.std.proofs.Common.{refl, sym, ap, ◌∙◌}
use Rattle.std.proofs.lemmas.List.{append-nil}
use Rattle.std.proofs.lemmas.List.Folds.{list_any-append}
use Rattle.std.specs.List.{list_any}
use Rattle.std.specs.Map.{lookup}
use Rattle.std.specs.Option.{option_or}
use Rattle.desk_trials.proofs.HeadLemmas.{or_by_test}
use Rattle.rounds.proofs.InOrder.{round_in_front}
use Rattle.totals.proofs.EventAtEnd.{option_or_assoc, option_or_none}
use Rattle.desk_check.specs.RoundsPlayed.{AreRoundsOf, by_then, by_with, is_begun, ready_among}
use Rattle.desk_check.specs.declared.check_late.Rounds.{Rounds}
use Rattle.desk_trials.specs.Heads.{came}
use Rattle.desk_trials.specs.SheetLines.{HeadAt}
use Rattle.desk_trials.specs.declared.check_sheets.Heads.{Heads}
use Rattle.events.specs.Event.{round_begun_by}
use Rattle.events.specs.declared.event.Event.{Event}
use Rattle.rounds.specs.Begun.{rounds_begun, with_round}
use Rattle.tables.specs.Round.{same_round}
use Rattle.tables.specs.contracts.round.RoundPartialEq.TheImpl as derived
use Rattle.tables.specs.declared.round.Round.{Round}
use Rattle.tables.specs.declared.round.Round.TheVariants.{Opening, Stock, Operating}

-- the derived test is that of the kind and the numbers
by_kind : (a b : Round) → derived.eq-value.it a b ≡ same_round a b
by_kind (Opening m) (Opening n) = refl
by_kind (Opening m) (Stock n) = refl
by_kind (Opening m) (Operating n k) = refl
by_kind (Stock m) (Opening n) = refl
by_kind (Stock m) (Stock n) = refl
by_kind (Stock m) (Operating n k) = refl
by_kind (Operating m j) (Opening n) = refl
by_kind (Operating m j) (Stock n) = refl
by_kind (Operating m j) (Operating n k) = refl

-- look-ups by either test are the same
pub found_by_round : {X : Type 0} (round : Round) (entries : List (Round × X))
    → lookup (derived.eq-value.it round) entries ≡ lookup (same_round round) entries
found_by_round round [] = refl
found_by_round round (entry ∷ entries) =
    ap (λ t. cond t (Some entry.1) (lookup (derived.eq-value.it round) entries)) (by_kind round entry.0)
    ∙ ap (λ o. cond (same_round round entry.0) (Some entry.1) o) (found_by_round round entries)

-- one more event begins a round, or none
begun_with_one : (events : List Event) (event : Event)
    → rounds_begun (events ++ event ∷ []) ≡ rounds_begun events ++ with_round (round_begun_by event) []
begun_with_one [] event = refl
begun_with_one (first ∷ events) event =
    ap (with_round (round_begun_by first)) (begun_with_one events event)
    ∙ round_in_front (round_begun_by first) (rounds_begun events) (with_round (round_begun_by event) [])

-- an event that begins no round
none_begun : (events : List Event) (event : Event) (round : Round) → round_begun_by event ≡ None
    → is_begun (events ++ event ∷ []) round ≡ is_begun events round
none_begun events event round h =
    ap (list_any (λ begun. same_round begun round))
    (begun_with_one events event ∙ ap (λ o. rounds_begun events ++ with_round o []) h
    ∙ append-nil (rounds_begun events))

-- whether something is there, after a choice
some_by_test : (test : Bool) (line : ℕ) (other : Option ℕ)
    → is_some (cond test (Some line) other) ≡ (is_some other || (test || false))
some_by_test true line None = refl
some_by_test true line (Some x) = refl
some_by_test false line None = refl
some_by_test false line (Some x) = refl

-- an event that begins a round, which is kept with a line
one_begun : (events : List Event) (event : Event) (key round : Round) (line : ℕ) (old new : List (Round × ℕ)) →
    round_begun_by event ≡ Some key
    → lookup (derived.eq-value.it round) new ≡ cond (derived.eq-value.it key round) (Some line)
    (lookup (derived.eq-value.it round) old)
    → is_some (lookup (same_round round) old) ≡ is_begun events round
    → is_some (lookup (same_round round) new) ≡ is_begun (events ++ event ∷ []) round
one_begun events event key round line old new h put kept =
    let test : Round → Bool = λ begun. same_round begun round in
    ap is_some (sym (found_by_round round new) ∙ put
    ∙ ap (λ t. cond t (Some line) (lookup (derived.eq-value.it round) old)) (by_kind key round)
    ∙ ap (λ o. cond (same_round key round) (Some line) o) (found_by_round round old))
    ∙ some_by_test (same_round key round) line (lookup (same_round round) old)
    ∙ ap (λ b. b || (same_round key round || false)) kept
    ∙ sym (ap (list_any test) (begun_with_one events event ∙ ap (λ o. rounds_begun events ++ with_round o []) h)
    ∙ list_any-append test (rounds_begun events) (key ∷ []))

module _ (seats : ℕ) (heads : List HeadAt) where
  -- the line by which all had sheets, with one round more
  by_with_one : (by : ℕ) (rounds : List Round) (round : Round) →
      by_then seats heads by (rounds ++ round ∷ []) ≡ by_with seats heads (by_then seats heads by rounds) round
  by_with_one by [] round = refl
  by_with_one by (first ∷ rounds) round = by_with_one (by_with seats heads by first) rounds round

  -- and of a round among them
  ready_with_one : (by : ℕ) (rounds : List Round) (key round : Round) →
      ready_among seats heads by (rounds ++ key ∷ []) round
      ≡ option_or (cond (same_round key round) (Some (by_then seats heads by (rounds ++ key ∷ []))) None)
      (ready_among seats heads by rounds round)
  ready_with_one by [] key round = sym (option_or_none (cond (same_round key round) (Some (by_with seats heads by key)) None))
  ready_with_one by (first ∷ rounds) key round =
      let now = by_with seats heads by first in
      let here : Option ℕ = cond (same_round first round) (Some now) None in
      ap (λ (o : Option ℕ). option_or o here) (ready_with_one now rounds key round)
      ∙ option_or_assoc (cond (same_round key round) (Some (by_then seats heads now (rounds ++ key ∷ []))) None)
      (ready_among seats heads now rounds round) here

-- an event that begins no round is applied
pub none_applied : (heads : Heads) (rounds : Rounds) (events : List Event) (event : Event)
    → round_begun_by event ≡ None → AreRoundsOf heads rounds events → AreRoundsOf heads rounds (events ++ event ∷ [])
none_applied heads rounds events event none are =
    let same : rounds_begun (events ++ event ∷ []) ≡ rounds_begun events =
    begun_with_one events event ∙ ap (λ o. rounds_begun events ++ with_round o []) none
    ∙ append-nil (rounds_begun events) in
    record {
      begun = λ round. are.begun round ∙ sym (none_begun events event round none);
      ready = λ round. are.ready round ∙ sym (ap (λ begun. ready_among heads.seats (came heads) 0 begun round) same);
      by = are.by ∙ sym (ap (by_then heads.seats (came heads) 0) same);
    }

-- an event that begins a round is applied
pub one_applied : (heads : Heads) (old new : Rounds) (events : List Event) (event : Event) (key : Round)
    → round_begun_by event ≡ Some key →
    ((round : Round) → lookup (derived.eq-value.it round) new.lines.entries
    ≡ cond (derived.eq-value.it key round) (Some new.by) (lookup (derived.eq-value.it round) old.lines.entries)) →
    new.by ≡ by_with heads.seats (came heads) old.by key → AreRoundsOf heads old events
    → AreRoundsOf heads new (events ++ event ∷ [])
one_applied heads old new events event key begins put by are =
    let seats = heads.seats in
    let heads_came = came heads in
    let begun : rounds_begun (events ++ event ∷ []) ≡ rounds_begun events ++ key ∷ [] =
    begun_with_one events event ∙ ap (λ o. rounds_begun events ++ with_round o []) begins in
    let line : new.by ≡ by_then seats heads_came 0 (rounds_begun events ++ key ∷ []) =
    by ∙ ap (λ n. by_with seats heads_came n key) are.by
    ∙ sym (by_with_one seats heads_came 0 (rounds_begun events) key) in
    record {
      begun = λ round. one_begun events event key round new.by old.lines.entries new.lines.entries begins (put round)
          (are.begun round);
      ready =
          λ round.
          let had = ready_among seats heads_came 0 (rounds_begun events) round in
          sym (found_by_round round new.lines.entries) ∙ put round
          ∙ ap (λ t. cond t (Some new.by) (lookup (derived.eq-value.it round) old.lines.entries)) (by_kind key round)
          ∙ ap (λ o. cond (same_round key round) (Some new.by) o)
          (found_by_round round old.lines.entries ∙ are.ready round)
          ∙ or_by_test (same_round key round) new.by had
          ∙ ap (λ n. option_or (cond (same_round key round) (Some n) None) had) line
          ∙ sym (ready_with_one seats heads_came 0 (rounds_begun events) key round)
          ∙ sym (ap (λ rounds. ready_among seats heads_came 0 rounds round) begun);
      by = line ∙ sym (ap (by_then seats heads_came 0) begun);
    }
