-- A set keeps the number of operating rounds with which it began, since only a stock round that comes
-- sets it. A game ends by a bankruptcy, or by a bank that is broken after the last round of a set.
-- Nothing else ends it, and nothing follows.
use Rattle.std.proofs.Common.{◌≡◌, ℕ, zero, suc, ◌≤◌, Bool, List, refl, sym, ap, subst, ◌∙◌, arith}
use Rattle.std.proofs.Common.{true, false, ◌||◌, if◌then◌else◌, inl, inr, [], ◌∷◌, ◌++◌, Option}
use Rattle.std.proofs.Common.{Some, None}
use Rattle.std.proofs.lemmas.Bool.{cases_Bool}
use Rattle.events.specs.declared.event.Event.{Event}
use Rattle.totals.specs.LookBack.{broken_in, bankrupt_in}
use Rattle.privates.specs.Turn.{all_sold}
use Rattle.rounds.proofs.Coming.{comes_once, follows, in_set_then, through, no_round}
use Rattle.rounds.proofs.InSet.{IsInSet, IsNextInSet, comes_in_set, round_in_set}
use Rattle.rounds.specs.Play.{AreRounds, Between, IsRound, before_play, in_set_before}
use Rattle.rounds.specs.Play.{rounds_of_new_set, end_of, goes_on}
use Rattle.rounds.specs.Sequence.{following, turn_in_set}
use Rattle.rounds.specs.Sets.{IsOfSet, SetsKeepTheirNumber}
use Rattle.rounds.specs.declared.following.Next.{Next}
use Rattle.rounds.specs.declared.following.Next.TheVariants as next
use Rattle.tables.specs.declared.round.Round.{Round}
use Rattle.tables.specs.declared.round.Round.TheVariants.{Opening, Stock, Operating}
use Rattle.std.proofs.lemmas.List.Folds.{list_any-append}
use Rattle.events.specs.Event.{says_broken}
use Rattle.events.specs.declared.event.Event.TheVariants as event
use Rattle.market.specs.OperatingOrder.{first_idle}
use Rattle.operating.specs.Laws.{TurnOnlyAdds}
use Rattle.rounds.proofs.InOrder.{round_goes_on}
use Rattle.rounds.proofs.OneGame.{stopped_stays}
use Rattle.rounds.specs.Ends.{BankruptcyEndsGames, BrokenBankEndsSets, GamesEndOnce}
use Rattle.rounds.specs.Ends.{NoSetAfterBroken, NoTurnAfterBankruptcy, NothingElseEndsGames}
use Rattle.rounds.specs.declared.game.End.TheVariants.{Bank, Bankrupt}
use Rattle.tables.specs.declared.roster.Company.{Company}
use Rattle.std.proofs.lemmas.Bool.Decides.{nat_tests}

-- the round is of this set or a later one
abbrev IsNoEarlier : ℕ → Round → Type 0
IsNoEarlier set (Opening number) = ⊥
IsNoEarlier set (Stock its) = set ≤ its
IsNoEarlier set (Operating its number) = set ≤ its

-- the set has begun, and while it lasts it has this many operating rounds
record Keeps (set count : ℕ) (upcoming : Round) (in_set : ℕ) : Type 0 where
  begun : IsNoEarlier set upcoming
  number : IsOfSet set upcoming → in_set ≡ count

-- after each round
keeps_on : (set count : ℕ) (round later : Round) (in_set : ℕ) (sold broken : Bool) (events : List
    Event) →
    Keeps set count round in_set → following round in_set sold broken ≡ next.Round later →
    Keeps set count later (in_set_before (next.Round later) events in_set)
keeps_on set count round later in_set sold broken events keeps comes = grind arith

-- the set is left only after the last of its rounds
left_after_last : (set : ℕ) (round later : Round) (in_set : ℕ) (sold broken : Bool) → IsOfSet set
    round →
    IsInSet round in_set → following round in_set sold broken ≡ next.Round later → ¬ IsOfSet set
    later →
    round ≡ Operating set in_set
left_after_last set round later in_set sold broken same within_set comes other = grind
    (arith, nat_tests)

-- so it is with the round that comes next, if one does
abbrev KeepsNext : ℕ → ℕ → Between → Type 0
KeepsNext set count there = (round : Round) → there.next ≡ next.Round round → Keeps set count round there.in_set

module _ (file : List ℕ) where
  -- the number is fixed as the stock round comes
  fixed : (set rounds : ℕ) (begun : Between) → AreRounds file rounds (before_play file) begun →
      begun.next ≡ next.Round (Stock set) → begun.in_set ≡ rounds_of_new_set begun.game.events
  fixed set zero begun played comes =
      subst (λ (at : Between). at.in_set ≡ rounds_of_new_set at.game.events) played refl
  fixed set (suc rounds) begun played comes =
      played.2.in_set_then ∙ ap (λ (upcoming : Next). in_set_before upcoming begun.game.events played.0.in_set) comes

  -- a round that was played keeps it
  round_keeps : (set count : ℕ) (old new : Between) → KeepsNext set count old → IsRound file old new
      → KeepsNext set count new
  round_keeps set count old new keeps round later comes =
      subst (λ (number : ℕ). Keeps set count later number) (sym (in_set_then file old new later round comes))
      (keeps_on set count round.round later old.in_set (all_sold new.game.events)
      (broken_in new.game.events)
      new.game.events (keeps round.round round.comes) (follows file old new later round comes))

  -- a set is left only after the last of its rounds
  whole_set : (set count : ℕ) (there after : Between) (round later : Round) → IsInSet round there.in_set
      → there.in_set ≡ count →
      there.next ≡ next.Round round → IsOfSet set round → IsRound file there after → after.next ≡ next.Round later →
      ¬ IsOfSet set later → round ≡ Operating set count
  whole_set set count there after round later within_set number here of_set step comes other =
      let same : step.round ≡ round = comes_once step.round round (sym step.comes ∙ here) in
      let says : following round there.in_set (all_sold after.game.events)
      (broken_in after.game.events)
      ≡ next.Round later =
      ap (λ (it : Round). following it there.in_set (all_sold after.game.events)
      (broken_in after.game.events))
      (sym same) ∙ follows file there after later step comes in
      left_after_last set round later there.in_set _ _ of_set within_set says other
      ∙ ap (λ (most : ℕ). Operating set most) number

-- sets keep their numbers
pub keep_their_number : SetsKeepTheirNumber
keep_their_number file set rounds later begun there round reached comes played here of_set =
    let count : ℕ = rounds_of_new_set begun.game.events in
    let first : KeepsNext set count begun =
    λ at is.
    subst (λ (upcoming : Round). Keeps set count upcoming begun.in_set) (comes_once (Stock set) at (sym comes ∙ is))
    (record { begun = omega arith; number = λ same. fixed file set rounds begun reached comes })
    in
    let number : there.in_set ≡ count =
    (through file (KeepsNext set count) (round_keeps file set count) later begun there played first
    round here).number
    of_set in
    let within_set : IsInSet round there.in_set =
    through file IsNextInSet (round_in_set file) later begun there played (comes_in_set file rounds
    begun reached)
    round here in
    record {
      number = number;
      within = subst (λ (most : ℕ). turn_in_set round ≤ most) number within_set.within;
      whole =
          λ after upcoming step is other. whole_set file set count there after round upcoming within_set number here
          of_set step is other;
    }

-- a game ends once
pub end_once : GamesEndOnce
end_once file rounds later ended after reached over played = (
  sym (stopped_stays file later ended after (ap (goes_on file) over) played),
  record
      { rounds = rounds; reached = reached; stopped = ap (goes_on file) over },
)

-- once a president is bankrupt there is no next company
none_next : (bankrupt : Bool) (first : Option Company) (company : Company) → bankrupt ≡ true
    → (if bankrupt then None else first) ≡ Some company → ⊥
none_next bankrupt first company is found = grind arith

-- so none takes a turn
pub no_turn_after : NoTurnAfterBankruptcy
no_turn_after file round company old new bankrupt turn =
    none_next (bankrupt_in old.events) (first_idle old.events) company bankrupt turn.is_next

-- nothing comes after a round that left a president bankrupt
ended_by : (bankrupt : Bool) (says : Next) → bankrupt ≡ true → (if bankrupt then next.Ended else says) ≡ next.Ended
ended_by bankrupt says is = grind arith

-- and that is why
pub bankruptcy_ends : BankruptcyEndsGames
bankruptcy_ends file old new round bankrupt =
    let events = new.game.events in
    let over : new.next ≡ next.Ended =
    round.next_then ∙ ended_by (bankrupt_in events)
    (following round.round old.in_set (all_sold events) (broken_in events)) bankrupt
    in (
      over,
      ap (λ (it : Next). end_of it events) over ∙ ap (λ (b : Bool). if b then Bankrupt else Bank) bankrupt,
    )

-- a broken bank stays broken
stays_broken : (prefix back : List Event) → broken_in prefix ≡ true → broken_in (prefix ++ back) ≡ true
stays_broken prefix back broken =
    list_any-append says_broken prefix back ∙ ap (λ (b : Bool). b || broken_in back) broken

-- through a round
broken_through : TurnOnlyAdds → (file : List ℕ) (old new : Between) → IsRound file old new
    → broken_in old.game.events ≡ true → broken_in new.game.events ≡ true
broken_through adds file old new round broken =
    let begun : List Event = old.game.events ++ event.Round round.round ∷ [] in
    let grows = round_goes_on adds file round.round old.game new.game round.played in
    subst (λ (events : List Event). broken_in events ≡ true) (sym grows.longer)
    (stays_broken begun grows.more (stays_broken old.game.events (event.Round round.round ∷ []) broken))

-- what follows a round of a set, with the bank broken, is of that set
of_same_set : (set : ℕ) (round later : Round) (in_set : ℕ) (sold broken : Bool) → broken ≡ true →
    IsOfSet set round
    → following round in_set sold broken ≡ next.Round later → IsOfSet set later
of_same_set set round later in_set sold broken is same comes = grind arith

-- the bank is broken, and the round that comes next, if one does, is of this set
record Closes (set : ℕ) (there : Between) : Type 0 where
  broken : broken_in there.game.events ≡ true
  of_set : (round : Round) → there.next ≡ next.Round round → IsOfSet set round

-- so it is after each round
round_closes : TurnOnlyAdds → (file : List ℕ) (set : ℕ) (old new : Between) → Closes set old → IsRound file old new
    → Closes set new
round_closes adds file set old new closes round =
    let broken : broken_in new.game.events ≡ true = broken_through adds file old new round closes.broken in
    record {
      broken = broken;
      of_set =
          λ later comes.
          of_same_set set round.round later old.in_set (all_sold new.game.events)
          (broken_in new.game.events) broken
          (closes.of_set round.round round.comes) (follows file old new later round comes);
    }

-- so no other set comes
pub no_set_after : TurnOnlyAdds → NoSetAfterBroken
no_set_after adds file set later broken there round upcoming is comes of_set played upcoming_comes =
    let first : Closes set broken =
    record {
      broken = is;
      of_set = λ at there_comes. subst (IsOfSet set)
          (comes_once round at (sym comes ∙ there_comes)) of_set;
    }
    in
    (through file (Closes set) (round_closes adds file set) later broken there played first).of_set
    upcoming
    upcoming_comes

-- after the last operating round of a set a broken bank leaves nothing
last_of_set : (set in_set : ℕ) (sold : Bool) → following (Operating set in_set) in_set sold true ≡ next.Ended
last_of_set set in_set sold = grind (arith, nat_tests)

-- whether or not a president is bankrupt too
ended_either : (bankrupt : Bool) (says : Next) → says ≡ next.Ended
    → (if bankrupt then next.Ended else says) ≡ next.Ended
ended_either bankrupt says over = grind arith

-- so nothing follows then
pub broken_ends : BrokenBankEndsSets
broken_ends file set old new round comes broken =
    let events = new.game.events in
    let same : round.round ≡ Operating set old.in_set =
    comes_once round.round (Operating set old.in_set) (sym round.comes ∙ comes) in
    let says : following round.round old.in_set (all_sold events) (broken_in events) ≡ next.Ended =
    ap (λ (it : Round). following it old.in_set (all_sold events) (broken_in events)) same
    ∙ ap (λ (b : Bool). following (Operating set old.in_set) old.in_set (all_sold events) b) broken
    ∙ last_of_set set old.in_set (all_sold events)
    in
    round.next_then ∙ ended_either (bankrupt_in events) _ says

-- the sequence ends after the last operating round of a set alone
last_in_set : (set number in_set : ℕ) (broken : Bool) → number ≤ in_set →
    following (Operating set number) in_set true broken ≡ next.Ended → (broken ≡ true) ×
    (number ≡ in_set)
last_in_set set number in_set broken within over = grind (arith, nat_tests)

ends_with_set : (round : Round) (in_set : ℕ) (sold broken : Bool) → IsInSet round in_set
    → following round in_set sold broken ≡ next.Ended →
    (broken ≡ true) × (set : ℕ) × (round ≡ Operating set in_set)
ends_with_set (Opening number) in_set sold broken within_set over = absurd (no_round _ (sym over))
ends_with_set (Stock set) in_set sold broken within_set over = absurd (no_round _ (sym over))
ends_with_set (Operating set number) in_set sold broken within_set over =
    let last = last_in_set set number in_set broken within_set.within over in (
      last.0,
      set,
      ap
          (Operating set) last.1,
    )

-- a game that ends without a bankruptcy ends as the sequence says
sequence_ends : (bankrupt : Bool) (says : Next) → bankrupt ≡ false
    → (if bankrupt then next.Ended else says) ≡ next.Ended → says ≡ next.Ended
sequence_ends bankrupt says solvent over = grind arith

-- nothing else ends a game
pub nothing_else : NothingElseEndsGames
nothing_else file rounds old new reached round over =
    let events = new.game.events in
    let within_set : IsInSet round.round old.in_set = comes_in_set file rounds old reached round.round round.comes in
    elim (cases_Bool (bankrupt_in events)) [
      | inl bankrupt ↦ inl bankrupt
      | inr solvent ↦
          let says = sequence_ends (bankrupt_in events) (following round.round old.in_set (all_sold events)
          (broken_in events)) solvent (sym round.next_then ∙ over) in
          let ends = ends_with_set round.round old.in_set (all_sold events) (broken_in events) within_set says in
          inr (ends.0, ends.1, round.comes ∙ ap next.Round ends.2)
    ]
