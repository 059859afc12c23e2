-- What holds of the round that comes next, if one does.
use Rattle.std.proofs.Common.{◌≡◌, ℕ, zero, suc, ◌+◌, Bool, true, false, nat_lt, if◌then◌else◌}
use Rattle.std.proofs.Common.{List, refl, sym, ap, subst, ◌∙◌, arith}
use Rattle.std.specs.Prelude.{⊤}
use Rattle.events.specs.declared.event.Event.{Event}
use Rattle.totals.specs.LookBack.{bankrupt_in, broken_in}
use Rattle.privates.specs.Turn.{all_sold}
use Rattle.rounds.specs.Play.{Between, IsRound, coming, in_set_before, AreRounds}
use Rattle.rounds.specs.Sequence.{BankAloneEndsIt, following}
use Rattle.rounds.specs.declared.following.Next.{Next}
use Rattle.rounds.specs.declared.following.Next.TheVariants as next
use Rattle.tables.specs.declared.round.Round.{Round}
use Rattle.tables.specs.declared.round.Round.TheVariants.{Opening, Stock, Operating}

-- it holds of the round that is next, if one is
abbrev pub OfNext : (Round → Type 0) → Next → Type 0
OfNext P (next.Round round) = P round
OfNext P next.Ended = ⊤

-- so it does of a round that comes
pub of_coming : (P : Round → Type 0) (coming : Next) (later : Round) → coming ≡ next.Round later → OfNext P coming
    → P later
of_coming P coming later comes holds = subst (λ (it : Next). OfNext P it) comes holds

-- after an operating round: the next of the set, or the stock round of the next set
pub after_operating : (P : Round → Type 0) (set number in_set : ℕ) (all_sold broken : Bool) →
    (nat_lt number in_set ≡ true → P (Operating set (number + 1))) →
    (nat_lt number in_set ≡ false → P (Stock (set + 1))) →
    OfNext P (following (Operating set number) in_set all_sold broken)
after_operating P set number in_set all_sold broken goes_on ends =
    let after : Next = if broken then next.Ended else next.Round (Stock (set + 1)) in
    elim (nat_lt number in_set) as (λ (more : Bool). nat_lt number in_set ≡ more →
    OfNext P (if more then next.Round (Operating set (number + 1)) else after)) [
      | true ↦ goes_on
      | false ↦ λ past.
          elim broken as (λ (b : Bool). OfNext P (if b then next.Ended else next.Round (Stock (set + 1)))) [
            | true ↦ tt
            | false ↦ ends past
          ]
    ]
    refl

-- what holds after each round, if it did before it, holds after all
pub through : (file : List ℕ) (P : Between → Type 0) → ((old new : Between) → P old → IsRound file
    old new → P new)
    → (rounds : ℕ) (old new : Between) → AreRounds file rounds old new → P old → P new
through file P each zero old new played holds = subst P played holds
through file P each (suc rounds) old new played holds =
    each played.0 new (through file P each rounds old played.0 played.1 holds) played.2

-- two rounds that come next are the same
pub comes_once : (a b : Round) → next.Round a ≡ next.Round b → a ≡ b
comes_once a b same = cc

-- while the bank is not broken, a round comes
pub some_comes : BankAloneEndsIt
some_comes (Opening number) in_set all_sold = (_, refl)
some_comes (Stock set) in_set all_sold = (_, refl)
some_comes (Operating set number) in_set all_sold =
    elim (nat_lt number in_set) as (λ (more : Bool). (later : Round) ×
    ((if more then next.Round (Operating set (number + 1)) else next.Round (Stock (set + 1))) ≡ next.Round later)) [
      | true ↦ (_, refl)
      | false ↦ (_, refl)
    ]

-- the end is no round
pub no_round : (round : Round) → next.Ended ≡ next.Round round → ⊥
no_round round same = cc

-- a round that comes is the one that the sequence says
in_sequence : (bankrupt : Bool) (says : Next) (later : Round)
    → (if bankrupt then next.Ended else says) ≡ next.Round later → says ≡ next.Round later
in_sequence bankrupt says later comes = grind arith

-- so is one that comes after a round
pub comes_in_sequence : (round later : Round) (in_set : ℕ) (events : List Event)
    → coming round in_set events ≡ next.Round later →
    following round in_set (all_sold events) (broken_in events) ≡ next.Round later
comes_in_sequence round later in_set events comes =
    in_sequence (bankrupt_in events) (following round in_set (all_sold events) (broken_in events)) later comes

module _ (file : List ℕ) (old new : Between) (later : Round) (round : IsRound file old new)
    (comes : new.next ≡ next.Round later) where
  -- so is one that comes after a round that was played
  pub follows : following round.round old.in_set (all_sold new.game.events) (broken_in new.game.events)
      ≡ next.Round later
  follows = comes_in_sequence round.round later old.in_set new.game.events (sym round.next_then ∙ comes)

  -- and its set has this many operating rounds
  pub in_set_then : new.in_set ≡ in_set_before (next.Round later) new.game.events old.in_set
  in_set_then = round.in_set_then ∙ ap (λ (it : Next). in_set_before it new.game.events old.in_set) comes
