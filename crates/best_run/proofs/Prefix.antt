-- The beginning of a walk: what holds of a walk holds of each of its beginnings.
use Rattle.std.proofs.Common.{◌≡◌, ℕ, ◌≤◌, true, inl, inr, List, [], ◌∷◌, ◌++◌, length, sym, subst}
use Rattle.std.proofs.Common.{arith, length-append}
use Rattle.reach.specs.Position.{Position, IsAmong, IsFull, is_red}
use Rattle.reach.specs.Walk.{BeginsAt, IsWalk, PassesOnly, entered_at, left_at, stop_of}
use Rattle.reach.specs.declared.walk.WalkStep.{WalkStep}
use Rattle.tables.specs.declared.roster.Company.{Company}
use Rattle.legal_runs.specs.Legal.{AreDistinct, border_at, crossed, listed, visited}
use Rattle.legal_runs.proofs.Marks.{among_both}

-- some steps after others, the first of them first
abbrev pub onto : {A : Type 0} → List A → List A → List A
onto [] before = before
onto (step ∷ later) before = onto later (step ∷ before)

-- what a list of distinct things has after some of them is distinct, and apart from them
pub distinct_right : {A : Type 0} (first second : List A) → AreDistinct (first ++ second) → AreDistinct second
distinct_right [] second distinct = distinct
distinct_right (x ∷ first) second distinct = distinct_right first second distinct.1

pub distinct_apart : {A : Type 0} (first second : List A) → AreDistinct (first ++ second) → (x : A) → IsAmong x first
    → IsAmong x second → ⊥
distinct_apart [] second distinct x here there = here
distinct_apart (y ∷ first) second distinct x here there =
    elim here [
      | inl is ↦ distinct.0 (subst (λ z. IsAmong z (first ++ second)) (sym is)
          ((among_both x first second).1 (inr there)))
      | inr later ↦ distinct_apart first second distinct.1 x later there
    ]

-- what is kept of a walk from stop to stop, step by step
pub record Holds (position : Position) (company : Company) (most : ℕ) (others : List ℕ) (steps : List WalkStep) : Type
    0 where
  pub walk : IsWalk position steps
  pub begins : BeginsAt (λ stop. Unit {0}) steps
  pub few : length (visited steps) ≤ most
  pub stops : AreDistinct (visited steps)
  pub borders : AreDistinct (crossed steps)
  pub free : (border : ℕ) → IsAmong border (crossed steps) → ¬ IsAmong border others
  pub red : PassesOnly (λ stop. ¬ (is_red position stop ≡ true)) steps
  pub full : PassesOnly (λ stop. ¬ IsFull position stop company) steps

-- one step fewer
holds_before : (position : Position) (company : Company) (most : ℕ) (others : List ℕ) (next step : WalkStep)
    (before : List WalkStep) → Holds position company most others (next ∷ step ∷ before)
    → Holds position company most others (step ∷ before)
holds_before position company most others next step before holds =
    record {
      walk = holds.walk.2;
      begins = holds.begins;
      few = omega (arith, holds.few, length-append (listed (stop_of (left_at next))) (visited (step ∷ before)));
      stops = distinct_right (listed (stop_of (left_at next))) (visited (step ∷ before)) holds.stops;
      borders = distinct_right (border_at (entered_at next).hex (entered_at next).end) (crossed (step ∷ before))
          holds.borders;
      free = λ border among. holds.free border ((among_both border
          (border_at (entered_at next).hex (entered_at next).end) (crossed (step ∷ before))).1 (inr among));
      red = holds.red.1;
      full = holds.full.1;
    }

-- a beginning
pub holds_first : (position : Position) (company : Company) (most : ℕ) (others : List ℕ) (later : List WalkStep)
    (step : WalkStep) (before : List WalkStep) → Holds position company most others (onto later (step ∷ before))
    → Holds position company most others (step ∷ before)
holds_first position company most others [] step before holds = holds
holds_first position company most others (next ∷ later) step before holds =
    holds_before position company most others next step before
    (holds_first position company most others later next (step ∷ before) holds)
