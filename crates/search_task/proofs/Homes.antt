-- The spots where the company has tokens, listed one after another.
use Rattle.std.proofs.Common.{◌≡◌, ℕ, ◌+◌, ◌*◌, ◌≤◌, true, false, inl, inr, List, [], ◌∷◌, ◌++◌, sym, subst, arith}
use Rattle.std.proofs.lemmas.Bool.{cases_lt}
use Rattle.search_task.specs.declared.task.Task.{Task}
use Rattle.search_task.specs.Fit.{IsFit}
use Rattle.search_task.specs.Spots.{node_at, own_in}
use Rattle.search_task.specs.Legs.{AreHomes, HasNoHome}
use Rattle.search_task.proofs.Places.{below_next}

-- between two numbers there are none
pub homes_on : (task : Task) (from to next : ℕ) (homes : List ℕ) → to ≤ next → HasNoHome task to next
    → AreHomes task from to homes → AreHomes task from next homes
homes_on task from to next [] more none are = λ spot least low.
    elim (cases_lt spot to) [ inl less ↦ are spot least less | inr past ↦ none spot past low ]
homes_on task from to next (home ∷ homes) more none are =
    (are.0, omega (arith, are.1, more), are.2, are.3, homes_on task (home + 1) to next homes more none are.4)

-- there is none at the sides of a hex
pub no_home : (task : Task) → IsFit task → (hex : ℕ) → HasNoHome task (8 * hex) (8 * hex + 6)
no_home task fit hex spot least low = (fit.sides spot (omega (arith, least, low))).1

pub homes_listed : (task : Task) (from to : ℕ) (homes : List ℕ) → from ≤ to → own_in (node_at task to) ≡ true
    → AreHomes task from to homes → AreHomes task from (to + 1) (homes ++ to ∷ [])
homes_listed task from to [] least own are =
    (least, omega arith, own, are, λ spot after low. absurd (omega (arith, after, low)))
homes_listed task from to (home ∷ homes) least own are =
    (are.0, omega (arith, are.1), are.2, are.3, homes_listed task (home + 1) to homes (omega (arith, are.1)) own are.4)

pub homes_same : (task : Task) (from to : ℕ) (homes : List ℕ) → own_in (node_at task to) ≡ false
    → AreHomes task from to homes → AreHomes task from (to + 1) homes
homes_same task from to [] none are = λ spot least low.
    elim (below_next spot to low) [
      | inl less ↦ are spot least less
      | inr same ↦ subst (λ (n : ℕ). own_in (node_at task n) ≡ false) (sym same) none
    ]
homes_same task from to (home ∷ homes) none are =
    (are.0, omega (arith, are.1), are.2, are.3, homes_same task (home + 1) to homes none are.4)
