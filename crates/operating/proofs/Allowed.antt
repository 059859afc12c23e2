-- What the rules of the board allow: no rule is broken, the cost is that of the board, and the
-- company has it.
use Rattle.std.proofs.Common.{◌≡◌, List, ◌++◌, Option, Some, None, refl, sym, ◌∙◌, ℕ, Ok, ℤ, pos, ◌≤◌, ◌≤ℤ◌, false}
use Rattle.std.proofs.Common.{arith, subst}
use Rattle.std.proofs.lemmas.Int.{ints}
use Rattle.std.specs.Int.RustNames.{unsigned_abs}
use Rattle.std.specs.Int.Signed.{lt_z}
use mir.Syntax.{w128}
use mir.Val.{of_z, to_z}
use Rattle.board.proofs.RuleTables.{earlier}
use Rattle.board.specs.LayRules.{cost_or}
use Rattle.tables.specs.Rules.{Rule, first_broken}

-- where no rule of two tables is broken, none of the first is
pub none_of_first : {Code : Type 0} (rules later : List (Rule Code)) → first_broken (rules ++ later) ≡ None
    → first_broken rules ≡ None
none_of_first {Code} rules later none =
    elim (first_broken rules) as (λ (found : Option Code). first_broken rules ≡ found → found ≡ None) [
      | None ↦ λ is. refl
      | Some code ↦ λ is. let wrong : Some code ≡ None = sym (earlier rules later code is) ∙ none in absurd (cc)
    ]
    refl

-- a result with a cost breaks no rule, and that is the cost
pub none_where_ok : {Fault : Type 0} (cost : ℤ) (priced : ℕ) (found : Option Fault) → Ok cost ≡ cost_or priced found
    → (found ≡ None) × (cost ≡ pos priced)
none_where_ok cost priced None given = (refl, cc)
none_where_ok cost priced (Some fault) given = cc

-- what is allowed at a cost: no rule that does not depend on what is reached is broken, and the
-- company has it
pub record IsAllowed (none : Type 0) (cost cash : ℤ) (priced : ℕ) : Type 0 where
  pub allowed : none
  pub is : cost ≡ pos priced
  pub pays : pos (unsigned_abs cost) ≤ℤ cash
  pub small : unsigned_abs cost ≤ 1000000
  pub whole : pos (unsigned_abs cost) ≡ cost
  pub kept : to_z w128 (of_z w128 cost) ≡ cost

-- a small sum that is not more than the cash
pub priced_well : {none : Type 0} (cost cash : ℤ) (priced : ℕ) → none → cost ≡ pos priced
    → lt_z cash (pos priced) ≡ false
    → priced ≤ 120 → IsAllowed none cost cash priced
priced_well cost cash priced allowed is enough small =
    record {
      allowed = allowed;
      is = is;
      pays = rw is (grind (arith, ints, enough));
      small = rw is (omega arith);
      whole = rw is refl;
      kept = omega (arith, ints, is, small);
    }

-- a cost as it is kept, which is itself
pub record IsKept (cost : ℤ) : Type 0 where
  pub whole : pos (unsigned_abs (to_z w128 (of_z w128 cost))) ≡ to_z w128 (of_z w128 cost)
  pub small : unsigned_abs (to_z w128 (of_z w128 cost)) ≤ 1000000

-- that of what is allowed is
pub cost_kept : (none : Type 0) (cost cash : ℤ) (priced : ℕ) → IsAllowed none cost cash priced → IsKept cost
cost_kept none cost cash priced may =
    record {
      whole = subst (λ (z : ℤ). pos (unsigned_abs z) ≡ z) (sym may.kept) may.whole;
      small = subst (λ (z : ℤ). unsigned_abs z ≤ 1000000) (sym may.kept) may.small;
    }

-- the amount of a small cost is small
pub amount_small : (cost : ℤ) (amount : ℕ) → amount ≡ unsigned_abs cost → unsigned_abs cost ≤ 1000000 → amount ≤ 1000000
amount_small cost amount is small = omega (arith, is, small)
