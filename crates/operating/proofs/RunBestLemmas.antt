-- The trains of a company, one for one, and what its best runs earn.
use Rattle.std.proofs.Common.{◌≡◌, ◌≤◌, ◌||◌, Bool, true, false, not, refl, List, arith, ℕ}
use Rattle.std.proofs.Common.{◌++◌, replicate, ap, ◌∙◌, ◌<◌, ℤ, pos, ◌≤ℤ◌, sym, subst}
use Rattle.std.proofs.lemmas.Int.{ints}
use Rattle.std.specs.Int.RustNames.{unsigned_abs}
use mir.Syntax.{w128}
use mir.Val.{of_z, to_z}
use Rattle.board_state.specs.MapState.{MapState, position_of}
use Rattle.legal_runs.specs.Greatest.{AGreatestExists, OneGreatest}
use Rattle.legal_runs.specs.Set.{IsGreatest, IsGreatestMoney}
use Rattle.reach.specs.Lawful.{IsLawful}
use Rattle.reach.specs.Position.{Position}
use Rattle.tables.specs.declared.rolling_stock.Kind.{Kind}
use Rattle.tables.specs.declared.roster.Company.{Company}
use Rattle.totals.specs.Trains.{at_least_zero}

-- a company without a train has none to run
pub without_train : (seen held ran : Bool) → seen ≡ held → seen ≡ false → not seen ≡ (not held || ran)
without_train false false ran same none = refl
without_train false true ran same none = cc
without_train true held ran same none = cc

-- one with a train has none to run where one has run
pub with_train : (seen held ran : Bool) → seen ≡ held → seen ≡ true → ran ≡ (not held || ran)
with_train true true ran same one = refl
with_train true false ran same one = cc
with_train false held ran same one = cc

-- a greatest revenue is small
pub small_greatest :
    AGreatestExists → OneGreatest → (position : Position) (company : Company) (trains : List Kind) (revenue : ℕ)
    → IsLawful position →
    IsGreatest position company trains revenue → revenue ≤ 50000
small_greatest exists one position company trains revenue lawful greatest =
    let there = exists position company trains lawful in
    let same : there.0 ≡ revenue = one position company trains there.0 revenue there.1 greatest in
    let small : there.0 < 50000 = there.2 in
    omega (arith, same, small)

-- as many trains of a kind after others
pub same_count : (trains : List Kind) (kind : Kind) (count other : ℤ) → count ≡ other →
    trains ++ replicate (at_least_zero count) kind ≡ trains ++ replicate (at_least_zero other) kind
same_count trains kind count other same = ap (λ (n : ℤ). trains ++ replicate (at_least_zero n) kind) same

module _ (exists : AGreatestExists) (one : OneGreatest) where
  -- a sum of money that is a greatest revenue is small
  pub small_sum :
      (position : Position) (company : Company) (trains : List Kind) (money : ℤ) → IsLawful position →
      IsGreatestMoney position company trains money → to_z w128 (of_z w128 money) ≤ℤ pos 50000
  small_sum position company trains money lawful greatest =
      let small : greatest.0 ≤ 50000 = small_greatest exists one position company trains greatest.0 lawful greatest.2 in
      let is : money ≡ pos greatest.0 = greatest.1 in
      omega (arith, ints, is, small)

  -- as an amount it is the same sum
  pub same_sum :
      (position : Position) (company : Company) (trains : List Kind) (money : ℤ) (amount : ℕ) → IsLawful position →
      pos amount ≡ to_z w128 (of_z w128 money) → IsGreatestMoney position company trains money → money ≡ pos amount
  same_sum position company trains money amount lawful kept greatest =
      let small : greatest.0 ≤ 50000 = small_greatest exists one position company trains greatest.0 lawful greatest.2 in
      let is : money ≡ pos greatest.0 = greatest.1 in
      omega (arith, ints, kept, is, small)

  -- so it is the greatest revenue, and small
  as_amount :
      (position : Position) (company : Company) (trains : List Kind) (money : ℤ) (amount : ℕ) → IsLawful position →
      pos amount ≡ to_z w128 (of_z w128 money) → IsGreatestMoney position company trains money →
      IsGreatest position company trains amount × (amount ≤ 50000)
  as_amount position company trains money amount lawful kept greatest =
      let small : greatest.0 ≤ 50000 = small_greatest exists one position company trains greatest.0 lawful greatest.2 in
      let same : pos greatest.0 ≡ pos amount =
      sym greatest.1 ∙ same_sum position company trains money amount lawful kept greatest in
      let amounts : greatest.0 ≡ amount = ap unsigned_abs same in
      (subst (IsGreatest position company trains) amounts greatest.2, subst (λ (n : ℕ). n ≤ 50000) amounts small)

  -- so it is by the board and the trains of the call
  pub answered_greatest :
      (laid map_state : MapState) (company : Company) (trains held : List Kind) (money : ℤ) (amount : ℕ)
      → laid ≡ map_state → trains ≡ held →
      IsLawful (position_of laid) → pos amount ≡ to_z w128 (of_z w128 money)
      → IsGreatestMoney (position_of laid) company trains money →
      IsGreatest (position_of map_state) company held amount × (amount ≤ 50000)
  answered_greatest laid map_state company trains held money amount is_laid are_held lawful kept greatest =
      let recorded = as_amount (position_of laid) company trains money amount lawful kept greatest in (
        subst (λ (g : MapState). IsGreatest (position_of g) company held amount) is_laid
            (subst (λ (all : List Kind). IsGreatest (position_of laid) company all amount) are_held recorded.0),
        recorded.1,
      )
