-- How a claim is checked. Its runs are checked one after the other, each over the borders that
-- those before it have left free, until they have earned what is claimed. Its trains are counted.
use Rattle.std.specs.Prelude.{◌≡◌, ◌↔◌, ℕ, ◌-◌, ◌≤◌, nat_le, Bool, List, [], ◌∷◌, map, count_by}
use Rattle.reach.specs.Position.{Position}
use Rattle.tables.specs.Train.{same_kind}
use Rattle.tables.specs.declared.rolling_stock.Kind.{Kind}
use Rattle.tables.specs.declared.roster.Company.{Company}
use Rattle.legal_runs.specs.Claim.{ClaimHolds}
use Rattle.legal_runs.specs.Fault.{named_steps}
use Rattle.legal_runs.specs.Law.{NameLegalRun}
use Rattle.legal_runs.specs.Legal.{crossed, earned}
use Rattle.legal_runs.specs.Marks.{borders_used, marked}
use Rattle.legal_runs.specs.Set.{AreTakenFrom}
use Rattle.legal_runs.specs.TwoTrain.{none_used}
use Rattle.legal_runs.specs.declared.claim.Claim.{Claim}
use Rattle.legal_runs.specs.declared.claim.ClaimedRun.{ClaimedRun}

-- the trains of claimed runs
abbrev pub kinds_claimed : List ClaimedRun → List Kind
kinds_claimed claimed = map (λ run. run.kind) claimed

-- there are as many trains of a kind as claimed runs
abbrev pub has_enough : List Kind → List ClaimedRun → Kind → Bool
has_enough trains claimed kind =
    nat_le (count_by (λ run. same_kind run.kind kind) claimed) (count_by (λ train. same_kind train kind) trains)

-- claimed runs are legal one after the other, with these borders used, and earn this much together
abbrev pub AreLegalInTurn : Position → Company → List Bool → ℕ → List ClaimedRun → Type 0
AreLegalInTurn position company used left [] = left ≡ 0
AreLegalInTurn position company used left (claimed ∷ later) =
    NameLegalRun position company claimed.kind (borders_used used) claimed.run
    × (earned position (named_steps position claimed.run) ≤ left)
    × AreLegalInTurn position company (marked used (crossed (named_steps position claimed.run)))
    (left - earned position (named_steps position claimed.run)) later

-- a claim holds exactly if this check passes
abbrev pub ClaimHoldsInTurn : Type 0
ClaimHoldsInTurn =
    (position : Position) (company : Company) (trains : List Kind) (claim : Claim) →
    ClaimHolds position company trains claim
    ↔ (AreTakenFrom trains (kinds_claimed claim.runs)
    × AreLegalInTurn position company none_used claim.revenue claim.runs)
