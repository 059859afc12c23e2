-- What is found for the trains, greatest first, holds in whichever order they are.
use Rattle.std.proofs.Common.{◌≡◌, List, ap, refl, subst, sym, ◌∙◌, arith}
use Rattle.reach.specs.Position.{Position}
use Rattle.tables.specs.declared.rolling_stock.Kind.{Kind}
use Rattle.tables.specs.declared.roster.Company.{Company}
use Rattle.legal_runs.specs.Claim.{ClaimHolds, NameRuns}
use Rattle.legal_runs.specs.Set.{IsGreatest, TrainRun}
use Rattle.certificate.specs.Tree.{greatest_first}
use Rattle.legal_runs.specs.declared.claim.Claim.{Claim}
use Rattle.legal_runs.specs.declared.claim.ClaimedRun.{ClaimedRun}
use Rattle.legal_runs.proofs.Greatest.{order_of_trains}
use Rattle.certificate.proofs.Leaves.{same_number}
use Rattle.best_run.specs.Revenue.{IsBest}
use Rattle.best_run.specs.MovePath.{CanBeRead, runs_in, written}
use Rattle.best_run.specs.declared.memo.Found.{Found}
use Rattle.best_run.proofs.revenue.best.Goals as goal

-- what is found is the greatest revenue of the trains in any order
greatest : (position : Position) (company : Company) (trains : List Kind) (found : Found)
    → IsBest position company (greatest_first trains) found → IsGreatest position company trains found.amount
greatest position company trains found best =
    order_of_trains position company (greatest_first trains) trains found.amount (λ kind. same_number kind trains)
    best.greatest

-- and the claim of what is found holds for them
holds : (position : Position) (company : Company) (trains : List Kind) (found : Found) (claim : Claim)
    → IsBest position company (greatest_first trains) found →
    claim.runs ≡ written (runs_in (greatest_first trains) found.move_path) → claim.revenue ≡ found.amount
    → ClaimHolds position company trains claim
holds position company trains found claim best is earned =
    let runs : List TrainRun = runs_in (greatest_first trains) found.move_path in (
      runs,
      subst (λ (claims : List ClaimedRun). NameRuns position claims runs) (sym is) best.names,
      record {
        legal = best.set.legal;
        each_once = λ kind. omega
            (arith, best.set.each_once kind, same_number kind trains);
        apart = best.set.apart;
      },
      best.earns ∙ sym earned,
    )

pub claimed_runs-requires : goal.claimed_runs-requires
claimed_runs-requires g c =
    let sorted = c.deref.ensures.value in
    let again = c.deref-2.ensures.value in
    subst (λ (ks : List Kind). CanBeRead ks c.in_ok-found.found.move_path) (sorted ∙ sym again)
    c.in_ok-found.ensures.written_out

pub returns-clause-accepted : goal.returns-clause-accepted
returns-clause-accepted g c =
    let position = g.N.Network.position c.args.network.now in
    let company = c.args.company in
    let trains = c.args.trains.now in
    let found = c.in_ok-found.found in
    let best : IsBest position company (greatest_first trains) found =
    subst (λ (ks : List Kind). IsBest position company ks found) (c.deref.ensures.value ∙ c.in_ok-kinds.ensures)
    c.in_ok-found.ensures in
    let claimed : c.in_ok-runs.runs ≡ written (runs_in (greatest_first trains) found.move_path) =
    c.in_ok-runs.ensures ∙ ap (λ (ks : List Kind). written (runs_in ks found.move_path))
    (c.deref-2.ensures.value ∙ c.in_ok-kinds.ensures) in
    let claim : Claim = record { revenue = found.amount; runs = c.in_ok-runs.runs } in
    record {
      claim_holds = holds position company trains found claim best claimed refl;
      are_marks = c.in_ok-marks.ensures.marks (greatest position company trains found best);
    }

pub returns-clause-filled : goal.returns-clause-filled
returns-clause-filled g c =
    let position = g.N.Network.position c.args.network.now in
    let company = c.args.company in
    let trains = c.args.trains.now in
    let found = c.in_ok-found.found in
    let best : IsBest position company (greatest_first trains) found =
    subst (λ (ks : List Kind). IsBest position company ks found) (c.deref.ensures.value ∙ c.in_ok-kinds.ensures)
    c.in_ok-found.ensures in
    let claimed : c.in_ok-runs.runs ≡ written (runs_in (greatest_first trains) found.move_path) =
    c.in_ok-runs.ensures ∙ ap (λ (ks : List Kind). written (runs_in ks found.move_path))
    (c.deref-2.ensures.value ∙ c.in_ok-kinds.ensures) in
    let claim : Claim = record { revenue = found.amount; runs = c.in_ok-runs.runs } in
    λ filling fills. record {
      claim_holds = holds position company trains found claim best claimed refl;
      are_marks = c.in_ok-marks.ensures.filled (greatest position company trains found best) filling fills;
    }

pub returns-clause-greatest : goal.returns-clause-greatest
returns-clause-greatest g c =
    let position = g.N.Network.position c.args.network.now in
    let company = c.args.company in
    let trains = c.args.trains.now in
    let found = c.in_ok-found.found in
    greatest position company trains found
    (subst (λ (ks : List Kind). IsBest position company ks found) (c.deref.ensures.value ∙ c.in_ok-kinds.ensures)
    c.in_ok-found.ensures)
