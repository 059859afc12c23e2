-- What is kept of the best runs that are found. Each call adds, last, a group for its round and
-- company. The group is accepted at the call's position for its trains, whatever fills up its last
-- digit as it is printed. It claims what the call returns, which is less than 50,000 dollars. If
-- allocation fails no group is added.
use Rattle.std.specs.Prelude.{◌≡◌, ◌<◌, ℤ, pos, List, [], ◌∷◌, ◌++◌, Result, Ok, Err}
use Rattle.certificate.specs.Filled.{IsAcceptedFilled}
use Rattle.certificate.specs.Holding.{IsAcceptedClaim}
use Rattle.certificate.specs.declared.group.Group.{Group}
use Rattle.legal_runs.specs.declared.runner.RunnerFault.{RunnerFault}
use Rattle.reach.specs.Position.{Position}
use Rattle.tables.specs.declared.rolling_stock.Kind.{Kind}
use Rattle.tables.specs.declared.roster.Company.{Company}
use Rattle.tables.specs.declared.round.Round.{Round}

-- one more group is kept
pub record KeepsOne (position : Position) (round : Round) (company : Company) (trains : List Kind) (money : ℤ)
    (old new : List Group) : Type 0 where
  pub group : Group
  pub kept : new ≡ old ++ group ∷ []
  pub of_round : group.round ≡ round
  pub of_company : group.company ≡ company
  pub accepted : IsAcceptedClaim position company trains group.claim group.bits
  pub filled : IsAcceptedFilled position company trains group.claim group.bits
  pub answered : money ≡ pos group.claim.revenue
  pub small : group.claim.revenue < 50000

-- what a call keeps, by what it returns
abbrev pub KeepsBest : List Group → Position → Round → Company → List Kind → Result ℤ RunnerFault → List Group → Type 0
KeepsBest old position round company trains (Ok money) new = KeepsOne position round company trains money old new
KeepsBest old position round company trains (Err fault) new = new ≡ old
