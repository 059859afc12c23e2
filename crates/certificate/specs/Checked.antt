-- Groups of certificates, of which each call of a runner uses one. A group shows the best runs of a
-- company's trains in a round if it is about that round and company, and its claim is accepted by
-- its bits. A call returns what the next group claims exactly if that is well formed and shows
-- them; otherwise it is refused. In each case that group is used up.
use Rattle.std.specs.Prelude.{◌≡◌, ℤ, pos, Option, Some, None, List, [], ◌∷◌, Result, Ok, Err}
use Rattle.reach.specs.Position.{Position}
use Rattle.tables.specs.declared.rolling_stock.Kind.{Kind}
use Rattle.tables.specs.declared.roster.Company.{Company}
use Rattle.tables.specs.declared.round.Round.{Round}
use Rattle.certificate.specs.Holding.{IsAcceptedClaim}
use Rattle.certificate.specs.declared.group.Group.{Group}
use Rattle.legal_runs.specs.declared.runner.RunnerFault.{RunnerFault}
use Rattle.legal_runs.specs.declared.runner.RunnerFault.TheVariants.{Memory, Refused}

-- a group shows the best runs of a company's trains in a round
pub record Shows (position : Position) (round : Round) (company : Company) (trains : List Kind) (group : Group) : Type
    0 where
  pub round_is : group.round ≡ round
  pub company_is : group.company ≡ company
  pub accepted : IsAcceptedClaim position company trains group.claim group.bits

-- what a call returns by a group, which is malformed if there is none
abbrev pub AnswersBy : Position → Round → Company → List Kind → Option Group → Result ℤ RunnerFault → Type 0
AnswersBy position round company trains None answer = answer ≡ Err Refused
AnswersBy position round company trains (Some group) (Ok money) =
    Shows position round company trains group × (money ≡ pos group.claim.revenue)
AnswersBy position round company trains (Some group) (Err Refused) = ¬ Shows position round company trains group
AnswersBy position round company trains (Some group) (Err Memory) = ⊥

-- what a call returns by the next of some groups, and the groups that are left; it is refused once
-- there is none
abbrev pub AnswersByNext : List (Option Group) → Position → Round → Company → List Kind → Result ℤ RunnerFault
    → List (Option Group) → Type 0
AnswersByNext [] position round company trains answer left = (answer ≡ Err Refused) × (left ≡ [])
AnswersByNext (group ∷ groups) position round company trains answer left =
    AnswersBy position round company trains group answer × (left ≡ groups)
