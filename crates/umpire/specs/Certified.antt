-- What certifies a game: for each call that it makes of its runner, in order, a group for the round
-- and the company of the call. The group claims what the call returned, less than 50,000 dollars. It is
-- accepted at the position of the call for its trains, whatever fills up the last digit of its
-- marks as they are printed.
use Rattle.std.specs.Prelude.{◌≡◌, ◌<◌, ℕ, pos, List, [], ◌∷◌, Ok}
use Rattle.certificate.specs.Filled.{IsAcceptedFilled}
use Rattle.certificate.specs.Holding.{IsAcceptedClaim}
use Rattle.certificate.specs.declared.group.Group.{Group}
use Rattle.operating.specs.Calls.{Call}
use Rattle.rounds.specs.GameCalls.{GameCalls}
use Rattle.rounds.specs.Play.{Played}

-- a group certifies a call
pub record Certifies (call : Call) (group : Group) : Type 0 where
  pub of_round : group.round ≡ call.round
  pub of_company : group.company ≡ call.company
  pub accepted : IsAcceptedClaim call.position call.company call.trains group.claim group.bits
  pub filled : IsAcceptedFilled call.position call.company call.trains group.claim group.bits
  pub answered : call.answer ≡ Ok (pos group.claim.revenue)
  pub small : group.claim.revenue < 50000

-- groups certify calls, one each, in order
abbrev pub AreCertified : List Call → List Group → Type 0
AreCertified [] [] = Unit {0}
AreCertified [] (group ∷ groups) = ⊥
AreCertified (call ∷ calls) [] = ⊥
AreCertified (call ∷ calls) (group ∷ groups) = Certifies call group × AreCertified calls groups

-- they certify the game of a file
pub record CertifyGame (file : List ℕ) (groups : List Group) : Type 0 where
  pub played : Played
  pub calls : List Call
  pub made : GameCalls file (Ok played) calls
  pub certified : AreCertified calls groups
