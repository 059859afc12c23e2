-- A run leaves its first stop by a link of a hex in which that stop lies, so the company has a token
-- in that hex.
use Rattle.std.proofs.Common.{◌≡◌, true, false, get_or, if◌then◌else◌, inl, inr, ◌⊎◌, sym, ◌∙◌, subst, Some}
use Rattle.map_tables.specs.Place.{joined_stop_of, stop_at, stop_index_of}
use Rattle.map_tables.specs.declared.hex.Hex.{Hex}
use Rattle.map_tables.specs.declared.place.Stop.{Stop}
use Rattle.map_tables.specs.declared.place.StopNumber.{StopNumber}
use Rattle.map_tables.specs.declared.place.StopNumber.TheVariants.{First, Second}
use Rattle.map_tables.specs.declared.track.TrackEnd.{TrackEnd}
use Rattle.map_tables.specs.declared.track.TrackEnd.TheVariants.{Side as AtSide, Stop as AtStop}
use Rattle.reach.specs.Lawful.{IsLawful}
use Rattle.reach.specs.Position.{HasToken, IsAmong, Position, in_hex, links_of, no_stop}
use Rattle.reach.specs.Walk.{stop_at_end}
use Rattle.reach.specs.declared.walk.WalkStep.{WalkStep}
use Rattle.reach.proofs.Collected.{lies_there}
use Rattle.reach.proofs.Hexes.{joined_twice}
use Rattle.legal_runs.specs.TwoTrain.{LeavesToken}
use Rattle.legal_runs.proofs.two_train.leaves_hex.Goals as goal
use Rattle.tables.specs.declared.roster.Company.{Company}

-- a company has a token at the stop that a name names
abbrev IsNamed : Position → Company → Stop → Type 0
IsNamed position company named =
    IsAmong company (get_or (in_hex position named.hex).stops (stop_index_of named.number) no_stop).tokens

-- a company has a token at a stop of a hex
abbrev HasTokenIn : Position → Company → Hex → Type 0
HasTokenIn position company hex =
    HasToken position (stop_at hex First) company ⊎ HasToken position (stop_at hex Second) company

by_number :
    (position : Position) (company : Company) (hex : Hex) (number : StopNumber) →
    HasToken position (stop_at hex number) company → HasTokenIn position company hex
by_number position company hex First token = inl token
by_number position company hex Second token = inr token

by_end :
    (position : Position) (company : Company) (hex : Hex) (end : TrackEnd) (start : Stop) →
    stop_at_end hex end ≡ Some start → HasToken position start company → HasTokenIn position company hex
by_end position company hex (AtSide side) start is token = absurd cc
by_end position company hex (AtStop number) start is token =
    let same : joined_stop_of (stop_at hex number) ≡ start = cc in
    let named : HasToken position (joined_stop_of (stop_at hex number)) company =
    subst (λ s. HasToken position s company) (sym same) token in
    by_number position company hex number
    (subst (IsNamed position company) (joined_twice (stop_at hex number)) named)

token_there :
    (position : Position) (company : Company) (hex : Hex) (step : WalkStep) →
    IsLawful position → IsAmong step.link (links_of position hex) → LeavesToken position company step
    → HasTokenIn position company hex
token_there position company hex step lawful among leaves =
    let here : step.link.hex ≡ hex = lies_there hex (links_of position hex) step.link (lawful.links hex).here among in
    subst (HasTokenIn position company) here
    (by_end position company step.link.hex (if step.turned then step.link.b else step.link.a) leaves.0 leaves.1
    leaves.2)

pub returns-else-has_token_in : goal.returns-else-has_token_in
returns-else-has_token_in g c =
    let position : Position = g.N.Network.position c.args.network.now in (
      λ wrong. absurd cc,
      λ found.
          let wrong : true ≡ false = sym (c.has_token_in.ensures.1 (token_there position c.args.company c.args.hex
          found.0 c.requires found.1 found.2)) ∙ c.if-has_token_in.false in absurd cc,
    )
