-- What a company reaches. A walk from a stop with a token of the company reaches what it touches.
-- It may end in a city that is full for the company, and may not pass one; it may pass a red stop.
-- The stop of a token is always reached.
use Rattle.std.specs.Prelude.{◌≡◌, ◌↔◌, ℕ, ◌+◌, ◌*◌, ◌<◌, ◌⊎◌, List, [], ◌∷◌}
use Rattle.std.specs.List.{AllByRecursion}
use Rattle.map_tables.specs.Hex.{index_of}
use Rattle.map_tables.specs.Place.{joined_stop_of, stop_index_of}
use Rattle.map_tables.specs.declared.place.Stop.{Stop}
use Rattle.map_tables.specs.declared.track.Link.{Link}
use Rattle.reach.specs.Position.{Position, HasToken, IsAmong, IsFull}
use Rattle.reach.specs.Walk.{IsWalk, BeginsAt, PassesOnly, TouchesLink, TouchesStop}
use Rattle.reach.specs.declared.walk.WalkStep.{WalkStep}
use Rattle.tables.specs.declared.roster.Company.{Company}

-- a walk of a company: it begins at a token of the company and passes no city that is full for it
pub record IsWalkOf (position : Position) (company : Company) (steps : List WalkStep) : Type 0 where
  pub walk : IsWalk position steps
  pub from_token : BeginsAt (λ stop. HasToken position stop company) steps
  pub passes : PassesOnly (λ stop. ¬ IsFull position stop company) steps

-- a link is reached: a walk of the company touches it
abbrev pub ReachesLink : Position → Company → Link → Type 0
ReachesLink position company link = (steps : List WalkStep) × IsWalkOf position company steps × TouchesLink link steps

-- a stop is reached: the company has a token there, or a walk of the company touches it
abbrev pub ReachesStop : Position → Company → Stop → Type 0
ReachesStop position company stop = ((joined_stop_of stop ≡ stop) × HasToken position stop company)
    ⊎ ((steps : List WalkStep) × IsWalkOf position company steps × TouchesStop stop steps)

-- the number of places for stops on the map: two for each of its 93 hexes
abbrev pub map_stops : ℕ
map_stops = 186

-- the place of a stop in the order of the map: by its hex, and then by its number
abbrev pub stop_order : Stop → ℕ
stop_order stop = 2 * index_of stop.hex + stop_index_of stop.number

-- things are in order, each before all that come later, and so none twice
abbrev pub AreSortedBy : {A : Type 0} → (A → ℕ) → List A → Type 0
AreSortedBy order [] = Unit {0}
AreSortedBy order (thing ∷ later) = AllByRecursion (λ other. order thing < order other) later × AreSortedBy order later

-- what is said to be reached: stops and links
pub record Reaching : Type 0 where
  pub stops : List Stop
  pub links : List Link

-- exactly what a company reaches, the stops in the order of the map
pub record IsReach (position : Position) (company : Company) (reach : Reaching) : Type 0 where
  pub stops : (stop : Stop) → IsAmong stop reach.stops ↔ ReachesStop position company stop
  pub in_order : AreSortedBy stop_order reach.stops
  pub links : (link : Link) → IsAmong link reach.links ↔ ReachesLink position company link
