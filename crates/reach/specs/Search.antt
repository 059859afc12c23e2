-- What the search for what a company reaches keeps: for each end in each hex, whether some walk of
-- the company arrives there.
use Rattle.std.specs.Prelude.{◌≡◌, ◌↔◌, ℕ, ◌+◌, ◌*◌, ◌<◌, ◌≤◌, Bool, true, false, if◌then◌else◌, ◌⊎◌, List, [], ◌∷◌}
use Rattle.std.specs.Prelude.{◌++◌, Option, Some, None, IfSome, length, get_or, set, count_by}
use Rattle.map_tables.specs.Hex.{index_of}
use Rattle.map_tables.specs.Place.{joined_stop_of, stop_at, stop_index_of}
use Rattle.map_tables.specs.Side.{number_of}
use Rattle.map_tables.specs.declared.hex.Hex.{Hex}
use Rattle.map_tables.specs.declared.hex.Hex.TheVariants.{A9, A11, I1, J2}
use Rattle.map_tables.specs.declared.place.Stop.{Stop}
use Rattle.map_tables.specs.declared.track.TrackEnd.{TrackEnd}
use Rattle.map_tables.specs.declared.track.TrackEnd.TheVariants.{Side as AtSide, Stop as AtStop}
use Rattle.map_tables.specs.declared.track.Link.{Link}
use Rattle.reach.specs.Position.{Position, HasToken, IsFull, IsAmong, links_of}
use Rattle.reach.specs.Reached.{IsWalkOf}
use Rattle.reach.specs.Walk.{spot_at, entered_at, left_at, stop_of, across, AreJoined, IsTrack}
use Rattle.reach.specs.declared.walk.Spot.{Spot}
use Rattle.reach.specs.declared.walk.WalkStep.{WalkStep}
use Rattle.tables.specs.declared.roster.Company.{Company}

-- the number of spots of the map: eight for each of its 93 hexes
abbrev pub map_spots : ℕ
map_spots = 744

-- the number of an end of a hex on the map: eight for each hex. A stop that lies in two hexes has
-- one number.
abbrev pub number_at : Hex → TrackEnd → ℕ
number_at hex (AtSide side) = 8 * index_of hex + number_of side
number_at hex (AtStop number) =
    let joined = joined_stop_of (stop_at hex number) in 8 * index_of joined.hex + (6 + stop_index_of joined.number)

abbrev pub spot_number : Spot → ℕ
spot_number spot = number_at spot.hex spot.end

-- a spot is marked
abbrev pub IsMarked : List Bool → Spot → Type 0
IsMarked marks spot = get_or marks (spot_number spot) false ≡ true

-- a stop is listed under its own name, and is marked
abbrev pub IsMarkedStop : List Bool → Stop → Type 0
IsMarkedStop marks stop =
    (joined_stop_of stop ≡ stop) × IsMarked marks (spot_at stop.hex (AtStop stop.number))

-- these are all such stops
abbrev pub AreMarkedStops : List Bool → List Stop → Type 0
AreMarkedStops marks stops = (stop : Stop) → IsAmong stop stops ↔ IsMarkedStop marks stop

-- A walk that arrives where the marks say may enter a link at this spot. It is a stop that is
-- marked and not full, or a side of a border whose other side is marked.
abbrev pub CanEnterAt : Position → Company → List Bool → Hex → TrackEnd → Type 0
CanEnterAt position company marks hex (AtSide side) =
    (from : Spot) × (across (record { hex = hex; end = AtSide side }) ≡ Some from) × IsMarked marks from
CanEnterAt position company marks hex (AtStop number) =
    IsMarked marks (record { hex = hex; end = AtStop number })
    × ¬ IsFull position (joined_stop_of (stop_at hex number)) company

abbrev pub CanEnter : Position → Company → List Bool → Spot → Type 0
CanEnter position company marks spot = CanEnterAt position company marks spot.hex spot.end

-- a walk that arrives where the marks say may enter a link at one of its ends
abbrev pub CanEnterEither : Position → Company → List Bool → Link → Type 0
CanEnterEither position company marks link =
    CanEnter position company marks (spot_at link.hex link.a)
    ⊎ CanEnter position company marks (spot_at link.hex link.b)

-- such a walk may take a link of the position
abbrev pub CanTake : Position → Company → List Bool → Link → Type 0
CanTake position company marks link =
    IsAmong link (links_of position link.hex) × CanEnterEither position company marks link

-- such a walk may take each link that is kept
abbrev pub CanTakeAll : Position → Company → List Bool → (Link → Type 0) → Type 0
CanTakeAll position company marks kept = (link : Link) → kept link → CanTake position company marks link

-- what is kept is all links of the position that such a walk may take
abbrev pub AreTaken : Position → Company → List Bool → (Link → Type 0) → Type 0
AreTaken position company marks kept = (link : Link) → kept link ↔ CanTake position company marks link

-- no link is kept
abbrev pub KeepsNone : (Link → Type 0) → Type 0
KeepsNone kept = (link : Link) → ¬ kept link

-- one more link is kept
pub record IsKept (link : Link) (old new : Link → Type 0) : Type 0 where
  pub here : new link
  pub stay : (other : Link) → old other → new other
  pub only : (other : Link) → new other → old other ⊎ (link ≡ other)

-- the same links are kept
abbrev pub KeepsAsMany : (Link → Type 0) → (Link → Type 0) → Type 0
KeepsAsMany old new = (link : Link) → old link ↔ new link

-- a walk of the company arrives at a spot: it has a token there, or its latest link is left there
abbrev pub Arrives : Position → Company → Spot → Type 0
Arrives position company spot =
    ((stop : Stop) × (stop_of spot ≡ Some stop) × HasToken position stop company)
    ⊎ ((step : WalkStep) × (before : List WalkStep) × IsWalkOf position company (step ∷ before)
    × (spot_number (left_at step) ≡ spot_number spot))

-- walks arrive at all that is marked
abbrev pub AllArrive : Position → Company → List Bool → Type 0
AllArrive position company marks = (spot : Spot) → IsMarked marks spot → Arrives position company spot

-- all stops with a token of the company are marked
abbrev pub HasAllTokens : Position → Company → List Bool → Type 0
HasAllTokens position company marks =
    (spot : Spot) (stop : Stop) → stop_of spot ≡ Some stop → HasToken position stop company → IsMarked marks spot

-- where these steps lead from what is marked is marked as well
abbrev pub IsClosed : Position → Company → (WalkStep → Type 0) → List Bool → Type 0
IsClosed position company P marks =
    (step : WalkStep) → P step → CanEnter position company marks (entered_at step) → IsMarked marks (left_at step)

-- how many are marked
abbrev pub marked : List Bool → ℕ
marked marks = count_by (λ mark. mark) marks

-- a spot waits to be looked at
abbrev pub Waits : List Spot → Spot → Type 0
Waits [] spot = ⊥
Waits (other ∷ others) spot = (spot_number other ≡ spot_number spot) ⊎ Waits others spot

-- all that is marked waits, and there is nothing more
pub record AllWait (marks : List Bool) (waiting : List Spot) : Type 0 where
  pub all : (spot : Spot) → IsMarked marks spot → Waits waiting spot
  pub known : (spot : Spot) → Waits waiting spot → IsMarked marks spot

-- a spot is marked, and waits where it was not marked before
pub record IsMarking (spot : Spot) (old : List Bool) (waited : List Spot) (new : List Bool)
    (waiting : List Spot) : Type 0 where
  pub low : spot_number spot < length old
  pub marks : new ≡ (if get_or old (spot_number spot) false then old else set old (spot_number spot) true)
  pub waits : waiting ≡ (if get_or old (spot_number spot) false then waited else waited ++ spot ∷ [])

-- a stop is marked if the company has a token there
abbrev pub IsTokenMarked : Position → Company → Stop → List Bool → List Spot → List Bool → List Spot → Type 0
IsTokenMarked position company stop old waited new waiting =
    (HasToken position (joined_stop_of stop) company
    × IsMarking (spot_at stop.hex (AtStop stop.number)) old waited new waiting)
    ⊎ ((¬ HasToken position (joined_stop_of stop) company) × (new ≡ old) × (waiting ≡ waited))

-- a stop is appended if it is marked and is listed under its own name
abbrev pub IsPushed : List Bool → Stop → List Stop → List Stop → Type 0
IsPushed marks stop old new =
    (IsMarkedStop marks stop × (new ≡ old ++ stop ∷ [])) ⊎ ((¬ IsMarkedStop marks stop) × (new ≡ old))

-- a step enters its link at a spot
abbrev pub IsEnteredAt : Spot → WalkStep → Type 0
IsEnteredAt at step = spot_number (entered_at step) ≡ spot_number at

-- a step is followed from a spot: where it is left is marked, and its link is kept, if it is
-- entered there
pub record IsFollowed (step : WalkStep) (at : Spot) (old : List Bool) (waited : List Spot) (first : Link → Type 0)
    (new : List Bool) (waiting : List Spot) (kept : Link → Type 0) : Type 0 where
  pub entered : IsEnteredAt at step → IsMarking (left_at step) old waited new waiting
  pub link : IsEnteredAt at step → IsKept step.link first kept
  pub other : ¬ IsEnteredAt at step → (new ≡ old) × (waiting ≡ waited) × KeepsAsMany first kept

-- the other hex in which the stop of a hex lies
abbrev pub twin_of : Hex → Option Hex
twin_of J2 = Some I1
twin_of A11 = Some A9
twin_of hex = None

-- a walk that has arrived at a stop may go on there at a spot
pub record GoesOnAt (position : Position) (company : Company) (stop : Stop) (at : Spot) : Type 0 where
  pub there : stop_of at ≡ Some stop
  pub may_pass : ¬ IsFull position stop company

-- a walk that has arrived at a spot may go on at another: they are joined, and the stop is none
-- that is full
pub record LeadsTo (position : Position) (company : Company) (from at : Spot) : Type 0 where
  pub joined : AreJoined from at
  pub may_pass : IfSome (stop_of at) (λ stop. ¬ IsFull position stop company)

-- a step was followed: where it leads is marked, and its link is kept
abbrev pub WasFollowed : List Bool → (Link → Type 0) → WalkStep → Type 0
WasFollowed marks kept step = IsMarked marks (left_at step) × kept step.link

-- the steps were followed by which a walk that has arrived at a spot may go on
abbrev pub IsLookedAt : Position → Company → List Bool → (Link → Type 0) → Spot → Type 0
IsLookedAt position company marks kept from =
    (step : WalkStep) → IsTrack position step → LeadsTo position company from (entered_at step)
    → WasFollowed marks kept step

-- each spot that is marked waits to be looked at, or was looked at; and what waits is marked
pub record AreLookedAt (position : Position) (company : Company) (marks : List Bool) (waiting : List Spot)
    (kept : Link → Type 0) : Type 0 where
  pub known : (spot : Spot) → Waits waiting spot → IsMarked marks spot
  pub looked : (spot : Spot) → IsMarked marks spot → Waits waiting spot ⊎ IsLookedAt position company marks kept spot

-- What following such steps does. What is marked or kept stays so. Walks still arrive at all of it
-- and may take all those links. The steps were followed. As many more wait as are marked, and each
-- of those that are new is among them.
pub record Spreads (position : Position) (company : Company) (P : WalkStep → Type 0) (old : List Bool)
    (waited : List Spot) (first : Link → Type 0) (new : List Bool) (waiting : List Spot)
    (links : Link → Type 0) : Type 0 where
  pub length_kept : length new ≡ length old
  pub kept : (spot : Spot) → IsMarked old spot → IsMarked new spot
  pub arrive : AllArrive position company old → AllArrive position company new
  pub stay : (link : Link) → first link → links link
  pub taken : CanTakeAll position company old first → CanTakeAll position company new links
  pub followed : (step : WalkStep) → P step → WasFollowed new links step
  pub fresh : (spot : Spot) → IsMarked new spot → IsMarked old spot ⊎ Waits waiting spot
  pub still : (spot : Spot) → Waits waited spot → Waits waiting spot
  pub known : (spot : Spot) → Waits waiting spot → Waits waited spot ⊎ IsMarked new spot
  pub balance : length waiting + marked old ≡ length waited + marked new
  pub grown : marked old ≤ marked new
