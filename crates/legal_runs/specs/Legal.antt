-- A legal run of a train: a walk from a stop to a stop. It visits at least two stops and at most as
-- many as its kind may, none of them twice, and at one of them the company has a token. It crosses
-- no border twice, and none that earlier runs of the company in this turn have crossed. It passes
-- no red stop and no city that is full for the company; it may begin and end at such a stop.
-- Nothing here depends on places, in which a run is ordered.
use Rattle.std.specs.Prelude.{◌≡◌, ℕ, ◌+◌, ◌-◌, ◌*◌, ◌≤◌, true, nat_lt, if◌then◌else◌, Option, Some, None, ◌⊎◌, List}
use Rattle.std.specs.Prelude.{[], ◌∷◌, ◌++◌, length}
use Rattle.std.specs.List.{AllByRecursion}
use Rattle.map_tables.specs.Border.{neighbour_of}
use Rattle.map_tables.specs.Hex.{index_of}
use Rattle.map_tables.specs.Side.{number_of}
use Rattle.map_tables.specs.declared.hex.Hex.{Hex}
use Rattle.map_tables.specs.declared.place.Stop.{Stop}
use Rattle.map_tables.specs.declared.side.Side.{Side}
use Rattle.map_tables.specs.declared.track.TrackEnd.{TrackEnd}
use Rattle.map_tables.specs.declared.track.TrackEnd.TheVariants.{Side as AtSide, Stop as AtStop}
use Rattle.reach.specs.Position.{Position, HasToken, IsAmong, IsFull, is_red, value_of}
use Rattle.reach.specs.Walk.{IsWalk, BeginsAt, PassesOnly, entered_at, left_at, stop_of}
use Rattle.reach.specs.declared.walk.WalkStep.{WalkStep}
use Rattle.tables.specs.Train.{stops_of}
use Rattle.tables.specs.declared.rolling_stock.Kind.{Kind}
use Rattle.tables.specs.declared.roster.Company.{Company}

-- the stop at a spot, if it is one
abbrev pub listed : {A : Type 0} → Option A → List A
listed (Some thing) = thing ∷ []
listed None = []

-- the stop at which a walk begins with this first step
abbrev pub first_stop : List WalkStep → WalkStep → List Stop
first_stop [] step = listed (stop_of (entered_at step))
first_stop (earlier ∷ before) step = []

-- the stops that a walk visits, the latest first: where it begins, and where its steps are left
abbrev pub visited : List WalkStep → List Stop
visited [] = []
visited (step ∷ before) = listed (stop_of (left_at step)) ++ (first_stop before step ++ visited before)

-- The number of the border at a side of a hex. Each hex numbers the borders at its sides 0, 1 and
-- 2, which look to the west. The border at a side 3, 4 or 5 is one of those of the hex beyond it.
abbrev pub border_beyond : ℕ → Option Hex → ℕ
border_beyond number (Some hex) = 3 * index_of hex + number
border_beyond number None = number

-- the number of borders of the map: three for each of its 93 hexes
abbrev pub map_borders : ℕ
map_borders = 279

-- the number of the border at a side of a hex
unfoldable pub border_of : Hex → Side → ℕ
border_of hex side = if nat_lt (number_of side) 3 then 3 * index_of hex
    + number_of side else border_beyond (number_of side - 3) (neighbour_of hex side)

-- the border that is crossed to a side of a hex; none is crossed at a stop
abbrev pub border_at : Hex → TrackEnd → List ℕ
border_at hex (AtSide side) = border_of hex side ∷ []
border_at hex (AtStop number) = []

-- the borders that a walk from a stop crosses, the latest first: a step that is entered at a side
-- came over the border there
abbrev pub crossed : List WalkStep → List ℕ
crossed [] = []
crossed (step ∷ before) = border_at (entered_at step).hex (entered_at step).end ++ crossed before

-- no thing of a list is in it twice
abbrev pub AreDistinct : {A : Type 0} → List A → Type 0
AreDistinct [] = Unit {0}
AreDistinct (thing ∷ things) = (¬ IsAmong thing things) × AreDistinct things

-- one of the things of a list is such
abbrev pub HasSuch : {A : Type 0} → (A → Type 0) → List A → Type 0
HasSuch P [] = ⊥
HasSuch P (thing ∷ things) = P thing ⊎ HasSuch P things

-- a train of a kind may visit this many stops
abbrev pub AreAtMost : Option ℕ → ℕ → Type 0
AreAtMost (Some most) count = count ≤ most
AreAtMost None count = Unit {0}

-- the latest step of a walk is left at a stop
abbrev pub EndsAtStop : List WalkStep → Type 0
EndsAtStop [] = ⊥
EndsAtStop (step ∷ before) = (stop : Stop) × (stop_of (left_at step) ≡ Some stop)

-- a walk is a legal run of a train of this kind, over the borders that earlier runs have used
pub record IsLegalRun (position : Position) (company : Company) (kind : Kind) (used : List ℕ)
    (steps : List WalkStep) : Type 0 where
  pub walk : IsWalk position steps
  pub begins : BeginsAt (λ stop. Unit {0}) steps
  pub ends : EndsAtStop steps
  pub two : 2 ≤ length (visited steps)
  pub most : AreAtMost (stops_of kind) (length (visited steps))
  pub no_stop_twice : AreDistinct (visited steps)
  pub own_token : HasSuch (λ stop. HasToken position stop company) (visited steps)
  pub no_border_twice : AreDistinct (crossed steps)
  pub no_used_border : AllByRecursion (λ border. ¬ IsAmong border used) (crossed steps)
  pub no_red_inside : PassesOnly (λ stop. ¬ (is_red position stop ≡ true)) steps
  pub no_full_inside : PassesOnly (λ stop. ¬ IsFull position stop company) steps

-- the borders that some walks cross
abbrev pub all_crossed : List (List WalkStep) → List ℕ
all_crossed [] = []
all_crossed (steps ∷ before) = crossed steps ++ all_crossed before

-- what some stops are worth, in dollars
abbrev pub worth : Position → List Stop → ℕ
worth position [] = 0
worth position (stop ∷ stops) = worth position stops + value_of position stop

-- what a run earns, in dollars: the values of its stops
abbrev pub earned : Position → List WalkStep → ℕ
earned position steps = worth position (visited steps)
