-- What joins the legal runs and the rules. What some places name is a legal run exactly if they
-- break no rule, and each legal run is named by some places. Also what the numbers of borders and
-- the marks of used ones mean. A number is one border's. A run adds its borders to the marks and no
-- others. What is legal by the marks is legal by the borders. A run that is legal after another
-- shares no border with it. A run earns no more than the borders allow that it uses.
use Rattle.std.specs.Prelude.{◌≡◌, ◌↔◌, ◌+◌, ◌*◌, ◌≤◌, ◌⊎◌, ℕ, Bool, true, false, Some, None, List, [], ◌∷◌, ◌++◌}
use Rattle.std.specs.Prelude.{length}
use Rattle.std.specs.List.{AllByRecursion}
use Rattle.map_tables.specs.Border.{neighbour_of}
use Rattle.map_tables.specs.declared.hex.Hex.{Hex}
use Rattle.map_tables.specs.declared.place.Place.{Place}
use Rattle.map_tables.specs.declared.side.Side.{Side}
use Rattle.map_tables.specs.declared.track.TrackEnd.TheVariants.{Side as AtSide}
use Rattle.reach.specs.Lawful.{IsLawful}
use Rattle.reach.specs.Position.{Position, IsAmong}
use Rattle.reach.specs.Walk.{across, spot_at}
use Rattle.reach.specs.declared.walk.Spot.{Spot}
use Rattle.reach.specs.declared.walk.WalkStep.{WalkStep}
use Rattle.tables.specs.declared.rolling_stock.Kind.{Kind}
use Rattle.tables.specs.declared.roster.Company.{Company}
use Rattle.legal_runs.specs.Fault.{named_steps, run_fault}
use Rattle.legal_runs.specs.Legal.{IsLegalRun, border_of, crossed, earned, map_borders}
use Rattle.legal_runs.specs.Marks.{MarksAre, borders_used, marked}
use Rattle.legal_runs.specs.Named.{walk_named}

-- some places name a legal run
abbrev pub NameLegalRun : Position → Company → Kind → List ℕ → List Place → Type 0
NameLegalRun position company kind used places =
    (steps : List WalkStep) × (walk_named position places ≡ Some steps) × IsLegalRun position company kind used steps

abbrev pub LegalWhereNoRuleIsBroken : Type 0
LegalWhereNoRuleIsBroken =
    (position : Position) (company : Company) (kind : Kind) (used : List ℕ) (places : List Place) →
    (run_fault position company kind used places ≡ None) ↔ NameLegalRun position company kind used places

-- two sides of hexes are one, or they are the two sides of one border
abbrev pub AreSidesOfOneBorder : Spot → Spot → Type 0
AreSidesOfOneBorder side other = (side ≡ other) ⊎ (across side ≡ Some other)

-- two sides at borders have one number exactly if they are sides of one border
abbrev pub BordersHaveOwnNumbers : Type 0
BordersHaveOwnNumbers =
    (hex other next beyond : Hex) (side far : Side) →
    neighbour_of hex side ≡ Some next → neighbour_of other far ≡ Some beyond →
    (border_of hex side ≡ border_of other far) ↔ AreSidesOfOneBorder (spot_at hex (AtSide side))
    (spot_at other (AtSide far))

-- after a run those borders are used that were used before it, and those that it crosses
abbrev pub CrossedBordersAreUsed : Type 0
CrossedBordersAreUsed =
    (used : List ℕ) (marks : List Bool) (steps : List WalkStep) →
    MarksAre used marks → MarksAre (crossed steps ++ used) (marked marks (crossed steps))

-- a run is legal with these borders used exactly if it is legal by their marks
abbrev pub LegalByMarks : Type 0
LegalByMarks =
    (position : Position) (company : Company) (kind : Kind) (used : List ℕ) (marks : List Bool) (steps : List WalkStep) →
    MarksAre used marks →
    IsLegalRun position company kind (borders_used marks) steps ↔ IsLegalRun position company kind used steps

-- a run that is legal after another shares no border with it
abbrev pub RunsShareNoBorder : Type 0
RunsShareNoBorder =
    (position : Position) (company : Company) (kind : Kind) (used : List ℕ) (first second : List WalkStep) →
    IsLegalRun position company kind (crossed first ++ used) second →
    AllByRecursion (λ border. ¬ IsAmong border (crossed first)) (crossed second)

-- a border that is not used counts, by the marks of those that are
abbrev pub if_unused : Bool → ℕ
if_unused true = 0
if_unused false = 1

-- how many borders are not used
abbrev pub unused : List Bool → ℕ
unused [] = 0
unused (mark ∷ marks) = if_unused mark + unused marks

-- a run that breaks no rule earns at most 160 dollars for each border that it uses
abbrev pub RunsEarnByBorders : Type 0
RunsEarnByBorders =
    (position : Position) (company : Company) (kind : Kind) (marks : List Bool) (places : List Place)
    → length marks ≡ map_borders →
    IsLawful position → run_fault position company kind (borders_used marks) places ≡ None →
    earned position (named_steps position places) + 160 * unused
    (marked marks (crossed (named_steps position places))) ≤ 160 * unused marks

-- these places name a walk, and are as many as a run may have
pub record AreItsPlaces (position : Position) (steps : List WalkStep) (places : List Place) : Type 0 where
  pub name_it : walk_named position places ≡ Some steps
  pub least : 2 ≤ length places
  pub most : length places ≤ 280

-- each legal run can be written in full: 2 to 280 places name it
abbrev pub EachLegalRunIsNamed : Type 0
EachLegalRunIsNamed =
    (position : Position) (company : Company) (kind : Kind) (used : List ℕ) (steps : List WalkStep) →
    IsLawful position → IsLegalRun position company kind used steps →
    (places : List Place) × AreItsPlaces position steps places
