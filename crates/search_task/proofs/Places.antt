-- Spots and segments by their places.
use Rattle.std.proofs.Common.{◌≡◌, ℕ, zero, suc, ◌+◌, ◌<◌, ◌≤◌, Bool, false, ◌⊎◌, inl, inr, Option, Some, None, List}
use Rattle.std.proofs.Common.{length, get_or, slice_get, refl, sym, ap, subst, ◌∙◌, arith}
use Rattle.std.proofs.lemmas.Option.{slice_get_read, slice_get_within}
use Rattle.search_task.specs.declared.task.Leg.{Leg}
use Rattle.search_task.specs.declared.task.Node.{Node}
use Rattle.search_task.specs.declared.task.Segment.{Segment}
use Rattle.search_task.specs.declared.task.Task.{Task}
use Rattle.search_task.specs.Fit.{IsFit, SegmentFits}
use Rattle.search_task.specs.Spots.{LeadsFrom, node_at, segments_at, stop_in, value_in}

-- the stop at a number
pub node_is : (task : Task) → IsFit task → (stop : ℕ) (node : Node) → stop < 744
    → node ≡ get_or task.spots.items stop node → node_at task stop ≡ Some node
node_is task fit stop node low is = slice_get_read task.spots.items 744 stop node (sym fit.all) low is

-- what is read by the number of a spot is what is there
pub read_there : {X : Type 0} (items : List X) (spot read : ℕ) (item : X) → 744 ≡ length items → read ≡ spot
    → read < 744 → item ≡ get_or items read item → slice_get items spot ≡ Some item
read_there items spot read item all same low is =
    subst (λ (n : ℕ). slice_get items n ≡ Some item) same (slice_get_read items 744 read item all low is)

-- a segment that is found from where another leads
pub from_there : (task : Task) (to read index : ℕ) (segment : Segment) → read ≡ to
    → slice_get (segments_at task read) index ≡ Some segment → LeadsFrom task to index segment
from_there task to read index segment same at = subst (λ (n : ℕ). LeadsFrom task n index segment) same at

pub all_there : (task : Task) (to read count index : ℕ) → read ≡ to → count ≡ length (segments_at task read)
    → count ≤ index → length (segments_at task to) ≤ index
all_there task to read count index same is all =
    subst (λ (n : ℕ). length (segments_at task n) ≤ index) same (omega (arith, is, all))

-- a segment that leads from a spot has a place among its segments
pub place_low : (task : Task) (spot index : ℕ) (segment : Segment) → LeadsFrom task spot index segment
    → index < length (segments_at task spot)
place_low task spot index segment leads = slice_get_within (segments_at task spot) index segment leads

-- a number below the next one
pub below_next : (index most : ℕ) → index < most + 1 → (index < most) ⊎ (index ≡ most)
below_next zero zero low = inr refl
below_next zero (suc most) low = inl (omega arith)
below_next (suc index) zero low = absurd (omega arith)
below_next (suc index) (suc most) low =
    elim (below_next index most (omega arith)) [ inl less ↦ inl (omega arith) | inr same ↦ inr (ap suc same) ]

-- a stop is worth at most 80 dollars
pub value_low : (task : Task) → IsFit task → (stop : ℕ) → value_in (node_at task stop) ≤ 80
value_low task fit stop = by_node (node_at task stop) refl
  where
    by_node : (node : Option Node) → node_at task stop ≡ node → value_in node ≤ 80
    by_node None is = omega arith
    by_node (Some node) is = (fit.nodes stop node is).value

-- a side is worth nothing
pub side_value : (task : Task) → IsFit task → (spot : ℕ) → stop_in (node_at task spot) ≡ false
    → value_in (node_at task spot) ≡ 0
side_value task fit spot = by_node (node_at task spot) refl
  where
    by_node : (node : Option Node) → node_at task spot ≡ node → stop_in node ≡ false → value_in node ≡ 0
    by_node None is side = refl
    by_node (Some node) is side = (fit.nodes spot node is).side side

-- a segment that leads from a spot is fit
pub leading_fits : (task : Task) → IsFit task → (spot index : ℕ) (segment : Segment)
    → LeadsFrom task spot index segment → (from : Bool) × SegmentFits task from segment
leading_fits task fit spot index segment leads = (stop_in (node_at task spot), fit.segments spot index segment leads)

pub one_leg : (legs : List Leg) (place other : ℕ) (leg found : Leg) → slice_get legs place ≡ Some leg
    → slice_get legs other ≡ Some found → other ≡ place → leg ≡ found
one_leg legs place other leg found at finds same =
    let e : Some leg ≡ Some found = sym at ∙ (ap (λ i. slice_get legs i) (sym same) ∙ finds) in cc
