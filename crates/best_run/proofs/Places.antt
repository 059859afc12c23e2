-- Stops and segments by their places, and what a segment leaves to be earned.
use Rattle.std.proofs.Common.{◌≡◌, ℕ, ◌+◌, ◌*◌, ◌≤◌, Bool, true, false, List, length, refl, sym, ◌∙◌, arith}
use Rattle.search_task.specs.declared.task.Segment.{Segment}
use Rattle.search_task.specs.declared.task.Task.{Task}
use Rattle.best_run.specs.declared.state.Assigned.{Assigned}
use Rattle.best_run.specs.declared.state.PartialRun.{PartialRun}
use Rattle.best_run.specs.Room.{HasRoom, credit}
use Rattle.search_task.specs.Fit.{IsFit, SegmentFits}
use Rattle.search_task.specs.Spots.{node_at, stop_in}
use Rattle.best_run.specs.Moves.{along, can_take, may_come, using}
use Rattle.search_task.specs.Crossed.{marked_all, misses}
use Rattle.search_task.proofs.Marks.{marked_fewer, marked_most}
use Rattle.search_task.proofs.Places.{side_value, value_low}
use Rattle.search_task.proofs.Booleans.{both_second}
use Rattle.legal_runs.specs.Law.{unused}

credit_low : (b : Bool) → credit b ≤ 80
credit_low true = omega arith
credit_low false = omega arith

-- the borders of a segment that is taken are free
pub take_free : (task : Task) (run : PartialRun) (used : List Bool) (segment : Segment)
    → can_take task run used segment ≡ true → misses used segment.borders.items ≡ true
take_free task run used segment taken =
    both_second (may_come (stop_in (node_at task segment.to)) run segment.to) (misses used segment.borders.items) taken

-- a stop counts one
pub one_if : Bool → ℕ
one_if true = 1
one_if false = 0

-- what is left to be earned is enough after a segment
pub room_by : (task : Task) (assigned : Assigned) (run : PartialRun) (segment : Segment) → IsFit task
    → length assigned.used ≡ 279 → misses assigned.used segment.borders.items ≡ true → (from to : Bool)
    → stop_in (node_at task segment.to) ≡ to → SegmentFits task from segment
    → HasRoom assigned.used (assigned.total + run.value) 44720
    → HasRoom (using assigned segment).used ((using assigned segment).total
    + ((along task run segment).value + credit to)) 44720
room_by task assigned run segment fit whole free true true is fits room = let wrong : true ≡ false =
    sym is ∙ fits.to_side refl in absurd cc
room_by task assigned run segment fit whole free true false is fits room =
    omega (arith, side_value task fit segment.to is, marked_most assigned.used segment.borders.items)
room_by task assigned run segment fit whole free false to is fits room =
    let fewer : unused (marked_all assigned.used segment.borders.items) + 1 ≤ unused assigned.used =
    marked_fewer assigned.used segment.borders.items whole fits.borders (fits.over refl) free in
    omega (arith, value_low task fit segment.to, credit_low to)

-- and less is left to be gone
pub less_by : (task : Task) (assigned : Assigned) (segment : Segment) → length assigned.used ≡ 279
    → misses assigned.used segment.borders.items ≡ true → (from to : Bool) → stop_in (node_at task segment.to) ≡ to
    → SegmentFits task from segment → 3 * unused (marked_all assigned.used segment.borders.items) + one_if to + 1
    ≤ 3 * unused assigned.used + one_if from
unfolding one_if
less_by task assigned segment whole free true true is fits = let wrong : true ≡ false =
    sym is ∙ fits.to_side refl in absurd cc
less_by task assigned segment whole free true false is fits =
    omega (arith, marked_most assigned.used segment.borders.items)
less_by task assigned segment whole free false true is fits =
    let fewer : unused (marked_all assigned.used segment.borders.items) + 1 ≤ unused assigned.used =
    marked_fewer assigned.used segment.borders.items whole fits.borders (fits.over refl) free in omega arith
less_by task assigned segment whole free false false is fits =
    let fewer : unused (marked_all assigned.used segment.borders.items) + 1 ≤ unused assigned.used =
    marked_fewer assigned.used segment.borders.items whole fits.borders (fits.over refl) free in omega arith

pub one_low : (b : Bool) → one_if b ≤ 1
unfolding one_if
one_low true = omega arith
one_low false = omega arith

pub one_of : (b : Bool) → b ≡ true → one_if b ≡ 1
unfolding one_if
one_of true is = refl
one_of false is = let wrong : false ≡ true = is in absurd cc

pub one_at_side : one_if false ≡ 0
unfolding one_if
one_at_side = refl
