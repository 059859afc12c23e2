-- What the search tries: from nothing assigned, move by move, to all trains assigned. The next
-- train passes, or begins a run at a token of the company by a segment of plain track. A run that
-- has begun goes on from where it is. Once, it may turn back to the token, and go on from there by
-- a segment that is not before the one by which it began. It may be finished at a stop. So each run
-- is met once, and not from both its ends. It begins at the first of its tokens, by their numbers,
-- since the tokens before that one are passed over.
use Rattle.std.specs.Prelude.{◌≡◌, ℕ, zero, suc, ◌+◌, ◌-◌, ◌<◌, ◌≤◌, Bool, true, false, not, ◌&&◌, ◌||◌, nat_lt, nat_le}
use Rattle.std.specs.Prelude.{◌==◌, ◌⊎◌, Option, Some, None, List, [], ◌∷◌, length, get_or, set, slice_get, replicate}
use Rattle.search_task.specs.declared.task.Segment.{Segment}
use Rattle.search_task.specs.declared.task.Task.{Task}
use Rattle.best_run.specs.declared.memo.Found.{Found}
use Rattle.best_run.specs.declared.search_state.SearchState.{SearchState}
use Rattle.best_run.specs.declared.state.Assigned.{Assigned}
use Rattle.best_run.specs.declared.state.PartialRun.{PartialRun}
use Rattle.best_run.specs.declared.move_path.Mark.{Mark}
use Rattle.best_run.specs.declared.move_path.Mark.TheVariants.{Go, Pass, Finish, Turn}
use Rattle.best_run.specs.MovePath.{IsWritten, marks_in}
use Rattle.legal_runs.specs.Legal.{map_borders}
use Rattle.reach.specs.Search.{map_spots}
use Rattle.search_task.specs.declared.task.Leg.{Leg}
use Rattle.search_task.specs.Crossed.{marked_all, misses}
use Rattle.search_task.specs.Spots.{LeadsFrom, ends_in, node_at, own_in, stop_in, value_in}

-- a run may reach a spot: it is no stop, or one that it has not visited, and it may visit one more
abbrev pub may_come : Bool → PartialRun → ℕ → Bool
may_come true run spot = nat_lt 0 run.left && not (get_or run.visited spot false)
may_come false run spot = true

-- a run may take a segment
abbrev pub can_take : Task → PartialRun → List Bool → Segment → Bool
can_take task run used segment = may_come (stop_in (node_at task segment.to)) run segment.to
    && misses used segment.borders.items

-- how many stops are left after a spot
abbrev pub left_after : Bool → ℕ → ℕ
left_after true left = left - 1
left_after false left = left

-- the company's tokens before a number
abbrev pub marked_if : Bool → List Bool → ℕ → List Bool
marked_if true marks number = set marks number true
marked_if false marks number = marks

abbrev pub own_before : Task → ℕ → List Bool
own_before task zero = replicate map_spots false
own_before task (suc number) = marked_if (own_in (node_at task number)) (own_before task number) number

-- a run that is at the token where it begins, by the segment at a place; the tokens before that one
-- are passed over
abbrev pub begun : Task → Assigned → ℕ → ℕ → PartialRun
begun task assigned stop first =
    record {
      home = stop;
      first = first;
      turned = false;
      head = stop;
      most = get_or task.trains.items assigned.next 0;
      left = get_or task.trains.items assigned.next 0 - 1;
      value = value_in (node_at task stop);
      visited = set (own_before task stop) stop true;
    }

-- a run that is at the token where it begins, by the segment at another place than before
abbrev pub begun_by : PartialRun → ℕ → PartialRun
begun_by run first = record run { first = first }

-- a run that has turned back to the token where it began
abbrev pub turned_back : PartialRun → PartialRun
turned_back run = record run { turned = true; head = run.home }

-- a run after a segment
abbrev pub along : Task → PartialRun → Segment → PartialRun
along task run segment =
    record run {
      head = segment.to;
      left = left_after (stop_in (node_at task segment.to)) run.left;
      value = run.value + value_in (node_at task segment.to);
      visited = marked_if (stop_in (node_at task segment.to)) run.visited segment.to;
    }

-- the borders of a segment are used
abbrev pub using : Assigned → Segment → Assigned
using assigned segment = record assigned { used = marked_all assigned.used segment.borders.items }

-- the next train does not run
abbrev pub passed : Assigned → Assigned
passed assigned = record assigned { next = assigned.next + 1 }

-- the run begun is finished
abbrev pub with_run_finished : Assigned → PartialRun → Assigned
with_run_finished assigned run =
    record assigned { next = assigned.next + 1; total = assigned.total + run.value; kind = run.most; cap = run.value }

-- Equal trains may exchange their runs, so only those runs are tried in which none of them earns
-- more than the one before. A run earns no more than the last one, if that is of a train of the
-- same kind.
abbrev pub may_earn : ℕ → ℕ → ℕ → ℕ → Bool
may_earn kind cap most value = (kind == 0 || not (kind == most)) || nat_le value cap

-- a run may be finished: it is at a stop, and earns no more than it may
abbrev pub may_finish : Task → Assigned → PartialRun → Bool
may_finish task assigned run =
    stop_in (node_at task run.head) && may_earn assigned.kind assigned.cap run.most run.value

-- a state of the search
pub data State : Type 0 where
  between : Assigned → State
  partial : Assigned → PartialRun → State

-- a move
pub data Move : Type 0 where
  pass : Move
  begin : ℕ → ℕ → Segment → Move
  go : ℕ → Segment → Move
  turn : ℕ → Segment → Move
  finish : Move

pub record MayBegin (task : Task) (assigned : Assigned) (stop index : ℕ) (segment : Segment) : Type 0 where
  pub train : assigned.next < length task.trains.items
  pub begins : stop_in (node_at task stop) ≡ true
  pub token : own_in (node_at task stop) ≡ true
  pub leads : LeadsFrom task stop index segment
  pub taken : can_take task (begun task assigned stop index) assigned.used segment ≡ true

pub record MayGo (task : Task) (assigned : Assigned) (run : PartialRun) (index : ℕ) (segment : Segment) : Type 0 where
  pub passes : ends_in (node_at task run.head) ≡ false
  pub leads : LeadsFrom task run.head index segment
  pub taken : can_take task run assigned.used segment ≡ true

pub record MayTurn (task : Task) (assigned : Assigned) (run : PartialRun) (index : ℕ) (segment : Segment) : Type 0 where
  pub once : run.turned ≡ false
  pub at_stop : stop_in (node_at task run.head) ≡ true
  pub later : run.first ≤ index
  pub passes : ends_in (node_at task run.home) ≡ false
  pub leads : LeadsFrom task run.home index segment
  pub taken : can_take task (turned_back run) assigned.used segment ≡ true

-- a move may be made in a state
abbrev pub Allows : Task → State → Move → Type 0
Allows task (between assigned) pass = assigned.next < length task.trains.items
Allows task (between assigned) (begin stop index segment) = MayBegin task assigned stop index segment
Allows task (between assigned) (go index segment) = ⊥
Allows task (between assigned) (turn index segment) = ⊥
Allows task (between assigned) finish = ⊥
Allows task (partial assigned run) pass = ⊥
Allows task (partial assigned run) (begin stop index segment) = ⊥
Allows task (partial assigned run) (go index segment) = MayGo task assigned run index segment
Allows task (partial assigned run) (turn index segment) = MayTurn task assigned run index segment
Allows task (partial assigned run) finish = may_finish task assigned run ≡ true

-- the state after a move
abbrev pub after : Task → State → Move → State
after task (between assigned) pass = between (passed assigned)
after task (between assigned) (begin stop index segment) =
    partial (using assigned segment) (along task (begun task assigned stop index) segment)
after task (between assigned) (go index segment) = between assigned
after task (between assigned) (turn index segment) = between assigned
after task (between assigned) finish = between assigned
after task (partial assigned run) pass = between assigned
after task (partial assigned run) (begin stop index segment) = between assigned
after task (partial assigned run) (go index segment) = partial (using assigned segment) (along task run segment)
after task (partial assigned run) (turn index segment) =
    partial (using assigned segment) (along task (turned_back run) segment)
after task (partial assigned run) finish = between (with_run_finished assigned run)

-- all trains are assigned
abbrev pub IsOver : Task → State → Type 0
IsOver task (between assigned) = length task.trains.items ≤ assigned.next
IsOver task (partial assigned run) = ⊥

-- these moves lead from a state to the end
abbrev pub Completes : Task → State → List Move → Type 0
Completes task state [] = IsOver task state
Completes task state (move ∷ moves) = Allows task state move × Completes task (after task state move) moves

-- what the finished runs of a state earn, in dollars
abbrev pub total_of : State → ℕ
total_of (between assigned) = assigned.total
total_of (partial assigned run) = assigned.total

-- what they earn at the end of some moves
abbrev pub total_after : Task → State → List Move → ℕ
total_after task state [] = total_of state
total_after task state (move ∷ moves) = total_after task (after task state move) moves

-- nothing is assigned
abbrev pub start : State
start = between (record { next = 0; total = 0; kind = 0; cap = 0; used = replicate map_borders false })

-- the marks of some moves, from the first to the last
abbrev pub marks_of : List Move → List Mark
marks_of [] = []
marks_of (pass ∷ moves) = Pass ∷ marks_of moves
marks_of (begin stop index segment ∷ moves) = Go segment.step ∷ marks_of moves
marks_of (go index segment ∷ moves) = Go segment.step ∷ marks_of moves
marks_of (turn index segment ∷ moves) = Turn ∷ Go segment.step ∷ marks_of moves
marks_of (finish ∷ moves) = Finish ∷ marks_of moves

-- some marks are those of moves that lead from a state to the end, and earn this much
pub record Earns (task : Task) (state : State) (marks : List Mark) (amount : ℕ) : Type 0 where
  pub moves : List Move
  pub completes : Completes task state moves
  pub total : total_after task state moves ≡ amount
  pub marks_are : marks ≡ marks_of moves

-- no more has been found, and the path is as it was
pub record IsAsBefore (old new : Found) : Type 0 where
  pub amount : new.amount ≡ old.amount
  pub marks : marks_in new.move_path ≡ marks_in old.move_path

-- more has been found, and the path gives how it is earned from a state on
pub record IsBetter (task : Task) (state : State) (old new : Found) : Type 0 where
  pub more : old.amount < new.amount
  pub earns : Earns task state (marks_in new.move_path) new.amount

-- unless an allocation has failed, the path gives how what is found is earned from a state on, if
-- it is more than before
pub record IsTraced (task : Task) (state : State) (old new : Found) : Type 0 where
  pub refused : new.move_path.refused ≡ None → old.move_path.refused ≡ None
  pub recorded : new.move_path.refused ≡ None → IsAsBefore old new ⊎ IsBetter task state old new

-- if more has been found than this much, some marks are written before the path; nothing else
-- changes
pub record Traces (least : ℕ) (marks : List Mark) (old new : Found) : Type 0 where
  pub amount : new.amount ≡ old.amount
  pub memo : new.memo.items ≡ old.memo.items
  pub as_before : old.amount ≤ least → new.move_path ≡ old.move_path
  pub written : least < old.amount → IsWritten marks old.move_path new.move_path

-- all ways from a state to the end earn at most this much
abbrev pub LeadsToAtMost : Task → State → ℕ → Type 0
LeadsToAtMost task state most = (moves : List Move) → Completes task state moves → total_after task state moves ≤ most

-- all ways from a state between runs
abbrev pub EarnsAtMost : Task → Assigned → ℕ → Type 0
EarnsAtMost task assigned most = LeadsToAtMost task (between assigned) most

-- the state that is meant: between runs, unless one has begun
abbrev pub state_by : Assigned → Option PartialRun → State
state_by assigned None = between assigned
state_by assigned (Some run) = partial assigned run

abbrev pub state_at : SearchState → State
state_at search_state = state_by search_state.assigned search_state.run

-- from no state that is kept as explored more is earned than the best found
abbrev pub AreInMemo : Task → Found → Type 0
AreInMemo task found =
    (place : ℕ) (search_state : SearchState) → slice_get found.memo.items place ≡ Some search_state
    → LeadsToAtMost task (state_at search_state) found.amount

-- Moves that begin with such a move have been tried in a state. The best found grows at most, and
-- the path gives how it is earned. Those that have been tried earn at most that, if what is kept as
-- explored does.
pub record Tries (task : Task) (state : State) (P : Move → Type 0) (old new : Found) : Type 0 where
  pub grows : old.amount ≤ new.amount
  pub traced : IsTraced task state old new
  pub known : AreInMemo task old → AreInMemo task new
  pub most : AreInMemo task old → (move : Move) (moves : List Move) → P move → Completes task state (move ∷ moves)
      → total_after task state (move ∷ moves) ≤ new.amount

-- all ways from a state to the end have been tried
pub record Explores (task : Task) (state : State) (old new : Found) : Type 0 where
  pub grows : old.amount ≤ new.amount
  pub traced : IsTraced task state old new
  pub known : AreInMemo task old → AreInMemo task new
  pub most : AreInMemo task old → (moves : List Move) → Completes task state moves
      → total_after task state moves ≤ new.amount

-- a segment has been tried with a run that is before it: if the run may take it, all ways on have
-- been tried
pub record Takes (task : Task) (assigned : Assigned) (run : PartialRun) (segment : Segment) (old new : Found) : Type
    0 where
  pub grows : old.amount ≤ new.amount
  pub refused : new.move_path.refused ≡ None → old.move_path.refused ≡ None
  pub recorded : new.move_path.refused ≡ None → IsAsBefore old new
      ⊎ ((can_take task run assigned.used segment ≡ true)
      × IsBetter task (partial (using assigned segment) (along task run segment)) old new)
  pub known : AreInMemo task old → AreInMemo task new
  pub most : AreInMemo task old → can_take task run assigned.used segment ≡ true → (moves : List Move)
      → Completes task (partial (using assigned segment) (along task run segment)) moves
      → total_after task (partial (using assigned segment) (along task run segment)) moves ≤ new.amount

-- moves by their sort
abbrev pub IsBegin : (ℕ → Type 0) → Move → Type 0
IsBegin P pass = ⊥
IsBegin P (begin stop index segment) = P stop
IsBegin P (go index segment) = ⊥
IsBegin P (turn index segment) = ⊥
IsBegin P finish = ⊥

abbrev pub IsBeginAt : ℕ → (ℕ → Type 0) → Move → Type 0
IsBeginAt there P pass = ⊥
IsBeginAt there P (begin stop index segment) = (stop ≡ there) × P index
IsBeginAt there P (go index segment) = ⊥
IsBeginAt there P (turn index segment) = ⊥
IsBeginAt there P finish = ⊥

abbrev pub IsGo : (ℕ → Type 0) → Move → Type 0
IsGo P pass = ⊥
IsGo P (begin stop index segment) = ⊥
IsGo P (go index segment) = P index
IsGo P (turn index segment) = ⊥
IsGo P finish = ⊥

abbrev pub IsTurn : (ℕ → Type 0) → Move → Type 0
IsTurn P pass = ⊥
IsTurn P (begin stop index segment) = ⊥
IsTurn P (go index segment) = ⊥
IsTurn P (turn index segment) = P index
IsTurn P finish = ⊥

-- any number
abbrev pub Any : ℕ → Type 0
Any number = Unit {0}

-- a number below another
abbrev pub Below : ℕ → ℕ → Type 0
Below most number = number < most

-- Such legs have been tried, each with its run. The best found grows at most, and the path gives
-- how it is earned from where the legs are tried. Whatever comes after one of them earns at most
-- that.
pub record TriesLegs (task : Task) (from : State) (assigned : Assigned) (runs : Leg → PartialRun) (P : Leg → Type 0)
    (old new : Found) : Type 0 where
  pub grows : old.amount ≤ new.amount
  pub traced : IsTraced task from old new
  pub known : AreInMemo task old → AreInMemo task new
  pub most : AreInMemo task old → (leg : Leg) → P leg → can_take task (runs leg) assigned.used leg.segment ≡ true
      → (moves : List Move) → Completes task (partial (using assigned leg.segment) (along task (runs leg) leg.segment))
      moves → total_after task (partial (using assigned leg.segment) (along task (runs leg) leg.segment)) moves
      ≤ new.amount
