-- A run that begins by an earlier segment may turn back by as many. So no run from a token earns more
-- than the one that begins by the first segment.
use Rattle.std.proofs.Common.{◌≡◌, ℕ, ◌≤◌, ◌&&◌, Bool, true, false, List, [], ◌∷◌, refl, sym, ap, subst, ◌∙◌, arith}
use Rattle.search_task.specs.declared.task.Segment.{Segment}
use Rattle.search_task.specs.declared.task.Task.{Task}
use Rattle.best_run.specs.declared.memo.Found.{Found}
use Rattle.best_run.specs.declared.state.Assigned.{Assigned}
use Rattle.best_run.specs.declared.state.PartialRun.{PartialRun}
use Rattle.best_run.specs.Ahead.{IsInVain}
use Rattle.best_run.specs.Moves.{Any, Completes, IsBeginAt, Move, Tries, along, begin, begun, begun_by, between}
use Rattle.best_run.specs.Moves.{can_take, finish, go, may_come, partial, pass, total_after, turn, turned_back, using}
use Rattle.search_task.specs.Crossed.{misses}
use Rattle.search_task.specs.Spots.{node_at, stop_in}
use Rattle.best_run.proofs.Traced.{traced_none}

-- the segment by which a run began makes no difference to what it may take
take_by : (task : Task) (run : PartialRun) (first other : ℕ) (used : List Bool) (segment : Segment)
    → can_take task (begun_by run first) used segment ≡ can_take task (begun_by run other) used segment
take_by task run first other used segment = ap (λ b. b && misses used segment.borders.items)
    (by_stop (stop_in (node_at task segment.to)))
  where
    by_stop : (stop : Bool) → may_come stop (begun_by run first) segment.to
        ≡ may_come stop (begun_by run other) segment.to
    by_stop true = refl
    by_stop false = refl

-- moves of a run that begins by a later segment are moves of one that begins by an earlier one
record Sooner (task : Task) (assigned : Assigned) (run : PartialRun) (first later : ℕ) (moves : List Move) : Type
    0 where
  completes : Completes task (partial assigned (begun_by run first)) moves
  total : total_after task (partial assigned (begun_by run later)) moves
      ≡ total_after task (partial assigned (begun_by run first)) moves

sooner : (task : Task) (first later : ℕ) → first ≤ later → (moves : List Move) (assigned : Assigned) (run : PartialRun)
    → Completes task (partial assigned (begun_by run later)) moves → Sooner task assigned run first later moves
sooner task first later low [] assigned run completes = absurd completes
sooner task first later low (pass ∷ moves) assigned run completes = absurd completes.0
sooner task first later low (begin stop index segment ∷ moves) assigned run completes = absurd completes.0
sooner task first later low (go index segment ∷ moves) assigned run completes =
    let may = completes.0 in
    let rest : Sooner task (using assigned segment) (along task run segment) first later moves =
    sooner task first later low moves (using assigned segment) (along task run segment) completes.1 in
    record {
      completes = (
        record {
          passes = may.passes;
          leads = may.leads;
          taken = take_by task run first later assigned.used segment ∙ may.taken;
        },
        rest.completes,
      );
      total = rest.total;
    }
sooner task first later low (turn index segment ∷ moves) assigned run completes =
    let may = completes.0 in
    let rest : Sooner task (using assigned segment) (along task (turned_back run) segment) first later moves =
    sooner task first later low moves (using assigned segment) (along task (turned_back run) segment) completes.1 in
    record {
      completes = (
        record {
          once = may.once;
          at_stop = may.at_stop;
          later = omega (arith, low, may.later);
          passes = may.passes;
          leads = may.leads;
          taken = take_by task (turned_back run) first later assigned.used segment ∙ may.taken;
        },
        rest.completes,
      );
      total = rest.total;
    }
sooner task first later low (finish ∷ moves) assigned run completes = record { completes = completes; total = refl }

-- no run from a token earns more than what has been found
pub begin_in_vain : (task : Task) (assigned : Assigned) (stop : ℕ) (best : Found)
    → IsInVain task assigned (begun task assigned stop 0) best.amount
    → Tries task (between assigned) (IsBeginAt stop Any) best best
begin_in_vain task assigned stop best vain =
    record {
      grows = omega arith;
      traced = traced_none task (between assigned) best;
      known = λ known. known;
      most = λ known move moves is completes. low move moves is completes;
    }
  where
    at : (index : ℕ) (segment : Segment) (moves : List Move)
        → Completes task (between assigned) (begin stop index segment ∷ moves)
        → total_after task (between assigned) (begin stop index segment ∷ moves) ≤ best.amount
    at index segment moves completes =
        let may = completes.0 in
        let rest : Sooner task (using assigned segment) (along task (begun task assigned stop 0) segment) 0 index moves =
        sooner task 0 index (omega arith) moves (using assigned segment)
        (along task (begun task assigned stop 0) segment) completes.1 in
        let most = vain.1 (go index segment ∷ moves) (
          record {
            passes = vain.0;
            leads = may.leads;
            taken = take_by task (begun task assigned stop 0) 0 index assigned.used segment ∙ may.taken;
          },
          rest.completes,
        ) in
        omega (arith, most, rest.total)

    low : (move : Move) (moves : List Move) → IsBeginAt stop Any move → Completes task (between assigned) (move ∷ moves)
        → total_after task (between assigned) (move ∷ moves) ≤ best.amount
    low pass moves is completes = absurd is
    low (go index segment) moves is completes = absurd is
    low (turn index segment) moves is completes = absurd is
    low finish moves is completes = absurd is
    low (begin there index segment) moves is completes =
        subst (λ (n : ℕ). Completes task (between assigned) (begin n index segment ∷ moves)
        → total_after task (between assigned) (begin n index segment ∷ moves) ≤ best.amount) (sym is.0)
        (at index segment moves) completes
