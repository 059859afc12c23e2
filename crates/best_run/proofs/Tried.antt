-- What has been tried: moves of one sort after those of another, a segment as a move, and all moves
-- of a state.
use Rattle.std.proofs.Common.{◌≡◌, ℕ, ◌+◌, ◌<◌, ◌≤◌, true, false, ◌⊎◌, inl, inr, Option, Some, None, List, [], ◌∷◌}
use Rattle.std.proofs.Common.{length, refl, sym, ap, ◌∙◌, arith, le_trans}
use Rattle.std.proofs.lemmas.Option.{slice_get_within}
use Rattle.best_run.specs.declared.memo.Found.{Found}
use Rattle.search_task.specs.declared.task.Node.{Node}
use Rattle.search_task.specs.declared.task.Task.{Task}
use Rattle.best_run.specs.declared.state.Assigned.{Assigned}
use Rattle.best_run.specs.declared.state.PartialRun.{PartialRun}
use Rattle.best_run.specs.Moves.{Allows, Any, AreInMemo, Below, Completes, Explores, IsBegin, IsBeginAt, IsGo, IsTurn}
use Rattle.best_run.specs.Moves.{Move, State, Tries, begin, between, go, may_finish, partial, pass, passed, finish}
use Rattle.best_run.specs.Moves.{total_after, turn, with_run_finished}
use Rattle.search_task.specs.Spots.{node_at, own_in, stop_in}
use Rattle.best_run.specs.MovePath.{marks_in}
use Rattle.best_run.specs.declared.move_path.Mark.TheVariants.{Pass, Finish}
use Rattle.best_run.specs.declared.move_path.MovePath.{MovePath}
use Rattle.search_task.proofs.Places.{below_next}
use Rattle.best_run.proofs.Traced.{ExploresFrom, Leads, traced_both, traced_none}

-- a move by which a run goes on
abbrev pub IsOn : Move → Type 0
IsOn pass = ⊥
IsOn (begin stop index segment) = ⊥
IsOn (go index segment) = Unit {0}
IsOn (turn index segment) = Unit {0}
IsOn finish = ⊥

-- nothing has been tried
pub tries_none : (task : Task) (state : State) (P : Move → Type 0) (best : Found)
    → ((move : Move) → P move → Allows task state move → ⊥) → Tries task state P best best
tries_none task state P best none =
    record {
      grows = omega arith;
      traced = traced_none task state best;
      known = λ known. known;
      most = λ known move moves is completes. absurd (none move is completes.0);
    }

-- moves of one sort, and then those of another
pub tries_both : (task : Task) (state : State) (P Q R : Move → Type 0) (old middle new : Found)
    → Tries task state P old middle → Tries task state Q middle new
    → ((move : Move) → R move → Allows task state move → P move ⊎ Q move) → Tries task state R old new
tries_both task state P Q R old middle new first second either =
    record {
      grows = le_trans first.grows second.grows;
      traced = traced_both task state old middle new first.grows second.grows first.traced second.traced;
      known = λ known. second.known (first.known known);
      most = λ known move moves is completes. elim (either move is completes.0) [
        | inl p ↦ le_trans (first.most known move moves p completes) second.grows
        | inr q ↦ second.most (first.known known) move moves q completes
      ];
    }

-- fewer moves
pub tries_fewer : (task : Task) (state : State) (P R : Move → Type 0) (old new : Found) → Tries task state P old new
    → ((move : Move) → R move → Allows task state move → P move) → Tries task state R old new
tries_fewer task state P R old new tries are =
    record {
      grows = tries.grows;
      traced = tries.traced;
      known = tries.known;
      most = λ known move moves is completes. tries.most known move moves (are move is completes.0) completes;
    }

-- all trains are assigned, and the best is kept
pub over_most : (task : Task) (assigned : Assigned) (new : ℕ) → length task.trains.items ≤ assigned.next
    → assigned.total ≤ new → (moves : List Move) → Completes task (between assigned) moves
    → total_after task (between assigned) moves ≤ new
over_most task assigned new over low [] completes = low
over_most task assigned new over low (pass ∷ moves) completes = let before : assigned.next < length task.trains.items =
    completes.0 in absurd (omega arith)
over_most task assigned new over low (begin token i found ∷ moves) completes = absurd (omega (arith, completes.0.train))
over_most task assigned new over low (go i found ∷ moves) completes = absurd completes.0
over_most task assigned new over low (turn i found ∷ moves) completes = absurd completes.0
over_most task assigned new over low (finish ∷ moves) completes = absurd completes.0

pub over_better :
    (task : Task) (assigned : Assigned) (old : Found) (move_path : MovePath) → length task.trains.items ≤ assigned.next
    → old.amount < assigned.total →
    marks_in move_path ≡ [] → move_path.refused ≡ old.move_path.refused
    → Explores task (between assigned) old (record old { amount = assigned.total; move_path = move_path })
over_better task assigned old move_path over low empty same =
    record {
      grows = omega (arith, low);
      traced = record {
        refused = λ none. sym same ∙ none;
        recorded = λ none. inr (record {
          more = low;
          earns =
              record { moves = []; completes = over; total = refl; marks_are = empty };
        });
      };
      known = λ known place entry there moves completes. le_trans (known place entry there moves completes)
          (omega (arith, low));
      most = λ known. over_most task assigned assigned.total over (omega arith);
    }

pub over_no_better : (task : Task) (assigned : Assigned) (old : Found) → length task.trains.items ≤ assigned.next
    → assigned.total ≤ old.amount → Explores task (between assigned) old old
over_no_better task assigned old over low =
    record {
      grows = omega arith;
      traced = traced_none task (between assigned) old;
      known = λ known. known;
      most = λ known. over_most task assigned old.amount over low;
    }

-- a train passes, and a run is finished
pub leads_pass :
    (task : Task) (assigned : Assigned) → assigned.next < length task.trains.items
    → Leads task (between assigned) (between (passed assigned)) (Pass ∷ [])
leads_pass task assigned before later completes =
    record { moves = pass ∷ later; completes = (before, completes); total = refl; marks_are = refl }

pub leads_finish :
    (task : Task) (assigned : Assigned) (run : PartialRun) → may_finish task assigned run ≡ true →
    Leads task (partial assigned run) (between (with_run_finished assigned run)) (Finish ∷ [])
leads_finish task assigned run may later completes =
    record { moves = finish ∷ later; completes = (may, completes); total = refl; marks_are = refl }

-- the next train has begun all its runs, and has passed
pub explores_between :
    (task : Task) (assigned : Assigned) (old middle new : Found) → Tries task (between assigned) (IsBegin Any)
    old middle →
    ExploresFrom task (between assigned) (between (passed assigned)) middle new
    → assigned.next < length task.trains.items → Explores task (between assigned) old new
explores_between task assigned old middle new first second before =
    record {
      grows = le_trans first.grows second.grows;
      traced = traced_both task (between assigned) old middle new first.grows second.grows first.traced second.traced;
      known = λ known. second.known (first.known known);
      most = by_moves;
    }
  where
    by_moves : AreInMemo task old → (moves : List Move) → Completes task (between assigned) moves
        → total_after task (between assigned) moves ≤ new.amount
    by_moves known [] completes =
        absurd (let over : length task.trains.items ≤ assigned.next = completes in omega arith)
    by_moves known (pass ∷ moves) completes = second.most (first.known known) moves completes.1
    by_moves known (begin token i found ∷ moves) completes =
        le_trans (first.most known (begin token i found) moves tt completes) second.grows
    by_moves known (go i found ∷ moves) completes = absurd completes.0
    by_moves known (turn i found ∷ moves) completes = absurd completes.0
    by_moves known (finish ∷ moves) completes = absurd completes.0

-- the run has gone on from where it is, and then from where it began
pub tries_on : (task : Task) (assigned : Assigned) (run : PartialRun) (old middle new : Found)
    → Tries task (partial assigned run) (IsGo Any) old middle
    → Tries task (partial assigned run) (IsTurn Any) middle new → Tries task (partial assigned run) IsOn old new
tries_on task assigned run old middle new first second =
    tries_both task (partial assigned run) (IsGo Any) (IsTurn Any) IsOn old middle new first second either
  where
    either : (move : Move) → IsOn move → Allows task (partial assigned run) move → IsGo Any move ⊎ IsTurn Any move
    either pass is may = absurd is
    either (begin stop i found) is may = absurd is
    either (go i found) is may = inl tt
    either (turn i found) is may = inr tt
    either finish is may = absurd is

-- the run has gone on, and has been finished, if it may be
pub explores_partial :
    (task : Task) (assigned : Assigned) (run : PartialRun) (old middle new : Found) →
    Tries task (partial assigned run) IsOn old middle
    → ExploresFrom task (partial assigned run) (between (with_run_finished assigned run)) middle new →
    Explores task (partial assigned run) old new
explores_partial task assigned run old middle new first second =
    record {
      grows = le_trans first.grows second.grows;
      traced = traced_both task (partial assigned run) old middle new first.grows second.grows first.traced
          second.traced;
      known = λ known. second.known (first.known known);
      most = by_moves;
    }
  where
    by_moves : AreInMemo task old → (moves : List Move) → Completes task (partial assigned run) moves
        → total_after task (partial assigned run) moves ≤ new.amount
    by_moves known [] completes = absurd completes
    by_moves known (pass ∷ moves) completes = absurd completes.0
    by_moves known (begin stop i found ∷ moves) completes = absurd completes.0
    by_moves known (go i found ∷ moves) completes =
        le_trans (first.most known (go i found) moves tt completes) second.grows
    by_moves known (turn i found ∷ moves) completes =
        le_trans (first.most known (turn i found) moves tt completes) second.grows
    by_moves known (finish ∷ moves) completes = second.most (first.known known) moves completes.1

pub explores_on : (task : Task) (assigned : Assigned) (run : PartialRun) (old new : Found)
    → may_finish task assigned run ≡ false → Tries task (partial assigned run) IsOn old new
    → Explores task (partial assigned run) old new
explores_on task assigned run old new none second =
    record {
      grows = second.grows;
      traced = second.traced;
      known = second.known;
      most = by_moves;
    }
  where
    by_moves : AreInMemo task old → (moves : List Move) → Completes task (partial assigned run) moves
        → total_after task (partial assigned run) moves ≤ new.amount
    by_moves known [] completes = absurd completes
    by_moves known (pass ∷ moves) completes = absurd completes.0
    by_moves known (begin stop i found ∷ moves) completes = absurd completes.0
    by_moves known (go i found ∷ moves) completes = second.most known (go i found) moves tt completes
    by_moves known (turn i found ∷ moves) completes = second.most known (turn i found) moves tt completes
    by_moves known (finish ∷ moves) completes = absurd (let wrong : true ≡ false = sym completes.0 ∙ none in cc)

-- no run begins before the first stop
pub begin_first : (task : Task) (assigned : Assigned) (best : Found)
    → Tries task (between assigned) (IsBegin (Below 0)) best best
begin_first task assigned best = tries_none task (between assigned) (IsBegin (Below 0)) best none
  where
    none : (move : Move) → IsBegin (Below 0) move → Allows task (between assigned) move → ⊥
    none pass is may = is
    none (begin there i found) is may = let low : there < 0 = is in omega arith
    none (go i found) is may = is
    none (turn i found) is may = is
    none finish is may = is

-- all runs from the stops before one have been tried, and then those from there
pub begin_more : (task : Task) (assigned : Assigned) (stop : ℕ) (old middle new : Found)
    → Tries task (between assigned) (IsBegin (Below stop)) old middle
    → Tries task (between assigned) (IsBeginAt stop Any) middle new
    → Tries task (between assigned) (IsBegin (Below (stop + 1))) old new
begin_more task assigned stop old middle new first second =
    tries_both task (between assigned) (IsBegin (Below stop)) (IsBeginAt stop Any) (IsBegin (Below (stop + 1))) old
    middle new first second either
  where
    either : (move : Move) → IsBegin (Below (stop + 1)) move → Allows task (between assigned) move
        → IsBegin (Below stop) move ⊎ IsBeginAt stop Any move
    either pass is may = absurd is
    either (begin there i found) is may = elim (below_next there stop is)
        [ inl less ↦ inl less | inr same ↦ inr (same, tt) ]
    either (go i found) is may = absurd is
    either (turn i found) is may = absurd is
    either finish is may = absurd is

-- none begins where the company has no token
pub begin_none : (task : Task) (assigned : Assigned) (stop : ℕ) (best : Found)
    → ((stop_in (node_at task stop) ≡ false) ⊎ (own_in (node_at task stop) ≡ false))
    → Tries task (between assigned) (IsBeginAt stop Any) best best
begin_none task assigned stop best why = tries_none task (between assigned) (IsBeginAt stop Any) best none
  where
    none : (move : Move) → IsBeginAt stop Any move → Allows task (between assigned) move → ⊥
    none pass is may = is
    none (begin there i found) is may =
        elim why [
          | inl side ↦ let wrong : false ≡ true = sym side
              ∙ (ap (λ (n : ℕ). stop_in (node_at task n)) (sym is.0) ∙ may.begins) in cc
          | inr other ↦ let wrong : false ≡ true = sym other
              ∙ (ap (λ (n : ℕ). own_in (node_at task n)) (sym is.0) ∙ may.token) in cc
        ]
    none (go i found) is may = is
    none (turn i found) is may = is
    none finish is may = is

-- there is no stop beyond the last one
pub begin_every : (task : Task) (assigned : Assigned) (count : ℕ) (old new : Found) → length task.spots.items ≤ count
    → Tries task (between assigned) (IsBegin (Below count)) old new → Tries task (between assigned) (IsBegin Any) old
    new
begin_every task assigned count old new all tries =
    tries_fewer task (between assigned) (IsBegin (Below count)) (IsBegin Any) old new tries within
  where
    is_there : (there : ℕ) (node : Option Node) → node_at task there ≡ node → stop_in node ≡ true → there < count
    is_there there None is stops = absurd (let wrong : false ≡ true = stops in cc)
    is_there there (Some node) is stops = let low : there < length task.spots.items =
        slice_get_within task.spots.items there node is in omega arith

    within : (move : Move) → IsBegin Any move → Allows task (between assigned) move → IsBegin (Below count) move
    within pass is may = absurd is
    within (begin there i found) is may = is_there there (node_at task there) refl may.begins
    within (go i found) is may = absurd is
    within (turn i found) is may = absurd is
    within finish is may = absurd is
