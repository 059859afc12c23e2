-- The spots where the company has tokens are all from which runs begin: between them there is
-- nothing to try, and no token.
use Rattle.std.proofs.Common.{◌≡◌, ℕ, zero, suc, ◌+◌, ◌-◌, ◌≤◌, Bool, false, inr, List, [], ◌∷◌, length, replicate}
use Rattle.std.proofs.Common.{refl, sym, ap, subst, ◌∙◌, add-one, arith}
use Rattle.best_run.specs.declared.memo.Found.{Found}
use Rattle.best_run.specs.declared.state.Assigned.{Assigned}
use Rattle.search_task.specs.declared.task.Task.{Task}
use Rattle.best_run.specs.Moves.{Any, Below, IsBegin, IsBeginAt, Tries, between, marked_if, own_before}
use Rattle.search_task.specs.Legs.{AreHomes, HasNoHome}
use Rattle.best_run.proofs.Tried.{begin_every, begin_first, begin_more, begin_none}

-- where there is no home, there is nothing to try, and nothing is passed over
module _ (task : Task) (assigned : Assigned) (old new : Found) where
  tries_on : (count from to : ℕ) → to ≡ from + count → Tries task (between assigned) (IsBegin (Below from)) old new
      → HasNoHome task from to → Tries task (between assigned) (IsBegin (Below to)) old new
  tries_on zero from to is tries none =
      subst (λ (n : ℕ). Tries task (between assigned) (IsBegin (Below n)) old new)
      (let e : from ≡ to = omega (arith, is) in e) tries
  tries_on (suc count) from to is tries none =
      tries_on count (from + 1) to (omega (arith, is))
      (begin_more task assigned from old new new tries
      (begin_none task assigned from new (inr (none from (omega arith) (omega (arith, is))))))
      (λ spot least low. none spot (omega (arith, least)) low)

own_on : (task : Task) (count from to : ℕ) → to ≡ from + count → HasNoHome task from to
    → own_before task to ≡ own_before task from
own_on task zero from to is none = ap (own_before task) (let e : to ≡ from = omega (arith, is) in e)
own_on task (suc count) from to is none =
    own_on task count (from + 1) to (omega (arith, is)) (λ spot least low. none spot (omega (arith, least)) low)
    ∙ (ap (own_before task) (add-one from) ∙ ap (λ (own : Bool). marked_if own (own_before task from) from)
    (none from (omega arith) (omega (arith, is))))

-- the runs that begin before the next ones of some homes have been tried
pub record TriesHomes (task : Task) (assigned : Assigned) (homes : List ℕ) (before : List Bool) (old new : Found) : Type
    0 where
  pub from : ℕ
  pub tries : Tries task (between assigned) (IsBegin (Below from)) old new
  pub before_is : before ≡ own_before task from
  pub rest : AreHomes task from 744 homes

pub home_first : (task : Task) (assigned : Assigned) (homes : List ℕ) (before : List Bool) (best : Found)
    → before ≡ replicate 744 false → AreHomes task 0 744 homes → TriesHomes task assigned homes before best best
home_first task assigned homes before best none are =
    record { from = 0; tries = begin_first task assigned best; before_is = none; rest = are }

pub home_before : (task : Task) (assigned : Assigned) (home : ℕ) (homes : List ℕ) (before : List Bool) (old new : Found)
    → TriesHomes task assigned (home ∷ homes) before old new → before ≡ own_before task home
home_before task assigned home homes before old new is =
    let least = is.rest.0 in
    is.before_is ∙ sym (own_on task (home - is.from) is.from home (omega (arith, least)) is.rest.3)

pub home_more : (task : Task) (assigned : Assigned) (home : ℕ) (homes : List ℕ) (before after : List Bool)
    (old middle new : Found) → TriesHomes task assigned (home ∷ homes) before old middle
    → Tries task (between assigned) (IsBeginAt home Any) middle new → after ≡ own_before task (home + 1)
    → TriesHomes task assigned homes after old new
home_more task assigned home homes before after old middle new is tries marked =
    let least = is.rest.0 in
    record {
      from = home + 1;
      tries = begin_more task assigned home old middle new
          (tries_on task assigned old middle (home - is.from) is.from home (omega (arith, least)) is.tries is.rest.3)
          tries;
      before_is = marked;
      rest = is.rest.4;
    }

pub home_last : (task : Task) (assigned : Assigned) (before : List Bool) (old new : Found)
    → length task.spots.items ≤ 744 → TriesHomes task assigned [] before old new
    → Tries task (between assigned) (IsBegin Any) old new
home_last task assigned before old new all is = by_last is.from is.tries is.rest
  where
    by_last : (from : ℕ) → Tries task (between assigned) (IsBegin (Below from)) old new → HasNoHome task from 744
        → Tries task (between assigned) (IsBegin Any) old new
    by_last from tries none =
        begin_every task assigned (from + (744 - from)) old new (omega (arith, all))
        (tries_on task assigned old new (744 - from) from (from + (744 - from)) refl tries
        (λ spot least low. none spot least (omega (arith, least, low))))
