-- The run of the train in hand is claimed, if it runs.
use Rattle.tables.specs.declared.rolling_stock.Kind.TheVariants.{Two}
use Rattle.best_run.proofs.ReadPath.{can_next, can_pass, claims_next, claims_pass}
use Rattle.best_run.proofs.claimed.claimed_runs.Goals as goal
use Rattle.best_run.proofs.claimed.claimed_runs.Goals.{in-Some+in_ok-push, in_default}

pub write_run-requires-clause-least : goal.write_run-requires-clause-least
write_run-requires-clause-least c =
    rw c.deref.ensures.value
    (can_next c.args.kinds.now c.loop-kind.kind-index Two _ _ c.in_ok-walk.field-0 c.in-Some.walk
    c.loop-kind-test.true c.in_ok-walk.ensures c.in-Some.is c.loop-kind.invariant.1).0.least

pub write_run-requires-clause-most : goal.write_run-requires-clause-most
write_run-requires-clause-most c =
    rw c.deref.ensures.value
    (can_next c.args.kinds.now c.loop-kind.kind-index Two _ _ c.in_ok-walk.field-0 c.in-Some.walk
    c.loop-kind-test.true c.in_ok-walk.ensures c.in-Some.is c.loop-kind.invariant.1).0.most

pub loop-kind-preserved : goal.loop-kind-preserved
loop-kind-preserved c =
    let kinds = c.args.kinds.now in
    let index = c.loop-kind.kind-index in
    let old = c.loop-kind.marks.items in
    let new = c.read_walk.new.marks.items in
    let walk = c.in_ok-walk.field-0 in
    elim c.match-branch-2.branch [
      | in-Some+in_ok-push w ↦
          rw (w.runs-is, w.in_ok-push.ensures.added, w.write_run.ensures, w.deref.ensures.value) (
            claims_next kinds index _ old new walk w.in-Some.walk _ _ c.loop-kind-test.true c.in_ok-walk.ensures
                w.in-Some.is c.loop-kind.invariant.0,
            (can_next kinds index Two old new walk w.in-Some.walk c.loop-kind-test.true c.in_ok-walk.ensures
                w.in-Some.is c.loop-kind.invariant.1).1,
          )
      | in_default w ↦
          rw w.runs-is (
            claims_pass kinds index Two old new walk _ _ c.loop-kind-test.true c.in_ok-walk.ensures w.in_default.is
                c.loop-kind.invariant.0,
            can_pass kinds index Two old new walk c.loop-kind-test.true c.in_ok-walk.ensures w.in_default.is
                c.loop-kind.invariant.1,
          )
    ]
