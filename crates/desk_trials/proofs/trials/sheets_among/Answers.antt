use Rattle.std.proofs.Common.{[], ◌++◌, ap, ◌∙◌}
use Rattle.desk_trials.specs.Trials.{head_if}
use Rattle.desk_trials.specs.declared.check_sheets.Head.{Head}
use Rattle.desk_trials.proofs.trials.sheets_among.Goals as goal
use Rattle.tables.proofs.OneMore.{elements_step}

pub loop-head-preserved : goal.loop-head-preserved
loop-head-preserved c =
    let heads = c.args.heads.now in
    elements_step (head_if heads c.args.round c.args.from) c.args.among.now c.loop-head.head-index c.head-item.result [] _ _
    c.loop-head-test.true c.loop-head.invariant
    (c.in_ok-push_if_for.ensures
    ∙ ap (λ (head : Head). c.loop-head.tried.items ++ head_if heads c.args.round c.args.from head) c.head-item.is)
