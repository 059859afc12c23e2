-- The run ends at the stop, or may pass it.
use Rattle.std.proofs.Common.{◌≡◌, ℕ, Bool, true, Some, List, set, sym, ap, subst, ◌∙◌, arith}
use Rattle.best_run.specs.EndStops.{CountsAsPassed, HasWorth}
use Rattle.search_task.specs.Spots.{ends_in, node_at}
use Rattle.best_run.proofs.Beyond.{worth_low}
use Rattle.best_run.proofs.Lasting.{has_ended, has_most, has_passing}
use Rattle.best_run.proofs.end_stops.count.Goals as goal
use Rattle.search_task.proofs.Booleans.{not_both}

pub pass-requires-clause-room : goal.pass-requires-clause-room
pass-requires-clause-room c =
    has_most c.args.task.now c.is_ready.ensures.fit c.args.assigned.now c.args.run.now c.args.outlook.now.ahead
    c.args.outlook.now.worth c.requires.known

pub end-requires : goal.end-requires
end-requires c = c.requires.known.known.order

pub returns-then-node-clause-known : goal.returns-then-node-clause-known
returns-then-node-clause-known c =
    let task = c.args.task.now in
    let node = c.node-node.result.now in
    let at : node_at task c.args.spot ≡ Some node =
    c.node-node.ensures.node in
    let marked = c.mark.ensures ∙ ap (λ (n : ℕ). set c.args.outlook.now.ahead n true) c.index.ensures.value in
    subst (λ (ms : List Bool). HasWorth task c.args.assigned.now c.args.run.now ms c.end.new.self) (sym marked)
    (has_ended task c.args.assigned.now c.args.run.now c.args.outlook.now.ahead c.args.spot node at
    (omega (arith, c.node-node.ensures.low, c.is_ready.ensures.fit.all))
    (worth_low task c.is_ready.ensures.fit c.args.spot node c.node-node.ensures.node) c.requires.free
    (omega (arith, c.is_whole.ensures, c.node-node.ensures.low)) c.args.outlook.now.worth c.end.new.self c.requires.known
    (ap ends_in at ∙ c.if-node.true) c.end.ensures)

pub returns-then-node-clause-passed : goal.returns-then-node-clause-passed
returns-then-node-clause-passed c passes =
    let at : node_at c.args.task.now c.args.spot ≡ Some c.node-node.result.now =
    c.node-node.ensures.node in
    absurd (not_both c.node-node.result.now.ends c.if-node.true (sym (ap ends_in at) ∙ passes))

pub returns-else-node-clause-passed : goal.returns-else-node-clause-passed
returns-else-node-clause-passed c passes =
    let task = c.args.task.now in
    let node = c.node-node.result.now in
    let at : node_at task c.args.spot ≡ Some node =
    c.node-node.ensures.node in
    let marked = c.mark.ensures ∙ ap (λ (n : ℕ). set c.args.outlook.now.ahead n true) c.index.ensures.value in
    subst (λ (ms : List Bool). CountsAsPassed task c.args.assigned.now c.args.run.now c.args.spot ms c.pass.new.self)
    (sym marked)
    (has_passing task c.args.assigned.now c.args.run.now c.args.outlook.now.ahead c.args.spot node at
    (omega (arith, c.node-node.ensures.low, c.is_ready.ensures.fit.all))
    (worth_low task c.is_ready.ensures.fit c.args.spot node c.node-node.ensures.node) c.requires.free
    (omega (arith, c.is_whole.ensures, c.node-node.ensures.low)) c.args.outlook.now.worth c.pass.new.self c.requires.known
    passes c.pass.ensures)

pub returns-else-node-clause-known : goal.returns-else-node-clause-known
returns-else-node-clause-known c =
    let at : node_at c.args.task.now c.args.spot ≡ Some c.node-node.result.now =
    c.node-node.ensures.node in
    (returns-else-node-clause-passed c (ap ends_in at ∙ c.if-node.false)).has
