use Rattle.std.proofs.lemmas.Result.{on_ok_weaker}
use Rattle.purchases.proofs.PhaseLemmas.{phase_begins}
use Rattle.purchases.proofs.phases.begin_phase.Goals as goal

pub returns-clause-after : goal.returns-clause-after
returns-clause-after c =
    on_ok_weaker c.keep_limits.result (phase_begins c.args.history.now c.record_event.new.self c.rust_kinds.new.history
    c.close_privates.new.history c.keep_limits.new.history c.args.phase c.in_ok-record_event.ensures.ok
    c.in_ok-rust_kinds.ensures.after c.in_ok-close_privates.ensures.after) c.keep_limits.ensures.after
