use Rattle.std.proofs.Common.{sym, ap, ◌∙◌}
use Rattle.std.specs.Prelude.{max, unwrap_or}
use Rattle.desk_check.proofs.RoundLemmas.{none_applied, one_applied}
use Rattle.desk_check.proofs.check_late.Rounds.apply.Goals as goal

pub returns-in-None : goal.returns-in-None
returns-in-None c = λ events are. none_applied c.args.heads.now c.args.self.now events c.args.event.now
    (sym c.in-None.ensures) are

pub returns : goal.returns
returns c = λ events are.
    one_applied c.args.heads.now c.args.self.now _ events c.args.event.now c.in-Some.round
    (sym c.in-Some.ensures) c.in_ok-insert.ensures.updates.0
    (c.max-self.ensures
    ∙ ap (λ line. max line c.args.self.now.by) (c.unwrap_or.ensures ∙ ap (λ line. unwrap_or line 0) c.complete_by.ensures))
    are
