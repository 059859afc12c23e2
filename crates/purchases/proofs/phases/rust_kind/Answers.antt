use Rattle.std.proofs.Common.{◌≡◌, OnOk, None, subst}
use Rattle.purchases.specs.Phases.{with_trains_rusted}
use Rattle.purchases.proofs.phases.rust_kind.Goals as goal

pub returns-clause-after : goal.returns-clause-after
returns-clause-after c =
    subst (λ before. OnOk c.rust_trains_of.result (c.rust_trains_of.new.history
    ≡ with_trains_rusted None c.args.kind before)) c.in_ok-rust_of_companies.ensures.after
    c.rust_trains_of.ensures.after
