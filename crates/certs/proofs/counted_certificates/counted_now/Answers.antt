use Rattle.std.proofs.Common.{◌+ℤ◌, Option, pos, ap, ◌∙◌}
use std.Path.{fun_ext}
use Rattle.certs.specs.Counted.{certificates_in, certificates_now, privates_owned}
use Rattle.events.specs.declared.event.Holder.{Holder}
use Rattle.tables.specs.Roster.{companies}
use Rattle.tables.specs.declared.roster.Private.{Private}
use Rattle.std.proofs.lemmas.Int.{to_z-of_z}
use Rattle.certs.proofs.counted_certificates.counted_now.Goals as goal
use mir.Syntax.{w128}

pub returns : goal.returns
returns c =
    to_z-of_z w128 c.counted.result (record { sfits = c.counted.type_inv })
    ∙ c.counted.ensures
    ∙ ap (λ (owner : Private → Option Holder). pos (privates_owned owner c.args.seat) +ℤ certificates_in
    (certificates_now c.args.view.now.events c.args.seat) companies) (fun_ext c.owners.ensures.owner)
