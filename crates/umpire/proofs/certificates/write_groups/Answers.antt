use Rattle.std.proofs.Common.{[], refl}
use Rattle.std.proofs.KnownBytes.{Appends-nil}
use Rattle.order_grammar.proofs.PrefixLemmas.{at_error}
use Rattle.umpire.proofs.CertsLemmas.{groups_ahead}
use Rattle.umpire.proofs.Parts.{leaves_less, prefix_of_part}
use Rattle.umpire.proofs.certificates.write_groups.Goals as goal

pub loop-group-init : goal.loop-group-init
loop-group-init g c =
    record { left = record { done = []; whole = refl; appended = Appends-nil _ }; unfailed = c.requires }

pub loop-group-preserved : goal.loop-group-preserved
loop-group-preserved g c =
    let at = c.loop-group.invariant in
    let ahead = groups_ahead c.args.groups.now c.loop-group.group-index c.group-item.result c.loop-group-test.true
    c.group-item.is in
    record {
      left = leaves_less _ _ _ _ _ _ _ at.left ahead c.in_ok-write_group.ensures.ok;
      unfailed = c.in_ok-write_group.ensures.unfailed;
    }

pub returns-in_err-write_group-clause-prefix : goal.returns-in_err-write_group-clause-prefix
returns-in_err-write_group-clause-prefix g c =
    let at = c.loop-group.invariant in
    let ahead = groups_ahead c.args.groups.now c.loop-group.group-index c.group-item.result c.loop-group-test.true
    c.group-item.is in
    at_error c.from_residual.result
    (prefix_of_part _ _ _ _ _ _ _ at.left ahead c.in_err-write_group.ensures.prefix)
