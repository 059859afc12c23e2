use Rattle.std.proofs.Common.{arith}
use Rattle.std.proofs.lemmas.Grind.{common_steps}
use Rattle.order_grammar.proofs.PrefixLemmas.{at_error}
use Rattle.umpire.proofs.Parts.{prefix_of_part, prefix_of_text, leaves_all, leaves_less}
use Rattle.umpire.proofs.UnreadParts.{all_unread_written, unread_parted}
use Rattle.umpire.proofs.report_end.write_unread.Goals as goal

pub loop-rest-init : goal.loop-rest-init
loop-rest-init g c = record { left = leaves_all _ _; within = grind arith; unfailed = c.requires }

pub loop-rest-preserved : goal.loop-rest-preserved
loop-rest-preserved g c =
    let parted = unread_parted c.loop-rest.before c.min.result c.loop-rest.rest.now _ _ c.split_at.ensures.front
    c.split_at.ensures.back in
    let bytes = rw c.as_slice.ensures.value at c.in_ok-write_text.ensures.ok in
    let written = rw c.in_ok-text.ensures at bytes in
    record {
      left = leaves_less _ _ _ _ _ _ _ c.loop-rest.invariant.left parted written;
      within = grind (arith, common_steps);
      unfailed = c.in_ok-write_text.ensures.unfailed;
    }

pub returns-in_err-text-clause-prefix : goal.returns-in_err-text-clause-prefix
returns-in_err-text-clause-prefix g c = at_error c.from_residual.result (prefix_of_text _ _ _ _
    c.loop-rest.invariant.left)

pub returns-in_err-write_text-clause-prefix : goal.returns-in_err-write_text-clause-prefix
returns-in_err-write_text-clause-prefix g c =
    let parted = unread_parted c.loop-rest.before c.min.result c.loop-rest.rest.now _ _ c.split_at.ensures.front
    c.split_at.ensures.back in
    let bytes = rw c.as_slice.ensures.value at c.in_err-write_text.ensures.prefix in
    let prefix = rw c.in_ok-text.ensures at bytes in
    at_error c.from_residual-in_err-write_text.result
    (prefix_of_part _ _ _ _ _ _ _ c.loop-rest.invariant.left parted prefix)

pub returns-clause-ok : goal.returns-clause-ok
returns-clause-ok g c = all_unread_written _ _ _ _ _ (grind (arith, common_steps)) c.loop-rest.invariant.left
