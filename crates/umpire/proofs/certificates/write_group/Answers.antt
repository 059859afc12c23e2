use Rattle.std.proofs.lemmas.Result.{on_ok_weaker}
use Rattle.std.proofs.KnownBytes.{Appends-trans}
use Rattle.order_grammar.proofs.PrefixLemmas.{at_error}
use Rattle.umpire.proofs.CertsLemmas.{marks_prefix}
use Rattle.umpire.proofs.Parts.{none_of, prefix_of_first_part}
use Rattle.umpire.proofs.certificates.write_group.Goals as goal

pub returns-clause-ok : goal.returns-clause-ok
returns-clause-ok g c =
    let bytes = rw c.as_slice.ensures.value at c.in_ok-write_text.ensures.ok in
    let after = rw c.in_ok-print_claim.ensures at bytes in
    let claim = rw c.new-text.ensures.items at after in
    on_ok_weaker c.write_marks.result (λ marks. Appends-trans _ _ _ _ _ claim marks) c.write_marks.ensures.ok

pub returns-in_err-print_claim-clause-prefix : goal.returns-in_err-print_claim-clause-prefix
returns-in_err-print_claim-clause-prefix g c = at_error c.from_residual.result (none_of _ _)

pub returns-in_err-write_text-clause-prefix : goal.returns-in_err-write_text-clause-prefix
returns-in_err-write_text-clause-prefix g c =
    let bytes = rw c.as_slice.ensures.value at c.in_err-write_text.ensures.prefix in
    let after = rw c.in_ok-print_claim.ensures at bytes in
    let claim = rw c.new-text.ensures.items at after in
    at_error c.from_residual-in_err-write_text.result (prefix_of_first_part _ _ _ _ claim)

pub returns-clause-prefix : goal.returns-clause-prefix
returns-clause-prefix g c =
    let bytes = rw c.as_slice.ensures.value at c.in_ok-write_text.ensures.ok in
    let after = rw c.in_ok-print_claim.ensures at bytes in
    let claim = rw c.new-text.ensures.items at after in
    marks_prefix c.write_marks.result _ _ _ _ _ claim c.write_marks.ensures.prefix
