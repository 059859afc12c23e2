use Rattle.std.proofs.KnownBytes.{Appends-trans}
use Rattle.order_grammar.proofs.PrefixLemmas.{at_error}
use Rattle.umpire.proofs.Parts.{prefix_of_first_part, prefix_of_second_part, whole_prefix}
use Rattle.umpire.proofs.report_end.write_end.Goals as goal

-- a prefix of the unread lines is a prefix of all that follows the rounds
pub returns-in_err-write_unread-clause-prefix : goal.returns-in_err-write_unread-clause-prefix
returns-in_err-write_unread-clause-prefix g c =
    let prefix = rw (c.unread.ensures, c.sheets.ensures) at c.in_err-write_unread.ensures.prefix in
    at_error c.from_residual.result (prefix_of_first_part _ _ _ _ prefix)

-- so are all unread lines
pub returns-in_err-text-clause-prefix : goal.returns-in_err-text-clause-prefix
returns-in_err-text-clause-prefix g c =
    let written = rw (c.unread.ensures, c.sheets.ensures) at c.in_ok-write_unread.ensures.ok in
    at_error c.from_residual-in_err-text.result (prefix_of_first_part _ _ _ _ (whole_prefix _ _ _ written))

-- and these with a prefix of the outcome
pub returns-in_err-write_text-clause-prefix : goal.returns-in_err-write_text-clause-prefix
returns-in_err-write_text-clause-prefix g c =
    let written = rw (c.unread.ensures, c.sheets.ensures) at c.in_ok-write_unread.ensures.ok in
    let bytes = rw c.as_slice.ensures.value at c.in_err-write_text.ensures.prefix in
    let prefix = rw c.in_ok-text.ensures at bytes in
    at_error c.from_residual-in_err-write_text.result (prefix_of_second_part _ _ _ _ _ written prefix)

pub returns-clause-ok : goal.returns-clause-ok
returns-clause-ok g c =
    let unread = rw (c.unread.ensures, c.sheets.ensures) at c.in_ok-write_unread.ensures.ok in
    let bytes = rw c.as_slice.ensures.value at c.in_ok-write_text.ensures.ok in
    let written = rw c.in_ok-text.ensures at bytes in
    Appends-trans _ _ _ _ _ unread written
