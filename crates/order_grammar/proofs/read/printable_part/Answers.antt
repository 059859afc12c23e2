use Rattle.std.proofs.Common.{sym}
use Rattle.order_grammar.proofs.ReadableLemmas.{to_end, to_comment, part_before, all_before, to_stray}
use Rattle.order_grammar.proofs.read.printable_part.Goals as goal

-- the line has no comment
pub returns-then-end-line-clause-printable : goal.returns-then-end-line-clause-printable
returns-then-end-line-clause-printable c =
    let is = to_end c.args.line.now _ c.printable_length-end.ensures.value c.if-end-line.true in sym is.printable

pub returns-then-end-line-clause-part : goal.returns-then-end-line-clause-part
returns-then-end-line-clause-part c =
    let found = c.printable_length-end.ensures.value in
    all_before c.args.line.now _ found (to_end c.args.line.now _ found c.if-end-line.true) c.if-end-line.true

-- it has one
pub returns-then-line-end-eq35-clause-printable : goal.returns-then-line-end-eq35-clause-printable
returns-then-line-end-eq35-clause-printable c =
    let is = to_comment c.args.line.now _ c.printable_length-end.ensures.value c.if-line-end-eq35.true in
    sym is.printable

pub returns-then-line-end-eq35-clause-part : goal.returns-then-line-end-eq35-clause-part
returns-then-line-end-eq35-clause-part c =
    let found = c.printable_length-end.ensures.value in
    part_before c.args.line.now _ found (to_comment c.args.line.now _ found c.if-line-end-eq35.true)

pub returns-else-line-end-eq35-clause-printable : goal.returns-else-line-end-eq35-clause-printable
returns-else-line-end-eq35-clause-printable c =
    sym (to_stray c.args.line.now _ c.printable_length-end.ensures.value c.printable_length-end.ensures.within
    c.if-end-line.false c.if-line-end-eq35.false)
