use Rattle.std.proofs.Common.{sym, ◌∙◌, ap}
use Rattle.sheets.specs.Text.{lines_of}
use Rattle.umpire.proofs.GroupLemmas.{groups_at_group}
use Rattle.umpire.specs.Groups.{groups_in, groups_of}
use Rattle.umpire.proofs.groups.next_head.Goals as goal

pub returns-then-begins_group : goal.returns-then-begins_group
unfolding groups_of
returns-then-begins_group c =
    let piece = c.in-Some.piece in
    sym c.loop-piece.invariant
    ∙ groups_at_group (lines_of c.loop-piece.rest.now) (lines_of piece.rest.now) piece.line.now c.in-Some.ensures.lines
    (sym c.begins_group.ensures ∙ c.if-begins_group.true)

pub returns : goal.returns
unfolding groups_of
returns c = sym c.loop-piece.invariant ∙ ap (λ rest. groups_in (lines_of rest)) c.in_default.ensures.lines
