use Rattle.std.proofs.Common.{List, length, ◌<◌, sym, subst, ◌∙◌, ap}
use Rattle.std.specs.Prelude.{None, Some}
use Rattle.legal_runs.specs.declared.claim.ClaimedRun.{ClaimedRun}
use Rattle.sheets.specs.Text.{lines_of}
use Rattle.umpire.specs.Groups.{group_behind, group_if, groups_of, with_lines}
use Rattle.umpire.proofs.GroupLemmas.{groups_behind, malformed, next_line}
use Rattle.umpire.proofs.VerifierLemmas.{none_of, too_many}
use Rattle.umpire.proofs.groups.read_group.Goals as goal

pub returns-in_default-clause-group : goal.returns-in_default-clause-group
returns-in_default-clause-group c =
    let lines = lines_of c.args.text.now in
    none_of _ c.args.trains
    (ap (λ group. with_lines lines group) (sym c.group_begun.ensures ∙ c.in_default.is) ∙ malformed lines)

pub returns-then-not-branch-clause-group : goal.returns-then-not-branch-clause-group
returns-then-not-branch-clause-group c =
    let piece = c.in-Some-first_line.piece in
    let refused = sym c.in_ok-take_line.ensures ∙ ap (λ taken. group_if taken c.take_line.new.group)
    c.if-not-branch.true in
    let next =
    next_line (lines_of c.loop-piece.rest.now) (lines_of piece.rest.now) piece.line.now c.loop-piece.group None
    c.in-Some-first_line.ensures.lines (sym c.begins_group.ensures ∙ c.if-begins_group.false) refused in
    none_of _ c.args.trains (sym c.loop-piece.invariant.0 ∙ next ∙ malformed (lines_of piece.rest.now))

-- with the line that was taken the group still makes the group
pub returns-then-as_slice-trains-clause-group : goal.returns-then-as_slice-trains-clause-group
returns-then-as_slice-trains-clause-group c =
    let piece = c.in-Some-first_line.piece in
    let taken = sym c.in_ok-take_line.ensures ∙ ap (λ taken. group_if taken c.take_line.new.group)
    c.if-not-branch.false in
    let next =
    next_line (lines_of c.loop-piece.rest.now) (lines_of piece.rest.now) piece.line.now c.loop-piece.group
    (Some c.take_line.new.group) c.in-Some-first_line.ensures.lines
    (sym c.begins_group.ensures ∙ c.if-begins_group.false) taken in
    let many = subst (λ (runs : List ClaimedRun). c.args.trains < length runs) c.as_slice.ensures
    c.if-as_slice-trains.true in
    too_many (lines_of piece.rest.now) c.take_line.new.group (group_behind c.args.head.now c.args.text.now)
    c.args.trains many (sym next ∙ c.loop-piece.invariant.0)

pub loop-piece-preserved : goal.loop-piece-preserved
loop-piece-preserved c =
    let piece = c.in-Some-first_line.piece in
    let taken = sym c.in_ok-take_line.ensures ∙ ap (λ taken. group_if taken c.take_line.new.group)
    c.if-not-branch.false in
    let next =
    next_line (lines_of c.loop-piece.rest.now) (lines_of piece.rest.now) piece.line.now c.loop-piece.group
    (Some c.take_line.new.group) c.in-Some-first_line.ensures.lines
    (sym c.begins_group.ensures ∙ c.if-begins_group.false) taken in (
      sym next ∙ c.loop-piece.invariant.0,
      sym (groups_behind (lines_of c.loop-piece.rest.now) (lines_of piece.rest.now) piece.line.now
          c.in-Some-first_line.ensures.lines (sym c.begins_group.ensures ∙ c.if-begins_group.false))
          ∙ c.loop-piece.invariant.1,
    )

-- no line so far begins another group
pub returns-then-begins_group-clause-rest : goal.returns-then-begins_group-clause-rest
unfolding groups_of
returns-then-begins_group-clause-rest c = c.loop-piece.invariant.1

pub returns-then-not-branch-clause-rest : goal.returns-then-not-branch-clause-rest
unfolding groups_of
returns-then-not-branch-clause-rest c = c.loop-piece.invariant.1

pub returns-then-as_slice-trains-clause-rest : goal.returns-then-as_slice-trains-clause-rest
unfolding groups_of
returns-then-as_slice-trains-clause-rest c = c.loop-piece.invariant.1

pub returns-clause-rest : goal.returns-clause-rest
unfolding groups_of
returns-clause-rest c = c.loop-piece.invariant.1
