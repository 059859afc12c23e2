use Rattle.std.proofs.Common.{subst}
use Rattle.events.specs.declared.ruling.Refusal.TheVariants.{Opening}
use Rattle.history.proofs.NearlySound.{ruling_quiet}
use Rattle.privates.proofs.TurnLemmas.{may_act_after}
use Rattle.privates.specs.Turn.{opening_judgement, opening_refusal}
use Rattle.privates.specs.UnderwayKept.{ruling_underway}
use Rattle.sheets.specs.Part.{line_unread}
use Rattle.turns.proofs.Ruled.{none_as_refusal, small_ruling}
use Rattle.turns.specs.Ruling.{IsOrderToDo, IsToDo, has_place_in_turn}
use Rattle.privates.proofs.turn.rule_line.Goals as goal

pub returns-then-not-branch-clause-underway : goal.returns-then-not-branch-clause-underway
returns-then-not-branch-clause-underway c =
    ruling_underway c.args.history.now c.rule_line.new.history c.args.seat c.args.line.number _
    c.in_ok-rule_line.ensures.ruling
    (small_ruling has_place_in_turn (opening_refusal c.args.history.now.seats c.args.history.now.events c.args.seat
    c.args.turn_used) c.args.history.now.events (line_unread c.args.line) c.requires.small)
    c.in_ok-rule_line.ensures.sound c.requires.underway

pub act-requires-clause-may : goal.act-requires-clause-may
act-requires-clause-may c =
    let judgement = opening_refusal c.args.history.now.seats c.args.history.now.events c.args.seat c.args.turn_used in
    let events = c.args.history.now.events in
    let line = line_unread c.args.line in
    let order = c.rule_line.new.order in
    let to_do : IsToDo has_place_in_turn judgement events line order =
    subst (IsOrderToDo has_place_in_turn judgement events line order) c.if-not-branch.false
    c.in_ok-rule_line.ensures.order
    in
    may_act_after c.args.history.now c.rule_line.new.history _ c.args.seat c.args.turn_used order
    c.in_ok-rule_line.ensures.ruling (ruling_quiet _ _ _)
    (none_as_refusal Opening (opening_judgement c.args.history.now.seats c.args.history.now.events c.args.seat
    c.args.turn_used order) to_do.kept)

pub act-requires-clause-underway : goal.act-requires-clause-underway
act-requires-clause-underway c =
    ruling_underway c.args.history.now c.rule_line.new.history c.args.seat c.args.line.number _
    c.in_ok-rule_line.ensures.ruling
    (small_ruling has_place_in_turn (opening_refusal c.args.history.now.seats c.args.history.now.events c.args.seat
    c.args.turn_used) c.args.history.now.events (line_unread c.args.line) c.requires.small)
    c.in_ok-rule_line.ensures.sound c.requires.underway
