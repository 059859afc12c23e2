use Rattle.privates.specs.Standing.{has_place_before_turns, opening_standing_refusal}
use Rattle.privates.specs.UnderwayKept.{ruling_underway}
use Rattle.sheets.specs.Part.{line_unread}
use Rattle.turns.proofs.Ruled.{small_ruling}
use Rattle.privates.proofs.standing.rule_standing_line.Goals as goal

pub returns-clause-underway : goal.returns-clause-underway
returns-clause-underway c =
    ruling_underway c.args.history.now c.rule_line.new.history c.args.seat c.args.line.number _
    c.in_ok-rule_line.ensures.ruling
    (small_ruling has_place_before_turns (opening_standing_refusal c.args.history.now.events) c.args.history.now.events
    (line_unread c.args.line) c.requires.small)
    c.in_ok-rule_line.ensures.sound c.requires.underway
