use Rattle.std.proofs.Common.{sym, subst}
use Rattle.turns.proofs.Small.{parts_small, ready_after}
use Rattle.turns.specs.Small.{PartsAreSmall}
use Rattle.foresight.proofs.first_turn.play_first_turn.Goals as goal

pub rule_standing-requires-clause-small : goal.rule_standing-requires-clause-small
rule_standing-requires-clause-small g c =
    subst PartsAreSmall (sym c.parts-sheet.ensures) (parts_small c.args.sheets.now c.args.round c.args.seat.0)

pub rule_first_lines-requires-clause-ready : goal.rule_first_lines-requires-clause-ready
rule_first_lines-requires-clause-ready g c =
    ready_after c.parts-sheet.result c.rule_standing.new.sheet c.in_ok-rule_standing.ensures.left
    (subst PartsAreSmall (sym c.parts-sheet.ensures) (parts_small c.args.sheets.now c.args.round c.args.seat.0))
