use Rattle.moves.proofs.RowLemmas.{rows_done, rows_next, rows_none}
use Rattle.moves.specs.StandingRows.{private_offer, standing_row}
use Rattle.tables.specs.Roster.{companies}
use Rattle.moves.proofs.standing.push_private_offers_of.Goals as goal

pub loop-buyer-init : goal.loop-buyer-init
loop-buyer-init c = rows_none (standing_row c.args.history.now.events c.args.seat) (private_offer c.args.history.now.events c.args.seat c.args.private) _

pub loop-buyer-preserved : goal.loop-buyer-preserved
loop-buyer-preserved c =
    rows_next (standing_row c.args.history.now.events c.args.seat) (private_offer c.args.history.now.events c.args.seat c.args.private) _ c.loop-buyer.buyer-index _ _ _ _
    c.loop-buyer-test.true c.loop-buyer.invariant c.in_ok-push_private_offer.ensures

pub returns : goal.returns
returns c =
    rows_done (standing_row c.args.history.now.events c.args.seat) (private_offer c.args.history.now.events c.args.seat c.args.private) companies
    c.loop-buyer.buyer-index _ _ c.loop-buyer-test.false c.loop-buyer.invariant
