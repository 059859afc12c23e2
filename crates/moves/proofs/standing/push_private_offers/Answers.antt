use Rattle.moves.proofs.RowLemmas.{rows_done, rows_next, rows_none}
use Rattle.moves.specs.StandingRows.{private_offers, private_offers_of, standing_row}
use Rattle.tables.specs.Roster.{privates}
use Rattle.moves.proofs.standing.push_private_offers.Goals as goal

pub loop-private-init : goal.loop-private-init
loop-private-init c = rows_none (standing_row c.args.history.now.events c.args.seat) (private_offers_of c.args.history.now.events c.args.seat) _

pub loop-private-preserved : goal.loop-private-preserved
loop-private-preserved c =
    rows_next (standing_row c.args.history.now.events c.args.seat) (private_offers_of c.args.history.now.events c.args.seat) _ c.loop-private.private-index _ _ _ _
    c.loop-private-test.true c.loop-private.invariant c.in_ok-push_private_offers_of.ensures

pub returns : goal.returns
unfolding private_offers
returns c =
    rows_done (standing_row c.args.history.now.events c.args.seat) (private_offers_of c.args.history.now.events c.args.seat) privates
    c.loop-private.private-index _ _ c.loop-private-test.false c.loop-private.invariant
