use Rattle.moves.proofs.RowLemmas.{rows_done, rows_next, rows_none}
use Rattle.moves.specs.StandingRows.{discards, discards_of, standing_row}
use Rattle.tables.specs.Roster.{companies}
use Rattle.moves.proofs.standing.push_discards.Goals as goal

pub loop-company-init : goal.loop-company-init
loop-company-init c = rows_none (standing_row c.args.history.now.events c.args.seat) (discards_of c.args.history.now.events c.args.seat) _

pub loop-company-preserved : goal.loop-company-preserved
loop-company-preserved c =
    rows_next (standing_row c.args.history.now.events c.args.seat) (discards_of c.args.history.now.events c.args.seat) _ c.loop-company.company-index _ _ _ _
    c.loop-company-test.true c.loop-company.invariant c.in_ok-push_discards_of.ensures

pub returns : goal.returns
unfolding discards
returns c =
    rows_done (standing_row c.args.history.now.events c.args.seat) (discards_of c.args.history.now.events c.args.seat) companies
    c.loop-company.company-index _ _ c.loop-company-test.false c.loop-company.invariant
