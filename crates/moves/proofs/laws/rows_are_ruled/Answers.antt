use Rattle.moves.proofs.RowRulings.{before_ruled, opening_ruled, standing_ruled, stock_ruled}
use Rattle.moves.proofs.laws.rows_are_ruled.Goals as goal

pub returns-clause-opening : goal.returns-clause-opening
returns-clause-opening c = opening_ruled

pub returns-clause-stock : goal.returns-clause-stock
returns-clause-stock c = stock_ruled

pub returns-clause-before : goal.returns-clause-before
returns-clause-before c = before_ruled

pub returns-clause-standing : goal.returns-clause-standing
returns-clause-standing c = standing_ruled
