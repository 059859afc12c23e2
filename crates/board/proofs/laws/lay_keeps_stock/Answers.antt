-- The law is a lemma.
use Rattle.board.proofs.Stocked.{lay_keeps_stock}
use Rattle.board.proofs.laws.lay_keeps_stock.Goals as goal

pub returns : goal.returns
returns c = lay_keeps_stock
