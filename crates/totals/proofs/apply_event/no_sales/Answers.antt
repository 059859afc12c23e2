use Rattle.totals.proofs.Empty.{no_sale}
use Rattle.totals.proofs.apply_event.no_sales.Goals as goal

pub returns : goal.returns
returns c = no_sale
