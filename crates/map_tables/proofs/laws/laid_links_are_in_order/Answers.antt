use Rattle.map_tables.proofs.LinksInOrder.{laid_links}
use Rattle.map_tables.proofs.laws.laid_links_are_in_order.Goals as goal

pub returns : goal.returns
returns c = laid_links
