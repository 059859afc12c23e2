use Rattle.map_tables.proofs.LinksInOrder.{printed_links}
use Rattle.map_tables.proofs.laws.printed_links_are_in_order.Goals as goal

pub returns : goal.returns
returns c = printed_links
