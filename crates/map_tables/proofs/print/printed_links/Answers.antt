use Rattle.std.proofs.Common.{rules}
use Rattle.map_tables.proofs.FewPieces.{few_printed}
use Rattle.map_tables.proofs.print.printed_links.Goals as goal

pub links_in-requires : goal.links_in-requires
links_in-requires c = search (rules, few_printed c.args.hex)
