-- The links of the tile are kept at its hex.
use Rattle.std.proofs.Common.{◌∙◌, ap, map, set}
use Rattle.std.proofs.lemmas.List.{map-set}
use Rattle.map_tables.specs.Hex.{index_of}
use Rattle.board.specs.KeptLinks.{held}
use Rattle.board.proofs.index.Index.add_lay.Goals as goal

pub returns-clause-links : goal.returns-clause-links
returns-clause-links c =
    let links = c.args.self.now.links in
    map-set held links c.index-2.result c.of.result
    ∙ ap (λ place. set (map held links) place (held c.of.result)) c.index-2.ensures.value
    ∙ ap (set (map held links) (index_of c.args.lay.hex)) (c.of.ensures ∙ c.laid_links.ensures)
