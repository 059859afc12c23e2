use Rattle.std.proofs.Common.{[], get_or, map, ap, ◌∙◌}
use Rattle.map_tables.specs.declared.hex.Hex.{Hex}
use Rattle.reach.specs.Position.{links_of}
use Rattle.certificate.specs.LinkEnds.{ends_of, held}
use Rattle.certificate.specs.declared.link_ends.HexEnds.{HexEnds}
use Rattle.certificate.proofs.HexLinks.{entry_of}
use Rattle.certificate.proofs.hex_links.HexLinks.at.Goals as goal

pub returns : goal.returns
returns c = λ position are.
    let entries = c.args.self.now.hexes.items in
    let spare : HexEnds = record { ends = []; count = 0 } in
    c.links.ensures
    ∙ (ap (λ table. held (get_or table c.index.result spare)) c.as_slice-hexes.ensures.value
    ∙ (ap (λ place. held (get_or entries place spare)) c.index.ensures.value
    ∙ entry_of held (λ (hex : Hex). map ends_of (links_of position hex)) entries c.args.hex spare are
    c.args.self.now.whole))
