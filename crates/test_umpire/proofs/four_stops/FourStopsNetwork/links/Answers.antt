use Rattle.std.proofs.Common.{◌∙◌, ap, sym}
use Rattle.test_umpire.proofs.FourStops.{in_hex_is}
use Rattle.reach.specs.Position.{InHex}
use Rattle.test_umpire.proofs.four_stops.FourStopsNetwork.links.Goals as goal

pub returns : goal.returns
returns c = c.links_in.ensures ∙ sym (ap (λ (h : InHex). h.links) (in_hex_is c.args.hex))
