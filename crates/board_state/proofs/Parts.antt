-- A hex that is a part of another's stop keeps its print, and that shows no second stop.
use Rattle.std.proofs.Common.{◌≡◌, ◌∙◌, ap, subst, refl, inl, inr}
use Rattle.board_state.specs.MapState.{MapState, position_of, track_in}
use Rattle.board_state.proofs.Positions.{in_hex_is}
use Rattle.map_tables.specs.Hex.{index_of, hexes, site_of}
use Rattle.map_tables.specs.Place.{joined_hex}
use Rattle.map_tables.specs.Print.{groups, plain_hexes, print_of, printed_links_of}
use Rattle.map_tables.specs.declared.hex.Hex.{Hex}
use Rattle.map_tables.specs.declared.hex.Hex.TheVariants.{A9, I1}
use Rattle.map_tables.specs.declared.place.StopNumber.TheVariants.{Second}
use Rattle.map_tables.specs.declared.track.TrackEnd.TheVariants.{Stop as AtStop}
use Rattle.map_tables.specs.declared.track.Link.{Link}
use Rattle.reach.specs.Position.{InHex, IsAmong, links_of}

-- the two parts
gulf_has_one : (link : Link) → IsAmong link (printed_links_of I1) → link.b ≡ AtStop Second → joined_hex I1 ≡ I1
unfolding index_of hexes site_of groups plain_hexes print_of printed_links_of
gulf_has_one link (inl is) second = absurd (let wrong = ap (λ (l : Link). l.b) is ∙ second in cc)
gulf_has_one link (inr more) second = absurd more

west_has_one : (link : Link) → IsAmong link (printed_links_of A9) → link.b ≡ AtStop Second → joined_hex A9 ≡ A9
unfolding index_of hexes site_of groups plain_hexes print_of printed_links_of
west_has_one link (inl is) second = absurd (let wrong = ap (λ (l : Link). l.b) is ∙ second in cc)
west_has_one link (inr more) second = absurd more

-- whatever was laid
one_stop : (laid : MapState) (hex : Hex) (link : Link) → IsAmong link (track_in laid.lays hex)
    → link.b ≡ AtStop Second → joined_hex hex ≡ hex
unfolding index_of hexes site_of
one_stop laid I1 link track second = gulf_has_one link track second
one_stop laid A9 link track second = west_has_one link track second
one_stop laid hex link track second = refl

pub parts_have_one_stop : (laid : MapState) (hex : Hex) (link : Link) → IsAmong link (links_of (position_of laid) hex)
    → link.b ≡ AtStop Second → joined_hex hex ≡ hex
parts_have_one_stop laid hex link among =
    one_stop laid hex link (subst (λ (h : InHex). IsAmong link h.links) (in_hex_is laid hex) among)
