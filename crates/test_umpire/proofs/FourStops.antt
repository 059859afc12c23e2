-- The network of four stops has what its definition says, and keeps the laws of networks.
use Rattle.std.proofs.Common.{◌≡◌, ◌∙◌, ap, sym, subst, refl, ◌≤◌, lit≤, get_or}
use Rattle.std.proofs.lemmas.List.{get_or-map}
use Rattle.map_tables.proofs.HexTables.{hex_at_index}
use Rattle.test_umpire.specs.FourStops.{four_stops, on_map_in, standing_in}
use Rattle.map_tables.specs.Hex.{hexes, index_of}
use Rattle.map_tables.specs.Laws.{AreLinksOf, NeighboursPair}
use Rattle.map_tables.specs.Place.{joined_hex, stop_at, stop_index_of}
use Rattle.map_tables.specs.declared.hex.Hex.{Hex}
use Rattle.map_tables.specs.declared.hex.Hex.TheVariants.{A9, A11, G11, G13, H10, H12, I1, J2}
use Rattle.map_tables.specs.declared.place.Stop.{Stop}
use Rattle.map_tables.specs.declared.place.StopNumber.{StopNumber}
use Rattle.map_tables.specs.declared.place.StopNumber.TheVariants.{First, Second}
use Rattle.map_tables.specs.declared.track.TrackEnd.TheVariants.{Stop as AtStop}
use Rattle.map_tables.specs.declared.track.Link.{Link}
use Rattle.reach.specs.Lawful.{IsLawful}
use Rattle.reach.specs.Position.{InHex, IsAmong, at_stop, empty_hex, in_hex, no_stop}
use Rattle.reach.proofs.Hexes.{index_in}

-- the position has in a hex what is there
pub in_hex_is : (hex : Hex) → in_hex four_stops hex ≡ on_map_in hex
unfolding four_stops
in_hex_is hex =
    get_or-map on_map_in hexes (index_of hex) A9 empty_hex (index_in hex) ∙ ap on_map_in (hex_at_index hex)

-- and at a stop what is there
pub at_stop_is : (stop : Stop) → at_stop four_stops stop ≡ standing_in (joined_hex stop.hex) stop.number
at_stop_is stop = ap (λ (here : InHex). get_or here.stops (stop_index_of stop.number) no_stop)
    (in_hex_is (joined_hex stop.hex))

-- no hex has a second stop
pub no_second : (hex : Hex) → standing_in hex Second ≡ no_stop
no_second G11 = refl
no_second hex = refl

-- the links of each hex are in order
in_order : (hex : Hex) → AreLinksOf hex (on_map_in hex).links
in_order G11 = record { in_order = refl; here = (refl, (refl, (refl, tt))); few = lit≤ tt }
in_order G13 = record { in_order = refl; here = (refl, (refl, tt)); few = lit≤ tt }
in_order H10 = record { in_order = refl; here = (refl, (refl, tt)); few = lit≤ tt }
in_order H12 = record { in_order = refl; here = (refl, (refl, (refl, (refl, tt)))); few = lit≤ tt }
in_order hex = record { in_order = refl; here = tt; few = lit≤ tt }

-- no stop is worth more than 80
worth : (hex : Hex) (number : StopNumber) → (standing_in hex number).value ≤ 80
worth G11 First = lit≤ tt
worth G11 Second = lit≤ tt
worth hex First = lit≤ tt
worth hex Second = lit≤ tt

-- no track leads to a second stop
none_second : (hex : Hex) (link : Link) → IsAmong link (on_map_in hex).links → link.b ≡ AtStop Second
    → joined_hex hex ≡ hex
none_second A9 link among second = absurd among
none_second I1 link among second = absurd among
none_second hex link among second = refl

pub lawful : NeighboursPair → IsLawful four_stops
lawful pair =
    record {
      links = λ hex. subst (λ (h : InHex). AreLinksOf hex h.links) (sym (in_hex_is hex)) (in_order hex);
      borders_pair = pair;
      values = λ stop. subst (λ s. s.value ≤ 80) (sym (at_stop_is stop)) (worth (joined_hex stop.hex) stop.number);
      gulf_is_red = ap (λ s. s.red) (at_stop_is (stop_at J2 First));
      canadian_west_is_red = ap (λ s. s.red) (at_stop_is (stop_at A11 First));
      parts_have_one_stop = λ hex link among second. none_second hex link
          (subst (λ (h : InHex). IsAmong link h.links) (in_hex_is hex) among) second;
    }
