-- What holds of every position: the order of its links, how borders pair, what stops are worth. A
-- hex that is a part of another hex's stop has that stop alone.
use Rattle.std.specs.Prelude.{◌≡◌, ◌≤◌, true}
use Rattle.map_tables.specs.Laws.{AreLinksOf, NeighboursPair}
use Rattle.map_tables.specs.declared.hex.Hex.{Hex}
use Rattle.map_tables.specs.declared.hex.Hex.TheVariants.{A11, J2}
use Rattle.map_tables.specs.declared.place.Stop.{Stop}
use Rattle.map_tables.specs.Place.{joined_hex}
use Rattle.map_tables.specs.declared.place.StopNumber.TheVariants.{First, Second}
use Rattle.map_tables.specs.declared.track.TrackEnd.TheVariants.{Stop as AtStop}
use Rattle.map_tables.specs.declared.track.Link.{Link}
use Rattle.reach.specs.Position.{Position, IsAmong, links_of, value_of, is_red}

-- The laws of positions. The links of each hex lie in it and are in order without repeats; the ends
-- of each differ and are not both stops. Borders pair both ways. No stop is worth more than 80
-- dollars. The Gulf, J2.0, and the Canadian West, A11.0, are red; the other hex of each has no
-- track to a second stop.
pub record IsLawful (position : Position) : Type 0 where
  pub links : (hex : Hex) → AreLinksOf hex (links_of position hex)
  pub borders_pair : NeighboursPair
  pub values : (stop : Stop) → value_of position stop ≤ 80
  pub gulf_is_red : is_red position (record { hex = J2; number = First }) ≡ true
  pub canadian_west_is_red : is_red position (record { hex = A11; number = First }) ≡ true
  pub parts_have_one_stop : (hex : Hex) (link : Link) → IsAmong link (links_of position hex) → link.b ≡ AtStop Second
      → joined_hex hex ≡ hex
