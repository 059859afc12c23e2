-- The numbers of hexes: each hex has its own, less than 93.
use Rattle.std.proofs.Common.{◌≡◌, ◌<◌, get_or, refl, ap, sym, ◌∙◌, lit<, length}
use Rattle.map_tables.proofs.HexTables.{hex_at_index}
use Rattle.map_tables.specs.Hex.{hexes, index_of, site_of}
use Rattle.map_tables.specs.Place.{joined_hex, joined_stop_of, stop_index_of}
use Rattle.map_tables.specs.Side.{sides, number_of, facing_of}
use Rattle.map_tables.specs.declared.hex.Hex.{Hex}
use Rattle.map_tables.specs.declared.hex.Hex.TheVariants.{A9}
use Rattle.map_tables.specs.declared.place.Stop.{Stop}
use Rattle.map_tables.specs.declared.place.StopNumber.{StopNumber}
use Rattle.map_tables.specs.declared.place.StopNumber.TheVariants.{First, Second}
use Rattle.map_tables.specs.declared.side.Side.{Side}
use Rattle.map_tables.specs.declared.side.Side.TheVariants.{SouthWest}

-- hexes with one number are one
pub same_index : (a b : Hex) → index_of a ≡ index_of b → a ≡ b
same_index a b same = sym (hex_at_index a) ∙ ap (λ n. get_or hexes n A9) same ∙ hex_at_index b

-- each number is that of a hex
pub index_in : (hex : Hex) → index_of hex < length hexes
unfolding hexes index_of site_of
index_in A9 = lit< tt
index_in hex = lit< tt

-- each number is less than 93
pub index_low : (hex : Hex) → index_of hex < 93
unfolding index_of hexes site_of
index_low A9 = lit< tt
index_low hex = lit< tt

-- what names an area names itself
joined_hex_twice : (hex : Hex) → joined_hex (joined_hex hex) ≡ joined_hex hex
joined_hex_twice A9 = refl
joined_hex_twice hex = refl

-- the stop that names a stop names itself
pub joined_twice : (stop : Stop) → joined_stop_of (joined_stop_of stop) ≡ joined_stop_of stop
joined_twice stop = ap (λ hex. record { hex = hex; number = stop.number }) (joined_hex_twice stop.hex)

-- a side is at its number
side_at : (s : Side) → get_or sides (number_of s) SouthWest ≡ s
side_at SouthWest = refl
side_at s = refl

-- sides with one number are one
pub same_side : (a b : Side) → number_of a ≡ number_of b → a ≡ b
same_side a b same = sym (side_at a) ∙ ap (λ n. get_or sides n SouthWest) same ∙ side_at b

-- each number is less than 6
pub side_low : (s : Side) → number_of s < 6
side_low SouthWest = lit< tt
side_low s = lit< tt

-- the side that faces the facing side
pub facing_twice : (s : Side) → facing_of (facing_of s) ≡ s
facing_twice SouthWest = refl
facing_twice s = refl

-- numbers of stops with one index are one
pub same_stop_index : (a b : StopNumber) → stop_index_of a ≡ stop_index_of b → a ≡ b
same_stop_index First First same = refl
same_stop_index Second Second same = refl
same_stop_index First Second same = cc
same_stop_index Second First same = cc

-- each index is less than 2
pub stop_index_low : (number : StopNumber) → stop_index_of number < 2
stop_index_low First = lit< tt
stop_index_low Second = lit< tt
