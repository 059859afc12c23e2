-- The tables of the code, hex by hex and tile by tile, are the tables of the definitions.
use Rattle.std.proofs.Common.{◌≡◌, ℕ, ◌<◌, ◌≤◌, true, leb, get_or, refl, ap, ◌∙◌, sym, arith}
use Rattle.std.proofs.lemmas.Bool.{leb-true, eqb-true, eq-eqb}
use Rattle.std.proofs.lemmas.List.{get_or-map}
use Rattle.std.proofs.lemmas.List.FromFn.{get_or-range_with_len}
use Rattle.map_tables.specs.declared.hex.Hex.{Hex}
use Rattle.map_tables.specs.declared.hex.Hex.TheVariants.{A9}
use Rattle.map_tables.specs.declared.hex.TheConstants.{ROWS, COLUMNS}
use Rattle.map_tables.specs.Hex.{hexes, index_of, site_of, row_of, column_of, same_hex}

-- each hex has its row in the code's table
pub row_at : (hex : Hex) → get_or ROWS.now (index_of hex) 0 ≡ row_of hex
unfolding index_of hexes site_of
row_at A9 = refl
row_at _ = refl

-- and its column
pub column_at : (hex : Hex) → get_or COLUMNS (index_of hex) 0 ≡ column_of hex
unfolding index_of hexes site_of
column_at A9 = refl
column_at _ = refl

-- the rows and columns of the map
row_above : (hex : Hex) → leb 65 (row_of hex) ≡ true
unfolding site_of
row_above A9 = refl
row_above _ = refl

row_below : (hex : Hex) → leb (row_of hex) 75 ≡ true
unfolding site_of
row_below A9 = refl
row_below _ = refl

column_above : (hex : Hex) → leb 1 (column_of hex) ≡ true
unfolding site_of
column_above A9 = refl
column_above _ = refl

column_below : (hex : Hex) → leb (column_of hex) 24 ≡ true
unfolding site_of
column_below A9 = refl
column_below _ = refl

pub row_within : (hex : Hex) → (65 ≤ row_of hex) × (row_of hex ≤ 75)
row_within hex = (leb-true 65 (row_of hex) (row_above hex), leb-true (row_of hex) 75 (row_below hex))

pub column_within : (hex : Hex) → (1 ≤ column_of hex) × (column_of hex ≤ 24)
column_within hex = (leb-true 1 (column_of hex) (column_above hex), leb-true (column_of hex) 24 (column_below hex))

-- each hex is in the list of hexes at its place
pub hex_at_index : (hex : Hex) → get_or hexes (index_of hex) A9 ≡ hex
unfolding hexes index_of site_of
hex_at_index A9 = refl
hex_at_index _ = refl

-- and each place is that of the hex there
pub hexes_at : (index : ℕ) (d : Hex) → index < 93 → index_of (get_or hexes index d) ≡ index
unfolding hexes index_of site_of
hexes_at index d low =
    sym (get_or-map index_of hexes index d 0 low) ∙ get_or-range_with_len 0 93 index 0 low ∙ omega arith

-- hexes with one place are one
pub same_hex-true : (a b : Hex) → same_hex a b ≡ true → a ≡ b
same_hex-true a b same =
    let place : index_of a ≡ index_of b = eqb-true (index_of a) (index_of b) same in
    sym (hex_at_index a) ∙ ap (λ n. get_or hexes n A9) place ∙ hex_at_index b

pub same_hex-same : (a b : Hex) → a ≡ b → same_hex a b ≡ true
same_hex-same a b same = eq-eqb (index_of a) (index_of b) (ap index_of same)
