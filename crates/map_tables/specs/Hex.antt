-- The hexes of the map. A hex is named by the letter of its row, A in the north to K in the south,
-- and the number of its column, which grows to the east. Hexes are ordered by row, then by column.
use Rattle.std.specs.Prelude.{ℕ, Bool, ◌==◌, ◌&&◌, List, [], ◌∷◌, Option, find}
use Rattle.std.specs.List.{position_or_len}
use Rattle.map_tables.specs.declared.hex.Hex.{Hex}
use Rattle.map_tables.specs.declared.hex.Hex.TheVariants.{
  A9,
  A11,
  A17,
  A19,
  B10,
  B12,
  B14,
  B16,
  B18,
  B20,
  B22,
  B24,
  C7,
  C9,
  C11,
  C13,
  C15,
  C17,
  C19,
  C21,
  C23,
  D2,
  D4,
  D6,
  D8,
  D10,
  D12,
  D14,
  D16,
  D18,
  D20,
  D22,
  D24,
  E3,
  E5,
  E7,
  E9,
  E11,
  E13,
  E15,
  E17,
  E19,
  E21,
  E23,
  F2,
  F4,
  F6,
  F8,
  F10,
  F12,
  F14,
  F16,
  F18,
  F20,
  F22,
  F24,
  G3,
  G5,
  G7,
  G9,
  G11,
  G13,
  G15,
  G17,
  G19,
  H2,
  H4,
  H6,
  H8,
  H10,
  H12,
  H14,
  H16,
  H18,
  I1,
  I3,
  I5,
  I7,
  I9,
  I11,
  I13,
  I15,
  I17,
  I19,
  J2,
  J4,
  J6,
  J8,
  J10,
  J12,
  J14,
  K13,
  K15,
}

-- the hexes of the map, in order
unfoldable pub hexes : List Hex
hexes =
    A9 ∷ A11 ∷ A17 ∷ A19 ∷ B10 ∷ B12 ∷ B14 ∷ B16 ∷ B18 ∷ B20 ∷ B22 ∷ B24 ∷ C7 ∷ C9 ∷ C11 ∷
    C13 ∷ C15 ∷ C17 ∷ C19 ∷ C21 ∷ C23 ∷ D2 ∷ D4 ∷ D6 ∷ D8 ∷ D10 ∷ D12 ∷ D14 ∷ D16 ∷ D18 ∷ D20 ∷
    D22 ∷ D24 ∷ E3 ∷ E5 ∷ E7 ∷ E9 ∷ E11 ∷ E13 ∷ E15 ∷ E17 ∷ E19 ∷ E21 ∷ E23 ∷ F2 ∷ F4 ∷ F6 ∷
    F8 ∷ F10 ∷ F12 ∷ F14 ∷ F16 ∷ F18 ∷ F20 ∷ F22 ∷ F24 ∷ G3 ∷ G5 ∷ G7 ∷ G9 ∷ G11 ∷ G13 ∷ G15 ∷
    G17 ∷ G19 ∷ H2 ∷ H4 ∷ H6 ∷ H8 ∷ H10 ∷ H12 ∷ H14 ∷ H16 ∷ H18 ∷ I1 ∷ I3 ∷ I5 ∷ I7 ∷ I9 ∷
    I11 ∷ I13 ∷ I15 ∷ I17 ∷ I19 ∷ J2 ∷ J4 ∷ J6 ∷ J8 ∷ J10 ∷ J12 ∷ J14 ∷ K13 ∷ K15 ∷ []

-- where each hex lies: the code of the letter of its row, A being 65, and its column
unfoldable pub site_of : Hex → ℕ × ℕ
site_of A9 = (65, 9)
site_of A11 = (65, 11)
site_of A17 = (65, 17)
site_of A19 = (65, 19)
site_of B10 = (66, 10)
site_of B12 = (66, 12)
site_of B14 = (66, 14)
site_of B16 = (66, 16)
site_of B18 = (66, 18)
site_of B20 = (66, 20)
site_of B22 = (66, 22)
site_of B24 = (66, 24)
site_of C7 = (67, 7)
site_of C9 = (67, 9)
site_of C11 = (67, 11)
site_of C13 = (67, 13)
site_of C15 = (67, 15)
site_of C17 = (67, 17)
site_of C19 = (67, 19)
site_of C21 = (67, 21)
site_of C23 = (67, 23)
site_of D2 = (68, 2)
site_of D4 = (68, 4)
site_of D6 = (68, 6)
site_of D8 = (68, 8)
site_of D10 = (68, 10)
site_of D12 = (68, 12)
site_of D14 = (68, 14)
site_of D16 = (68, 16)
site_of D18 = (68, 18)
site_of D20 = (68, 20)
site_of D22 = (68, 22)
site_of D24 = (68, 24)
site_of E3 = (69, 3)
site_of E5 = (69, 5)
site_of E7 = (69, 7)
site_of E9 = (69, 9)
site_of E11 = (69, 11)
site_of E13 = (69, 13)
site_of E15 = (69, 15)
site_of E17 = (69, 17)
site_of E19 = (69, 19)
site_of E21 = (69, 21)
site_of E23 = (69, 23)
site_of F2 = (70, 2)
site_of F4 = (70, 4)
site_of F6 = (70, 6)
site_of F8 = (70, 8)
site_of F10 = (70, 10)
site_of F12 = (70, 12)
site_of F14 = (70, 14)
site_of F16 = (70, 16)
site_of F18 = (70, 18)
site_of F20 = (70, 20)
site_of F22 = (70, 22)
site_of F24 = (70, 24)
site_of G3 = (71, 3)
site_of G5 = (71, 5)
site_of G7 = (71, 7)
site_of G9 = (71, 9)
site_of G11 = (71, 11)
site_of G13 = (71, 13)
site_of G15 = (71, 15)
site_of G17 = (71, 17)
site_of G19 = (71, 19)
site_of H2 = (72, 2)
site_of H4 = (72, 4)
site_of H6 = (72, 6)
site_of H8 = (72, 8)
site_of H10 = (72, 10)
site_of H12 = (72, 12)
site_of H14 = (72, 14)
site_of H16 = (72, 16)
site_of H18 = (72, 18)
site_of I1 = (73, 1)
site_of I3 = (73, 3)
site_of I5 = (73, 5)
site_of I7 = (73, 7)
site_of I9 = (73, 9)
site_of I11 = (73, 11)
site_of I13 = (73, 13)
site_of I15 = (73, 15)
site_of I17 = (73, 17)
site_of I19 = (73, 19)
site_of J2 = (74, 2)
site_of J4 = (74, 4)
site_of J6 = (74, 6)
site_of J8 = (74, 8)
site_of J10 = (74, 10)
site_of J12 = (74, 12)
site_of J14 = (74, 14)
site_of K13 = (75, 13)
site_of K15 = (75, 15)

-- the letter of a hex's row, as its code
abbrev pub row_of : Hex → ℕ
row_of hex = (site_of hex).0

-- the number of a hex's column
abbrev pub column_of : Hex → ℕ
column_of hex = (site_of hex).1

-- the place of a hex in the order of the hexes, from 0
unfoldable pub index_of : Hex → ℕ
index_of hex = position_or_len (λ other. row_of hex == row_of other && column_of hex == column_of other) hexes

-- whether two hexes are one
abbrev pub same_hex : Hex → Hex → Bool
same_hex a b = index_of a == index_of b

-- the hex in a row and a column, if the map has one
unfoldable pub hex_at : ℕ → ℕ → Option Hex
hex_at row column = find (λ hex. row_of hex == row && column_of hex == column) hexes
