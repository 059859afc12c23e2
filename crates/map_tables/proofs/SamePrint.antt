-- Hexes with one print.
use Rattle.std.proofs.Common.{◌≡◌, ◌⊎◌, inl, inr, List, [], ◌∷◌, length, map, replicate}
use Rattle.map_tables.specs.declared.hex.Hex.{Hex}
use Rattle.map_tables.specs.Print.{Print, print_of}

-- a hex is one of some
abbrev pub IsOneOf : Hex → Hex → List Hex → Type 0
IsOneOf hex first [] = hex ≡ first
IsOneOf hex first (second ∷ rest) = (hex ≡ first) ⊎ IsOneOf hex second rest

-- then its print is the one that all of them have
pub same_print : (print : Print) (hex first : Hex) (rest : List Hex)
    → map print_of (first ∷ rest) ≡ print ∷ replicate (length rest) print → IsOneOf hex first rest
    → print_of hex ≡ print
same_print print hex first [] all one = cc
same_print print hex first (second ∷ rest) all one =
    elim one [ inl e ↦ cc | inr more ↦ same_print print hex second rest (cc) more ]
