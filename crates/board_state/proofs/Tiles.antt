-- The tile that lies on a hex.
use Rattle.std.proofs.Common.{◌≡◌, ◌∙◌, ap, true, false, cond, List, [], ◌∷◌, ◌++◌, reverse, Some}
use Rattle.std.proofs.lemmas.List.{reverse-append}
use Rattle.std.specs.List.{find}
use Rattle.map_tables.specs.OnMap.{tile_on}
use Rattle.map_tables.specs.Hex.{same_hex}
use Rattle.map_tables.specs.declared.hex.Hex.{Hex}
use Rattle.map_tables.specs.declared.lay.Lay.{Lay}
use Rattle.map_tables.proofs.Searches.{found_passes}

-- the tile that lies on a hex was laid on it
pub lies_there : (lays : List Lay) (hex : Hex) (lay : Lay) → tile_on lays hex ≡ Some lay → same_hex lay.hex hex ≡ true
unfolding tile_on
lies_there lays hex lay e = found_passes (λ l. same_hex l.hex hex) (reverse lays) lay e

-- the last lay lies on its hex, and changes no other
pub last_lies : (lays : List Lay) (lay : Lay) (hex : Hex)
    → tile_on (lays ++ lay ∷ []) hex ≡ cond (same_hex lay.hex hex) (Some lay) (tile_on lays hex)
unfolding tile_on
last_lies lays lay hex = ap (find (λ l. same_hex l.hex hex)) (reverse-append lays (lay ∷ []))

-- the last of some lays lies on its hex
pub tile_here : (lays before : List Lay) (lay : Lay) (hex : Hex) → lays ≡ before ++ lay ∷ []
    → same_hex lay.hex hex ≡ true → tile_on lays hex ≡ Some lay
tile_here lays before lay hex ends here =
    ap (λ ls. tile_on ls hex) ends ∙ last_lies before lay hex ∙ ap (λ b. cond b (Some lay) (tile_on before hex)) here

-- and on another hex what lay there before it
pub tile_before : (lays before : List Lay) (lay : Lay) (hex : Hex) → lays ≡ before ++ lay ∷ []
    → same_hex lay.hex hex ≡ false → tile_on lays hex ≡ tile_on before hex
tile_before lays before lay hex ends elsewhere =
    ap (λ ls. tile_on ls hex) ends ∙ last_lies before lay hex
    ∙ ap (λ b. cond b (Some lay) (tile_on before hex)) elsewhere
