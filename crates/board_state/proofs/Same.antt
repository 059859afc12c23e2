-- Hexes and stops that pass for one are one.
use Rattle.std.proofs.Common.{◌≡◌, ◌∙◌, ap, true, ◌&&◌}
use Rattle.std.proofs.lemmas.Bool.{eq-eqb}
use Rattle.std.specs.Prelude.{◌==◌}
use Rattle.map_tables.specs.OnMap.{same_stop}
use Rattle.map_tables.specs.Place.{stop_index_of}
use Rattle.map_tables.specs.declared.place.Stop.{Stop}
use Rattle.map_tables.proofs.HexTables.{same_hex-same}

-- and one passes for itself
pub stop_is_same : (a b : Stop) → a ≡ b → same_stop a b ≡ true
stop_is_same a b is =
    ap (λ h. h && (stop_index_of a.number == stop_index_of b.number))
    (same_hex-same a.hex b.hex (ap (λ (s : Stop). s.hex) is))
    ∙ eq-eqb (stop_index_of a.number) (stop_index_of b.number) (ap (λ (s : Stop). stop_index_of s.number) is)
