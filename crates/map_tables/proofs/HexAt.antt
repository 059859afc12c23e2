-- The hex in a row and a column.
use Rattle.std.proofs.Common.{◌≡◌, ℕ, ◌==◌, ◌&&◌, Some, None, refl}
use Rattle.std.proofs.lemmas.Bool.{and_parts, eqb-true}
use Rattle.map_tables.specs.declared.hex.Hex.{Hex}
use Rattle.map_tables.specs.declared.hex.Hex.TheVariants.{A9}
use Rattle.map_tables.specs.Hex.{hexes, index_of, site_of, row_of, column_of, hex_at}
use Rattle.map_tables.specs.Guess.{guess_at}
use Rattle.map_tables.proofs.Searches.{found_passes}

-- each hex is the one at its row and column
pub hex_at-site : (hex : Hex) → hex_at (row_of hex) (column_of hex) ≡ Some hex
unfolding hexes site_of hex_at
hex_at-site A9 = refl
hex_at-site _ = refl

-- and is guessed from them
pub guess_at-site : (hex : Hex) → guess_at (row_of hex) (column_of hex) ≡ Some hex
unfolding hexes index_of site_of
guess_at-site A9 = refl
guess_at-site _ = refl

-- the hex that is found lies in the row and the column
pub hex_at-is : (row column : ℕ) (hex : Hex) → hex_at row column ≡ Some hex
    → (row_of hex ≡ row) × (column_of hex ≡ column)
unfolding hex_at
hex_at-is row column hex e =
    let parts = and_parts (row_of hex == row) (column_of hex == column)
    (found_passes (λ h. row_of h == row && column_of h == column) hexes hex e) in
    (eqb-true (row_of hex) row parts.0, eqb-true (column_of hex) column parts.1)

-- a row and a column have no hex where no guess is right
pub hex_at-none : (row column : ℕ) → ((hex : Hex) → guess_at row column ≡ Some hex → row_of hex ≡ row
    → column_of hex ≡ column → ⊥) → hex_at row column ≡ None
unfolding hex_at
hex_at-none row column wrong =
    (elim (hex_at row column) as (λ found. hex_at row column ≡ found → found ≡ None) [
      | None ↦ λ e. refl
      | Some hex ↦ λ e.
          let at = hex_at-is row column hex e in
          let guessed : guess_at row column ≡ Some hex = cc (guess_at-site hex) in
          absurd (wrong hex guessed at.0 at.1)
    ]) refl

-- and the guess that is right is their hex
pub hex_at-some : (row column : ℕ) (hex : Hex) → row_of hex ≡ row → column_of hex ≡ column
    → hex_at row column ≡ Some hex
hex_at-some row column hex r c = rw (← r, ← c) (hex_at-site hex)
