-- A player's name is a letter, then up to seven letters or digits; letters are raised. In a
-- contract a name is its text.
use Rattle.std.specs.Prelude.{◌≡◌, ℕ, ◌-◌, ◌≤◌, Bool, false, ◌&&◌, ◌||◌, nat_le, List, [], ◌∷◌, ◌++◌, length, take}
use Rattle.std.specs.Prelude.{drop, replicate}
use Rattle.std.proofs.Common.{sym, ap, subst, ◌∙◌, length-take-le, take-append-drop}
use Rattle.std.specs.List.{list_all}
use Rattle.map_tables.specs.Text.{is_digit}

-- a byte is a capital letter
abbrev pub is_capital : ℕ → Bool
is_capital byte = nat_le 65 byte && nat_le byte 90

-- a byte is a capital letter or a digit
abbrev pub is_letter_or_digit : ℕ → Bool
is_letter_or_digit byte = is_capital byte || is_digit byte

-- a word, letters raised, that is a name
abbrev pub is_name : List ℕ → Bool
is_name [] = false
is_name (first ∷ rest) = is_capital first && (nat_le (length rest) 7 && list_all is_letter_or_digit rest)

-- letters that are cut to their length and filled up again are as they were. The law of a name's
-- view needs this, so it is here and not among the proofs.
pub padded_again : (letters : List ℕ) (count : ℕ) → count ≤ 8 → length letters ≡ 8
    → drop count letters ≡ replicate (8 - count) 0 →
    ◌≡◌ {A = List ℕ × ℕ} (
      take count letters ++ replicate (8 - length (take count letters)) 0,
      length
          (take count letters),
    ) (letters, count)
padded_again letters count short whole blank =
    let Padded : List ℕ → ℕ → List ℕ × ℕ = λ all number. (all, number) in
    let within : count ≤ length letters = subst (λ (size : ℕ). count ≤ size) (sym whole) short in
    ap (λ (size : ℕ). Padded (take count letters ++ replicate (8 - size) 0) size) (length-take-le count letters within)
    ∙ ap (λ (rest : List ℕ). Padded (take count letters ++ rest) count) (sym blank)
    ∙ ap (λ (all : List ℕ). Padded all count) (take-append-drop count letters)
