-- A slip in a word: one letter more than in a code, one less, another letter, or two letters that
-- have changed places. Letters of either case are equal.
use Rattle.std.specs.Prelude.{ℕ, Bool, false, ◌&&◌, ◌||◌, if◌then◌else◌, List, [], ◌∷◌, Option, Some, None, nat_le, nat_lt}
use Rattle.std.specs.Prelude.{length, drop, map}
use Rattle.std.specs.Borrow.{Bor}
use Rattle.std.specs.Char.{eq_ignore_ascii_case}
use Rattle.std.specs.List.{list_any}
use Rattle.std.specs.Str.{str_eq_ignore_ascii_case}

-- the bytes of a word that is borrowed
abbrev pub text : Bor (List ℕ) → List ℕ
text word = word.now

-- the bytes of some
abbrev pub texts : List (Bor (List ℕ)) → List (List ℕ)
texts words = map text words

-- they differ at their first letter alone: it is one more, one less or another
abbrev pub differ_at_first : List ℕ → List ℕ → Bool
differ_at_first word code =
    str_eq_ignore_ascii_case (drop 1 word) (drop 1 code)
    || (str_eq_ignore_ascii_case (drop 1 word) code || str_eq_ignore_ascii_case word (drop 1 code))

-- their first two letters have changed places, and what follows is equal
abbrev pub are_turned : List ℕ → List ℕ → Bool
are_turned (first ∷ second ∷ word) (letter ∷ next ∷ code) =
    eq_ignore_ascii_case first next
    && (eq_ignore_ascii_case second letter && str_eq_ignore_ascii_case word code)
are_turned word code = false

-- the word becomes the code by one slip, which is behind the letters that they share in front
abbrev pub is_slip : List ℕ → List ℕ → Bool
is_slip [] [] = false
is_slip [] (letter ∷ code) = differ_at_first [] (letter ∷ code)
is_slip (byte ∷ word) [] = differ_at_first (byte ∷ word) []
is_slip (byte ∷ word) (letter ∷ code) =
    if eq_ignore_ascii_case byte letter
    then is_slip word code
    else differ_at_first (byte ∷ word) (letter ∷ code) || are_turned (byte ∷ word) (letter ∷ code)

-- the word has at most nine bytes, and becomes the code by one slip
abbrev pub is_near : List ℕ → List ℕ → Bool
is_near word code = nat_le (length word) 9 && is_slip word code

-- the word is one of these codes
abbrev pub is_code : List ℕ → List (List ℕ) → Bool
is_code word codes = list_any (λ code. str_eq_ignore_ascii_case word code) codes

-- the word becomes one of these codes by one slip
abbrev pub is_slip_in : List ℕ → List (List ℕ) → Bool
is_slip_in word codes = list_any (λ code. is_slip word code) codes

-- the only one of some codes that the word becomes by one slip
abbrev pub only_slip : List ℕ → List (List ℕ) → Option (List ℕ)
only_slip word [] = None
only_slip word (code ∷ codes) =
    if is_slip word code
    then (if is_slip_in word codes then None else Some code)
    else only_slip word codes

-- the code that is nearest to a word of at most nine bytes that is none itself: the only one that
-- it becomes by one slip
abbrev pub nearest_code : List ℕ → List (List ℕ) → Option (List ℕ)
nearest_code word codes = if nat_lt 9 (length word) || is_code word codes then None else only_slip word codes
