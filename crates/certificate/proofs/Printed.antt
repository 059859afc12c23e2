-- What is printed is read again, and what was read is printed again.
use Rattle.std.proofs.Common.{◌≡◌, ℕ, ◌+◌, ◌*◌, ◌<◌, ◌≤◌, Bool, true, false, List, [], ◌∷◌, ◌++◌, refl, ap, ◌∙◌, arith}
use Rattle.std.specs.List.{AllByRecursion}
use Rattle.reach.specs.Position.{IsAmong}
use Rattle.reach.proofs.Lists.{among_at}
use Rattle.certificate.specs.Digits.{PrintsInLowerCase, PrintsWhatWasRead, ReadsWhatWasPrinted, bit_number}
use Rattle.certificate.specs.Digits.{bits_of_digit, bits_of_digits, digit_of, digits_of, lower_digits}
use Rattle.legal_runs.proofs.InTurn.{all_among}

-- a digit in lower case is printed again
abbrev IsPrinted : ℕ → Type 0
IsPrinted byte = (rest : List Bool) → digits_of (bits_of_digit byte ++ rest) ≡ byte ∷ digits_of rest

each_printed : AllByRecursion IsPrinted lower_digits
each_printed = (
  λ rest. refl,
  (
    λ rest. refl,
    (
      λ rest. refl,
      (
        λ rest. refl,
        (
          λ rest. refl,
          (
            λ rest. refl,
            (
              λ rest. refl,
              (
                λ rest. refl,
                (
                  λ rest. refl,
                  (
                    λ rest. refl,
                    (
                      λ rest. refl,
                      (λ rest. refl, (λ rest. refl, (λ rest. refl, (λ rest. refl, (λ rest. refl, tt))))),
                    ),
                  ),
                ),
              ),
            ),
          ),
        ),
      ),
    ),
  ),
)

pub prints_what_was_read : PrintsWhatWasRead
prints_what_was_read [] lower = refl
prints_what_was_read (byte ∷ text) lower =
    all_among IsPrinted lower_digits each_printed byte lower.0 (bits_of_digits text)
    ∙ ap (λ (t : List ℕ). byte ∷ t) (prints_what_was_read text lower.1)

bit_low : (bit : Bool) → bit_number bit ≤ 1
bit_low true = omega arith
bit_low false = omega arith

digit_lower : (a b c d : Bool) → IsAmong (digit_of a b c d) lower_digits
digit_lower a b c d =
    let low : 8 * bit_number a + 4 * bit_number b + 2 * bit_number c + bit_number d < 16 =
    omega (arith, bit_low a, bit_low b, bit_low c, bit_low d) in
    among_at lower_digits (8 * bit_number a + 4 * bit_number b + 2 * bit_number c + bit_number d) 0 low

pub prints_in_lower_case : PrintsInLowerCase
prints_in_lower_case [] = tt
prints_in_lower_case (a ∷ []) = (digit_lower a false false false, tt)
prints_in_lower_case (a ∷ b ∷ []) = (digit_lower a b false false, tt)
prints_in_lower_case (a ∷ b ∷ c ∷ []) = (digit_lower a b c false, tt)
prints_in_lower_case (a ∷ b ∷ c ∷ d ∷ bits) = (digit_lower a b c d, prints_in_lower_case bits)

-- the digit of four bits has them as its bits
read_back : (a b c d : Bool) → bits_of_digit (digit_of a b c d) ≡ a ∷ b ∷ c ∷ d ∷ []
read_back true true true true = refl
read_back true true true false = refl
read_back true true false true = refl
read_back true true false false = refl
read_back true false true true = refl
read_back true false true false = refl
read_back true false false true = refl
read_back true false false false = refl
read_back false true true true = refl
read_back false true true false = refl
read_back false true false true = refl
read_back false true false false = refl
read_back false false true true = refl
read_back false false true false = refl
read_back false false false true = refl
read_back false false false false = refl

digit_back : (a b c d : Bool) → bits_of_digits (digit_of a b c d ∷ []) ≡ a ∷ b ∷ c ∷ d ∷ []
digit_back a b c d = ap (λ (b : List Bool). b ++ []) (read_back a b c d)

pub reads_what_was_printed : ReadsWhatWasPrinted
reads_what_was_printed [] = ([], refl, (omega arith, tt))
reads_what_was_printed (a ∷ []) = (
  false ∷ false ∷ false
      ∷ [],
  digit_back a false false false,
  (omega arith, (refl, (refl, (refl, tt)))),
)
reads_what_was_printed (a ∷ b ∷ []) = (
  false ∷ false
      ∷ [],
  digit_back a b false false,
  (omega arith, (refl, (refl, tt))),
)
reads_what_was_printed (a ∷ b ∷ c ∷ []) = (false ∷ [], digit_back a b c false, (omega arith, (refl, tt)))
reads_what_was_printed (a ∷ b ∷ c ∷ d ∷ bits) =
    let rest = reads_what_was_printed bits in (
      rest.0,
      ap (λ (four : List Bool). four ++ bits_of_digits (digits_of bits)) (read_back a b c d)
          ∙ ap (λ (more : List Bool). a ∷ b ∷ c ∷ d ∷ more) rest.1,
      rest.2,
    )
