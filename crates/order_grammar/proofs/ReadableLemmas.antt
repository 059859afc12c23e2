-- The part of a line before its comment, and whether all of it is printable.
use Rattle.std.proofs.Common.{◌≡◌, ℕ, suc, ◌+◌, ◌<◌, ◌≤◌, ◌==◌, true, false, List, [], ◌∷◌, length, get_or}
use Rattle.std.proofs.Common.{take, refl, sym, ap, subst, ◌∙◌, inl, inr, arith}
use Rattle.std.proofs.Math.Seq.{take-length}
use Rattle.std.specs.List.{list_all, position_or_len}
use Rattle.std.proofs.lemmas.Bool.{cases_Bool, eqb-true, eqb-false}
use Rattle.order_grammar.specs.Readable.{is_end}
use Rattle.order_grammar.specs.Words.{before, is_printable}

-- one more byte before the end
one_more : (bytes : List ℕ) → 1 + position_or_len is_end bytes ≡ suc (position_or_len is_end bytes)
one_more bytes = omega arith

-- a line that goes on up to its comment, or without one, is printable before that
pub record IsPart (line : List ℕ) : Type 0 where
  pub printable : list_all is_printable (before 35 line) ≡ true
  pub part : take (position_or_len is_end line) line ≡ before 35 line

-- a byte that is read comes first
before_part : (byte : ℕ) (bytes : List ℕ) → (byte == 35) ≡ false → is_printable byte ≡ true → IsPart bytes
    → IsPart (byte ∷ bytes)
before_part byte bytes other printable rest = record {
  printable = rw (other, printable) rest.printable;
  part =
      rw (other, printable, one_more bytes) (ap (λ (t : List ℕ). byte ∷ t) rest.part);
}

-- it has no such byte
pub whole : (line : List ℕ) → length line ≤ position_or_len is_end line → IsPart line
whole [] le = record { printable = refl; part = refl }
whole (byte ∷ bytes) le =
    elim (cases_Bool (byte == 35)) [
      | inl hash ↦ let none = rw hash at le in absurd (omega arith)
      | inr other ↦ elim (cases_Bool (is_printable byte)) [
        | inl printable ↦
            let more = rw (other, printable) at le in before_part byte bytes other printable (whole bytes (omega arith))
        | inr stray ↦ let none = rw (other, stray) at le in absurd (omega arith)
      ]
    ]

-- or that byte begins its comment
pub up_to_comment : (line : List ℕ) → get_or line (position_or_len is_end line) 0 ≡ 35 → IsPart line
up_to_comment [] is = absurd (omega arith)
up_to_comment (byte ∷ bytes) is =
    elim (cases_Bool (byte == 35)) [
      | inl hash ↦ record { printable = rw hash refl; part = rw hash refl }
      | inr other ↦ elim (cases_Bool (is_printable byte)) [
        | inl printable ↦
            let later = rw (other, printable, one_more bytes) at is in
            before_part byte bytes other printable (up_to_comment bytes later)
        | inr stray ↦ let wrong : byte ≡ 35 = rw (other, stray) at is in absurd (eqb-false byte 35 other wrong)
      ]
    ]

-- otherwise it is not printable before its comment
pub stray_byte : (line : List ℕ) → position_or_len is_end line < length line
    → (get_or line (position_or_len is_end line) 0 ≡ 35 → ⊥) → list_all is_printable (before 35 line) ≡ false
stray_byte [] lt differs = absurd (omega arith)
stray_byte (byte ∷ bytes) lt differs =
    elim (cases_Bool (byte == 35)) [
      | inl hash ↦ let none = rw hash at differs in absurd (none (eqb-true byte 35 hash))
      | inr other ↦ elim (cases_Bool (is_printable byte)) [
        | inl printable ↦
            let far = rw (other, printable) at lt in
            let later = rw (other, printable, one_more bytes) at differs in
            rw (other, printable) (stray_byte bytes (omega arith) later)
        | inr stray ↦ rw (other, stray) refl
      ]
    ]

-- the same where that byte was found
module _ (line : List ℕ) (end : ℕ) (found : end ≡ position_or_len is_end line) where
  pub to_end : end ≡ length line → IsPart line
  to_end e = whole line (omega arith)

  pub to_comment : get_or line end 0 ≡ 35 → IsPart line
  to_comment is = up_to_comment line (subst (λ n. get_or line n 0 ≡ 35) found is)

  pub part_before : IsPart line → take end line ≡ before 35 line
  part_before is = ap (λ n. take n line) found ∙ is.part

  pub all_before : IsPart line → end ≡ length line → line ≡ before 35 line
  all_before is e = sym (take-length line) ∙ ap (λ n. take n line) (sym e) ∙ part_before is

  pub to_stray : end ≤ length line → (end ≡ length line → ⊥) → (get_or line end 0 ≡ 35 → ⊥)
      → list_all is_printable (before 35 line) ≡ false
  to_stray le more differs =
      let lt : position_or_len is_end line < length line = omega arith in
      stray_byte line lt (λ is. differs (subst (λ n. get_or line n 0 ≡ 35) (sym found) is))
