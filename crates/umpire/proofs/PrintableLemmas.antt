-- Which lines that begin with IF have no other fault in version 1.
use Rattle.std.proofs.Common.{◌≡◌, ℕ, true, false, inl, inr, List, codes, length, refl, ap}
use Rattle.std.specs.Prelude.{◌&&◌, nat_le, nat_lt}
use Rattle.std.specs.List.{list_all}
use Rattle.std.proofs.lemmas.Bool.{cases_Bool, le-leb, lt-leb, ltb-false, ltb-true}
use Rattle.order_grammar.specs.Limits.{line_most}
use Rattle.order_grammar.specs.Line.{reading_of}
use Rattle.order_grammar.specs.Words.{before_comment, first_of_words, is_printable, same_word, words_of}
use Rattle.umpire.specs.Gathered.{is_clean}
use Rattle.umpire.specs.Migrated.{is_if_line, is_unknown}
use Rattle.umpire.proofs.SheetsInTwo.{if_unknown}

-- G3 is the fault of an IF line where neither G1 nor G2 is
unknown_by : (line : List ℕ) → same_word (first_of_words (words_of line)) (codes "IF") ≡ true
    → is_unknown (reading_of line) ≡ is_clean line
unknown_by line first =
    elim (cases_Bool (nat_lt line_most (length line))) [
      | inl long ↦
          let over : nat_le (length line) line_most ≡ false =
          lt-leb (length line) line_most (ltb-true line_most (length line) long) in
          rw (long, over) refl
      | inr short ↦
          let within : nat_le (length line) line_most ≡ true =
          le-leb (length line) line_most (ltb-false line_most (length line) short) in
          elim (cases_Bool (list_all is_printable (before_comment line))) [
            | inl printable ↦ rw (short, within, printable) (ap is_unknown (if_unknown (words_of line) first))
            | inr stray ↦ rw (short, within, stray) refl
          ]
    ]

pub if_by_bytes : (line : List ℕ) → is_if_line line
    ≡ (same_word (first_of_words (words_of line)) (codes "IF") && is_clean line)
unfolding is_if_line
if_by_bytes line =
    elim (cases_Bool (same_word (first_of_words (words_of line)) (codes "IF"))) [
      | inl first ↦ rw (first, unknown_by line first) refl
      | inr other ↦ rw other refl
    ]
