-- A text after a file and an LF, of whose lines the first alone divides, is found again.
use Rattle.std.proofs.Common.{◌≡◌, ℕ, ◌+◌, ◌-◌, ◌<◌, ◌≤◌, List, [], ◌∷◌, ◌++◌, true, false, cond, length, take, refl}
use Rattle.std.proofs.Common.{sym, ◌∙◌, zero, suc, append_assoc, arith, eqb, subst}
use Rattle.std.proofs.lemmas.List.{length-append}
use Rattle.std.proofs.Math.Seq.{take-append_seam}
use Rattle.std.specs.Prelude.{Bool, Some, None}
use Rattle.std.specs.List.{AllByRecursion}
use Rattle.sheets.specs.Text.{lines_from, lines_of, rest_of, without_return}
use Rattle.umpire.specs.Laws.{BeginsAlone, PartsWhatWasJoined}
use Rattle.umpire.specs.InputSplit.{certificates_of_input, from_divider, is_divider, order_file_of, without_newline}
use Rattle.umpire.proofs.PartingLemmas.{at_line, without_newline-last}

-- the lines of a text are a line, and those of what follows it
abbrev Cut : List (List ℕ) → List ℕ → Type 0
Cut lines rest = (line : List ℕ) × (lines ≡ line ∷ lines_of rest)

cut_begun : (line text : List ℕ) → 0 < length line → Cut (lines_from line text) (rest_of text)
cut_begun [] [] some = absurd (omega arith)
cut_begun (a ∷ line) [] some = (a ∷ line, refl)
cut_begun line (byte ∷ text) some =
    elim (eqb byte 10) as (λ b. Cut (cond b (without_return line ∷ lines_from [] text)
    (lines_from (line ++ byte ∷ []) text)) (cond b text (rest_of text))) [
      | true ↦ (without_return line, refl)
      | false ↦ cut_begun (line ++ byte ∷ []) text (rw (length-append line (byte ∷ [])) (omega arith))
    ]

cut_first : (byte : ℕ) (text : List ℕ) → Cut (lines_of (byte ∷ text)) (rest_of (byte ∷ text))
cut_first byte text =
    elim (eqb byte 10) as (λ b. Cut (cond b (without_return [] ∷ lines_from [] text) (lines_from (byte ∷ []) text))
    (cond b text (rest_of text))) [
      | true ↦ ([], refl)
      | false ↦ cut_begun (byte ∷ []) text (omega arith)
    ]

rest_within : (text : List ℕ) → length (rest_of text) ≤ length text
rest_within [] = omega arith
rest_within (byte ∷ text) =
    elim (eqb byte 10) as (λ b. length (cond b text (rest_of text)) ≤ length (byte ∷ text)) [
      | true ↦ omega arith
      | false ↦ omega (arith, rest_within text)
    ]

rest_shorter : (byte : ℕ) (text : List ℕ) → length (rest_of (byte ∷ text)) ≤ length text
rest_shorter byte text =
    elim (eqb byte 10) as (λ b. length (cond b text (rest_of text)) ≤ length text)
    [ true ↦ omega arith | false ↦ rest_within text ]

-- where no line divides, nothing is found
none_divides : (n : ℕ) (text : List ℕ) → length text ≤ n
    → AllByRecursion (λ line. is_divider line ≡ false) (lines_of text) → from_divider true text ≡ None
none_divides n [] within none = refl
none_divides zero (byte ∷ text) within none = absurd (omega arith)
none_divides (suc n) (byte ∷ text) within none =
    let cut = cut_first byte text in
    let all : AllByRecursion (λ line. is_divider line ≡ false) (cut.0 ∷ lines_of (rest_of (byte ∷ text))) =
    subst (AllByRecursion (λ line. is_divider line ≡ false)) cut.1 none in
    let behind : from_divider true (rest_of (byte ∷ text)) ≡ None =
    none_divides n (rest_of (byte ∷ text)) (omega (arith, rest_shorter byte text)) all.1 in
    at_line (byte ∷ text) cut.0 (lines_of (rest_of (byte ∷ text))) cut.1 ∙ rw (behind, all.0) refl

-- where the first line alone divides, the text is found
only_first : (text : List ℕ) → BeginsAlone text → from_divider true text ≡ Some text
only_first [] b = absurd (let wrong : ◌≡◌ {A = List (List ℕ)} [] (b.first ∷ b.others) = b.lines in cc)
only_first (byte ∷ text) b =
    let cut = cut_first byte text in
    let same : cut.0 ∷ lines_of (rest_of (byte ∷ text)) ≡ b.first ∷ b.others = sym cut.1 ∙ b.lines in
    let others : b.others ≡ lines_of (rest_of (byte ∷ text)) = cc in
    let none = none_divides _ (rest_of (byte ∷ text)) (rest_within (byte ∷ text))
    (subst (AllByRecursion (λ line. is_divider line ≡ false)) others b.alone) in
    at_line (byte ∷ text) b.first b.others b.lines ∙ rw (none, b.divides) refl

-- so it is after a file and an LF
found_behind : (begins : Bool) (file text found : List ℕ) → from_divider true text ≡ Some found
    → from_divider begins (file ++ 10 ∷ text) ≡ Some found
found_behind begins [] text found e = rw e refl
found_behind begins (byte ∷ file) text found e = rw (found_behind (eqb byte 10) file text found e) refl

prefix_of_file : (file text : List ℕ) → without_newline
    (take (length (file ++ 10 ∷ text) - length text) (file ++ 10 ∷ text)) ≡ file
prefix_of_file file text =
    let all : file ++ 10 ∷ text ≡ (file ++ 10 ∷ []) ++ text = sym (append_assoc file (10 ∷ []) text) in
    let seam : (length (file ++ 10 ∷ []) + length text) - length text ≡ length (file ++ 10 ∷ []) = omega arith in
    rw (
      all,
      length-append (file ++ 10 ∷ []) text,
      seam,
      take-append_seam (file ++ 10 ∷ []) text,
      without_newline-last
          file 10,
    ) refl

pub parted_again : PartsWhatWasJoined
unfolding order_file_of certificates_of_input
parted_again file text b =
    let found = found_behind true file text text (only_first text b) in
    record { order_file = rw found (prefix_of_file file text); certificates = rw found refl }
