-- The lines of a file that has gone over to version 2.
use Rattle.std.proofs.Common.{◌≡◌, ℕ, ◌<◌, ◌⊎◌, inl, inr, true, false, cond, List, [], ◌∷◌, ◌++◌, length, refl, sym, ap}
use Rattle.std.proofs.Common.{◌∙◌, append_assoc, arith, eqb, map}
use Rattle.std.specs.Prelude.{codes}
use Rattle.std.specs.List.{AllByRecursion}
use Rattle.std.proofs.lemmas.Bool.{cases_Bool}
use Rattle.std.proofs.lemmas.List.{append-nil}
use Rattle.sheets.specs.Text.{is_blank, last_line, lines_from, lines_of, without_return}
use Rattle.umpire.specs.Migrated.{EndedLine, ended_by_newline, ended_in_two, ended_lines, ended_lines_from, file_in_two}
use Rattle.umpire.specs.Migrated.{header_of_two, is_if_line, line_in_two, lines_in_two, return_of, text_of_ended}
use Rattle.sheets.proofs.TextLemmas.{without_return-last}
use Rattle.umpire.proofs.EndedLines.{IsReturn, both_parts, return_is}

-- no byte is an LF
abbrev NoNewline : List ℕ → Type 0
NoNewline bytes = AllByRecursion (λ byte. eqb byte 10 ≡ false) bytes

clear_prefix : (bytes : List ℕ) → NoNewline bytes → NoNewline (without_return bytes)
clear_prefix [] none = tt
clear_prefix (byte ∷ []) none = elim (eqb byte 13) as (λ b. NoNewline (cond b [] (byte ∷ [])))
    [ true ↦ tt | false ↦ none ]
clear_prefix (byte ∷ next ∷ bytes) none = (none.0, clear_prefix (next ∷ bytes) none.1)

clear_more : (bytes : List ℕ) (byte : ℕ) → NoNewline bytes → eqb byte 10 ≡ false → NoNewline (bytes ++ byte ∷ [])
clear_more [] byte none e = (e, tt)
clear_more (first ∷ bytes) byte none e = (none.0, clear_more bytes byte none.1 e)

-- a line with its end is one that a text may have: with an LF it has no CR before that, without one
-- nothing follows
record IsEnded (ended : EndedLine) (lines : List EndedLine) : Type 0 where
  clear : NoNewline ended.line
  ends :
      ((ended.end ≡ 10 ∷ []) × (return_of ended.line ≡ []))
      ⊎ ((ended.end ≡ 13 ∷ 10 ∷ []) ⊎ ((ended.end ≡ []) × (lines ≡ []) × (0 < length ended.line)))

AreEnded : List EndedLine → Type 0
AreEnded [] = Unit {0}
AreEnded (ended ∷ lines) = IsEnded ended lines × AreEnded lines

-- without a CR at its end the line is all the bytes
all_is_line : (bytes : List ℕ) → return_of bytes ≡ [] → without_return bytes ≡ bytes
all_is_line bytes none = sym (append-nil (without_return bytes)) ∙ ap (λ l. without_return bytes ++ l) (sym none)
    ∙ both_parts bytes

newline_ends : (begun : List ℕ) (lines : List EndedLine) → NoNewline begun → IsReturn (return_of begun)
    → IsEnded (ended_by_newline begun) lines
newline_ends begun lines clear (inl none) =
    record { clear = clear_prefix begun clear; ends = inl (rw none refl, ap return_of (all_is_line begun none) ∙ none) }
newline_ends begun lines clear (inr one) = record { clear = clear_prefix begun clear; ends = inr (inl (rw one refl)) }

-- so are the lines of every text
are_ended : (begun text : List ℕ) → NoNewline begun → AreEnded (ended_lines_from begun text)
unfolding AreEnded
are_ended [] [] clear = tt
are_ended (a ∷ begun) [] clear = (record { clear = clear; ends = inr (inr (refl, refl, omega arith)) }, tt)
are_ended begun (byte ∷ text) clear =
    elim (cases_Bool (eqb byte 10)) as (λ _. AreEnded (ended_lines_from begun (byte ∷ text))) [
      | inl e ↦ rw e (newline_ends begun (ended_lines_from [] text) clear (return_is begun), are_ended [] text tt)
      | inr e ↦ rw e (are_ended (begun ++ byte ∷ []) text (clear_more begun byte clear e))
    ]

-- a line before an LF
cut_line : (begun line more : List ℕ) → NoNewline line
    → lines_from begun (line ++ 10 ∷ more) ≡ without_return (begun ++ line) ∷ lines_from [] more
cut_line begun [] more clear = ap (λ l. without_return l ∷ lines_from [] more) (sym (append-nil begun))
cut_line begun (byte ∷ line) more clear =
    rw clear.0 (cut_line (begun ++ byte ∷ []) line more clear.1
    ∙ ap (λ l. without_return l ∷ lines_from [] more) (append_assoc begun (byte ∷ []) line))

-- a last line
cut_last : (begun line : List ℕ) → NoNewline line → lines_from begun line ≡ last_line (begun ++ line)
cut_last begun [] clear = ap last_line (sym (append-nil begun))
cut_last begun (byte ∷ line) clear =
    rw clear.0 (cut_last (begun ++ byte ∷ []) line clear.1 ∙ ap last_line (append_assoc begun (byte ∷ []) line))

is_last : (line : List ℕ) → 0 < length line → last_line line ≡ line ∷ []
is_last [] some = absurd (omega arith)
is_last (byte ∷ line) some = refl

return_goes : (line : List ℕ) → without_return (line ++ 13 ∷ []) ≡ line
return_goes line = without_return-last line 13

-- the first of such lines is the first line of their text
first_of_text : (line end : List ℕ) (lines : List EndedLine) → NoNewline line
    → ((end ≡ 10 ∷ []) × (return_of line ≡ [])) ⊎ ((end ≡ 13 ∷ 10 ∷ [])
    ⊎ ((end ≡ []) × (lines ≡ []) × (0 < length line))) →
    lines_of ((line ++ end) ++ text_of_ended lines) ≡ line ∷ lines_of (text_of_ended lines)
first_of_text line end lines clear (inl (is, none)) =
    rw (is, append_assoc line (10 ∷ []) (text_of_ended lines))
    (cut_line [] line (text_of_ended lines) clear ∙ ap (λ l. l ∷ lines_of (text_of_ended lines))
    (all_is_line line none))
first_of_text line end lines clear (inr (inl is)) =
    let more : List ℕ = text_of_ended lines in
    let parted : (line ++ 13 ∷ 10 ∷ []) ++ more ≡ (line ++ 13 ∷ []) ++ 10 ∷ more =
    append_assoc line (13 ∷ 10 ∷ []) more ∙ sym (append_assoc line (13 ∷ []) (10 ∷ more)) in
    rw (is, parted)
    (cut_line [] (line ++ 13 ∷ []) more (clear_more line 13 clear refl)
    ∙ ap (λ l. l ∷ lines_of more) (return_goes line))
first_of_text line end lines clear (inr (inr (none, nothing, some))) =
    rw (none, nothing, append-nil line, append-nil line) (cut_last [] line clear ∙ is_last line some)

unfoldable pub plain : List EndedLine → List (List ℕ)
plain lines = map (λ (ended : EndedLine). ended.line) lines

lines_of_ended : (lines : List EndedLine) → AreEnded lines → lines_of (text_of_ended lines) ≡ plain lines
unfolding AreEnded plain
lines_of_ended [] are = refl
lines_of_ended (ended ∷ lines) are =
    first_of_text ended.line ended.end lines are.0.clear are.0.ends
    ∙ ap (λ ls. ended.line ∷ ls) (lines_of_ended lines are.1)

-- the lines of a text, without their ends
pub plain_lines : (begun text : List ℕ) → plain (ended_lines_from begun text) ≡ lines_from begun text
unfolding plain
plain_lines [] [] = refl
plain_lines (a ∷ begun) [] = refl
plain_lines begun (byte ∷ text) =
    elim (eqb byte 10) as (λ b. plain (cond b (ended_by_newline begun ∷ ended_lines_from [] text)
    (ended_lines_from (begun ++ byte ∷ []) text)) ≡ cond b (without_return begun ∷ lines_from [] text)
    (lines_from (begun ++ byte ∷ []) text)) [
      | true ↦ ap (λ ls. without_return begun ∷ ls) (plain_lines [] text)
      | false ↦ plain_lines (begun ++ byte ∷ []) text
    ]

-- a line that takes the place of another
in_place : (new : List ℕ) (ended : EndedLine) (lines others : List EndedLine) → NoNewline new → return_of new ≡ []
    → 0 < length new → IsEnded ended lines → (lines ≡ [] → others ≡ [])
    → IsEnded (record { line = new; end = ended.end }) others
in_place new ended lines others clear none some is last =
    record {
      clear = clear;
      ends = elim is.ends [
        | inl at ↦ inl (at.0, none)
        | inr (inl at) ↦ inr (inl at)
        | inr (inr at) ↦ inr (inr (at.0, last at.1, some))
      ];
    }

-- the same line before others
as_it_was : (ended : EndedLine) (lines others : List EndedLine) → IsEnded ended lines → (lines ≡ [] → others ≡ [])
    → IsEnded ended others
as_it_was ended lines others is last =
    record {
      clear = is.clear;
      ends = elim is.ends [
        | inl at ↦ inl at
        | inr (inl at) ↦ inr (inl at)
        | inr (inr at) ↦ inr (inr (at.0, last at.1, at.2))
      ];
    }

one_in_two : (ended : EndedLine) (lines others : List EndedLine) → IsEnded ended lines → (lines ≡ [] → others ≡ [])
    → IsEnded (ended_in_two ended) others
unfolding line_in_two
one_in_two ended lines others is last =
    elim (is_if_line ended.line) as (λ b. IsEnded (record { line = cond b (codes "X") ended.line; end = ended.end })
    others) [
      | true ↦ in_place (codes "X") ended lines others (refl, tt) refl (omega arith) is last
      | false ↦ as_it_was ended lines others is last
    ]

all_in_two : (lines : List EndedLine) → AreEnded lines → AreEnded (map ended_in_two lines)
unfolding AreEnded
all_in_two [] are = tt
all_in_two (ended ∷ lines) are = (
  one_in_two ended lines (map ended_in_two lines) are.0 (λ e. ap (λ ls. map ended_in_two ls) e),
  all_in_two lines
      are.1,
)

header_is_clear : NoNewline header_of_two
header_is_clear = (refl, (refl, (refl, (refl, (refl, (refl, (refl, (refl, (refl, (refl, (refl, tt)))))))))))

header_in_place : (ended : EndedLine) (lines others : List EndedLine) → IsEnded ended lines
    → (lines ≡ [] → others ≡ []) → IsEnded (record { line = header_of_two; end = ended.end }) others
header_in_place ended lines others is last = in_place header_of_two ended lines others header_is_clear refl
    (omega arith) is last

-- so are the lines of a file that has gone over
still_ended : (lines : List EndedLine) → AreEnded lines → AreEnded (lines_in_two lines)
unfolding AreEnded
still_ended [] are = tt
still_ended (ended ∷ lines) are =
    elim (is_blank ended.line) as (λ b. AreEnded (cond b (ended ∷ lines_in_two lines)
    (record { line = header_of_two; end = ended.end } ∷ map ended_in_two lines))) [
      | true ↦ (as_it_was ended lines (lines_in_two lines) are.0 (λ e. ap lines_in_two e), still_ended lines are.1)
      | false ↦ (
        header_in_place ended lines (map ended_in_two lines) are.0 (λ e. ap (λ ls. map ended_in_two ls) e),
        all_in_two lines are.1,
      )
    ]

-- what its lines are
unfoldable pub plain_in_two : List (List ℕ) → List (List ℕ)
plain_in_two [] = []
plain_in_two (line ∷ lines) = cond (is_blank line) (line ∷ plain_in_two lines) (header_of_two ∷ map line_in_two lines)

all_plain : (lines : List EndedLine) → plain (map ended_in_two lines) ≡ map line_in_two (plain lines)
unfolding plain
all_plain [] = refl
all_plain (ended ∷ lines) = ap (λ ls. line_in_two ended.line ∷ ls) (all_plain lines)

plain_goes : (lines : List EndedLine) → plain (lines_in_two lines) ≡ plain_in_two (plain lines)
unfolding plain plain_in_two
plain_goes [] = refl
plain_goes (ended ∷ lines) =
    elim (is_blank ended.line) as (λ b. plain (cond b (ended ∷ lines_in_two lines)
    (record { line = header_of_two; end = ended.end } ∷ map ended_in_two lines))
    ≡ cond b (ended.line ∷ plain_in_two (plain lines)) (header_of_two ∷ map line_in_two (plain lines))) [
      | true ↦ ap (λ ls. ended.line ∷ ls) (plain_goes lines)
      | false ↦ ap (λ ls. header_of_two ∷ ls) (all_plain lines)
    ]

pub lines_go : (file : List ℕ) → lines_of (file_in_two file) ≡ plain_in_two (lines_of file)
unfolding file_in_two ended_lines
lines_go file =
    let ended : List EndedLine = ended_lines_from [] file in
    lines_of_ended (lines_in_two ended) (still_ended ended (are_ended [] file tt)) ∙ plain_goes ended
    ∙ ap plain_in_two (plain_lines [] file)
