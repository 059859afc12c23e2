-- The first line of a text with its end, and what stands for it in version 2.
use Rattle.std.proofs.Common.{◌≡◌, ℕ, ◌<◌, ◌⊎◌, inl, inr, Bool, true, false, cond, List, [], ◌∷◌, ◌++◌, length, refl}
use Rattle.std.proofs.Common.{sym, ap, ◌∙◌, append_assoc, arith, eqb, map}
use Rattle.std.proofs.lemmas.Bool.{cases_Bool, eqb-true}
use Rattle.std.proofs.lemmas.List.{length-append}
use Rattle.sheets.specs.Text.{is_blank, lines_from, lines_of, rest_of, without_return}
use Rattle.umpire.specs.Migrated.{body_in_two, ended_in_two, ended_lines, ended_lines_from, file_in_two, header_of_two}
use Rattle.umpire.specs.Migrated.{is_if_line, line_in_two, lines_in_two, return_of, text_of_ended}

-- the bytes before an LF are the line and the CR after it
one_byte : (byte : ℕ) (is : Bool) → eqb byte 13 ≡ is → cond is [] (byte ∷ []) ++ cond is (13 ∷ []) [] ≡ byte ∷ []
one_byte byte true e = rw (eqb-true byte 13 e) refl
one_byte byte false e = refl

pub both_parts : (bytes : List ℕ) → without_return bytes ++ return_of bytes ≡ bytes
both_parts [] = refl
both_parts (byte ∷ []) = one_byte byte (eqb byte 13) refl
both_parts (byte ∷ next ∷ bytes) = ap (λ l. byte ∷ l) (both_parts (next ∷ bytes))

-- that CR is there or it does not
abbrev pub IsReturn : List ℕ → Type 0
IsReturn bytes = (bytes ≡ []) ⊎ (bytes ≡ 13 ∷ [])

pub return_is : (bytes : List ℕ) → IsReturn (return_of bytes)
return_is [] = inl refl
return_is (byte ∷ []) = elim (eqb byte 13) as (λ b. IsReturn (cond b (13 ∷ []) []))
    [ true ↦ inr refl | false ↦ inl refl ]
return_is (byte ∷ next ∷ bytes) = return_is (next ∷ bytes)

-- what ends a line: an LF, a CR and an LF, or nothing where nothing follows
abbrev pub IsEnd : List ℕ → List ℕ → Type 0
IsEnd end rest = (end ++ rest ≡ []) ⊎ ((end ≡ 10 ∷ []) ⊎ (end ≡ 13 ∷ 10 ∷ []))

newline_is_end : (returned rest : List ℕ) → IsReturn returned → IsEnd (returned ++ 10 ∷ []) rest
newline_is_end returned rest (inl none) = inr (inl (rw none refl))
newline_is_end returned rest (inr one) = inr (inr (rw one refl))

-- the first line of a text of whose first line some bytes have come
record FirstFrom (begun text : List ℕ) : Type 0 where
  line : List ℕ
  end : List ℕ
  ended : ended_lines_from begun text ≡ record { line = line; end = end } ∷ ended_lines_from [] (rest_of text)
  plain : lines_from begun text ≡ line ∷ lines_from [] (rest_of text)
  whole : begun ++ text ≡ line ++ (end ++ rest_of text)
  ends : IsEnd end (rest_of text)

at_newline : (begun : List ℕ) (byte : ℕ) (text : List ℕ) → eqb byte 10 ≡ true → FirstFrom begun (byte ∷ text)
at_newline begun byte text e =
    let prefix : List ℕ = without_return begun in
    let returned : List ℕ = return_of begun in
    let behind : returned ++ 10 ∷ text ≡ (returned ++ 10 ∷ []) ++ text = sym (append_assoc returned (10 ∷ []) text) in
    let all : begun ++ 10 ∷ text ≡ prefix ++ ((returned ++ 10 ∷ []) ++ text) =
    ap (λ l. l ++ 10 ∷ text) (sym (both_parts begun)) ∙ append_assoc prefix returned (10 ∷ text)
    ∙ ap (λ l. prefix ++ l) behind
    in
    record {
      line = prefix;
      end = returned ++ 10 ∷ [];
      ended = rw e refl;
      plain = rw e refl;
      whole = rw (e, eqb-true byte 10 e) all;
      ends = newline_is_end returned (rest_of (byte ∷ text)) (return_is begun);
    }

further : (begun : List ℕ) (byte : ℕ) (text : List ℕ) → eqb byte 10 ≡ false → FirstFrom (begun ++ byte ∷ []) text
    → FirstFrom begun (byte ∷ text)
further begun byte text e next =
    record {
      line = next.line;
      end = next.end;
      ended = rw e next.ended;
      plain = rw e next.plain;
      whole = rw e (sym (append_assoc begun (byte ∷ []) text) ∙ next.whole);
      ends = rw e next.ends;
    }

first_begun : (begun text : List ℕ) → 0 < length begun → FirstFrom begun text
first_begun [] [] some = absurd (omega arith)
first_begun (a ∷ begun) [] some = record {
  line = a ∷ begun;
  end = [];
  ended = refl;
  plain = refl;
  whole =
      refl;
  ends = inl refl;
}
first_begun begun (byte ∷ text) some =
    elim (cases_Bool (eqb byte 10)) as (λ _. FirstFrom begun (byte ∷ text)) [
      | inl e ↦ at_newline begun byte text e
      | inr e ↦ further begun byte text e (first_begun (begun ++ byte ∷ []) text
          (rw (length-append begun (byte ∷ [])) (omega arith)))
    ]

first_from : (byte : ℕ) (text : List ℕ) → FirstFrom [] (byte ∷ text)
first_from byte text =
    elim (cases_Bool (eqb byte 10)) as (λ _. FirstFrom [] (byte ∷ text)) [
      | inl e ↦ at_newline [] byte text e
      | inr e ↦ further [] byte text e (first_begun (byte ∷ []) text (omega arith))
    ]

-- the first line of a text, its end, and what follows that
pub record FirstEnded (text line rest : List ℕ) : Type 0 where
  pub end : List ℕ
  pub lines : ended_lines text ≡ record { line = line; end = end } ∷ ended_lines rest
  pub whole : text ≡ line ++ (end ++ rest)
  pub ends : IsEnd end rest

pub first_ended : (text line rest : List ℕ) → lines_of text ≡ line ∷ lines_of rest → rest ≡ rest_of text
    → FirstEnded text line rest
unfolding ended_lines
first_ended [] line rest e r = absurd (let wrong : ◌≡◌ {A = List (List ℕ)} [] (line ∷ lines_of rest) = e in cc)
first_ended (byte ∷ text) line rest e r =
    let first = first_from byte text in
    let both : first.line ∷ lines_of (rest_of (byte ∷ text)) ≡ line ∷ lines_of rest = sym first.plain ∙ e in
    let same : first.line ≡ line = cc in
    record {
      end = first.end;
      lines = rw (r, ← same) first.ended;
      whole = rw (r, ← same) first.whole;
      ends = rw r first.ends;
    }

-- nothing goes over to nothing
pub nothing_in_two : file_in_two [] ≡ []
unfolding file_in_two ended_lines
nothing_in_two = refl

pub no_body_in_two : body_in_two [] ≡ []
unfolding body_in_two ended_lines
no_body_in_two = refl

-- a text after the header line migrates line by line
pub body_by_line : (text line rest : List ℕ) (first : FirstEnded text line rest)
    → body_in_two text ≡ line_in_two line ++ (first.end ++ body_in_two rest)
unfolding body_in_two
body_by_line text line rest first =
    ap (λ lines. text_of_ended (map ended_in_two lines)) first.lines
    ∙ append_assoc (line_in_two line) first.end (text_of_ended (map ended_in_two (ended_lines rest)))

pub line_stays : (line : List ℕ) → is_if_line line ≡ false → line_in_two line ≡ line
unfolding line_in_two
line_stays line e = rw e refl

pub line_goes : (line : List ℕ) → is_if_line line ≡ true → line_in_two line ≡ 88 ∷ []
unfolding line_in_two
line_goes line e = rw e refl

-- no line at all stays so
empty_line_in_two : line_in_two [] ≡ []
unfolding line_in_two is_if_line
empty_line_in_two = refl

-- what is left after the words of a line migrates as it stands
pub body_behind : (end rest : List ℕ) → IsEnd end rest → body_in_two (end ++ rest) ≡ end ++ body_in_two rest
unfolding body_in_two ended_lines
body_behind [] [] (inl none) = refl
body_behind [] (byte ∷ rest) (inl none) = cc
body_behind (byte ∷ end) rest (inl none) = cc
body_behind end rest (inr (inl is)) = rw (is, empty_line_in_two) refl
body_behind end rest (inr (inr is)) = rw (is, empty_line_in_two) refl

-- a blank line before the header stays
pub file_by_blank : (text line rest : List ℕ) (first : FirstEnded text line rest) → is_blank line ≡ true
    → file_in_two text ≡ line ++ (first.end ++ file_in_two rest)
unfolding file_in_two
file_by_blank text line rest first blank =
    ap (λ lines. text_of_ended (lines_in_two lines)) first.lines
    ∙ rw blank (append_assoc line first.end (text_of_ended (lines_in_two (ended_lines rest))))

header_text : (end rest : List ℕ) → text_of_ended
    (record { line = header_of_two; end = end } ∷ map ended_in_two (ended_lines rest))
    ≡ header_of_two ++ (end ++ body_in_two rest)
unfolding body_in_two
header_text end rest = append_assoc header_of_two end (text_of_ended (map ended_in_two (ended_lines rest)))

-- the first that is not blank becomes the header
pub file_by_header : (text line rest : List ℕ) (first : FirstEnded text line rest) → is_blank line ≡ false
    → file_in_two text ≡ header_of_two ++ body_in_two (first.end ++ rest)
unfolding file_in_two
file_by_header text line rest first blank =
    rw (body_behind first.end rest first.ends)
    (ap (λ lines. text_of_ended (lines_in_two lines)) first.lines ∙ rw blank (header_text first.end rest))
