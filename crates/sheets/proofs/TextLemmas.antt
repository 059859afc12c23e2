-- Where a text may be cut between two of its lines.
use Rattle.std.proofs.Common.{◌≡◌, ℕ, ◌+◌, ◌-◌, ◌<◌, List, [], ◌∷◌, ◌++◌, true, false, cond, length, get_or, take, drop}
use Rattle.std.proofs.Common.{refl, sym, ◌∙◌, ap, zero, suc, add-one, get_or-take, append_assoc, arith, eqb, subst}
use Rattle.std.specs.Prelude.{not}
use Rattle.std.proofs.lemmas.List.Elements.{filter-append}
use Rattle.std.proofs.lemmas.List.{append-nil, length-append, take-append-drop, length-drop}
use Rattle.std.proofs.lemmas.Bool.{ne_eqb}
use Rattle.std.proofs.Math.Seq.{take-suc, take-append_seam, take-length}
use Rattle.std.proofs.lemmas.Grind.{common_steps}
use Rattle.sheets.specs.Text.{without_return, last_line, lines_from, lines_of, rest_of, is_blank, written}
use Rattle.sheets.specs.Text.{written_lines, IsCut, BeginsWith}

-- what follows an LF is read apart from what is before it
closed : (line prefix more : List ℕ) → lines_from line ((prefix ++ 10 ∷ []) ++ more)
    ≡ lines_from line (prefix ++ 10 ∷ []) ++ lines_from [] more
closed line [] more = refl
closed line (byte ∷ prefix) more =
    elim (eqb byte 10) as (λ b. cond b (without_return line ∷ lines_from [] ((prefix ++ 10 ∷ []) ++ more))
    (lines_from (line ++ byte ∷ []) ((prefix ++ 10 ∷ []) ++ more))
    ≡ cond b (without_return line ∷ lines_from [] (prefix ++ 10 ∷ []))
    (lines_from (line ++ byte ∷ []) (prefix ++ 10 ∷ [])) ++ lines_from [] more) [
      | true ↦ ap (λ ls. without_return line ∷ ls) (closed [] prefix more)
      | false ↦ closed (line ++ byte ∷ []) prefix more
    ]

-- a text may be cut after an LF
cut_after_newline : (prefix rest : List ℕ) → IsCut (prefix ++ 10 ∷ []) rest
unfolding written_lines
cut_after_newline prefix rest = record {
  joins = λ more left e. ap written (closed [] prefix more)
      ∙ filter-append _ (lines_from [] (prefix ++ 10 ∷ [])) (lines_from [] more);
}

-- nothing has only nothing as its prefix
nothing_before : (more left : List ℕ) → more ++ left ≡ [] → more ≡ []
nothing_before [] left e = refl
nothing_before (byte ∷ more) left e = cc

-- a text may be cut at its end
cut_at_end : (prefix : List ℕ) → IsCut prefix []
unfolding written_lines
cut_at_end prefix = record {
  joins = λ more left e. let none : more ≡ [] = nothing_before more left e in rw
      (none, append-nil prefix, append-nil (written (lines_of prefix))) refl;
}

-- a text may be cut at its beginning
pub cut_at_start : (rest : List ℕ) → IsCut [] rest
unfolding written_lines
cut_at_start rest = record { joins = λ more left e. refl }

-- a cut after a cut
pub cut_again : (prefix next rest : List ℕ) → IsCut prefix (next ++ rest) → IsCut next rest
    → IsCut (prefix ++ next) rest
cut_again prefix next rest a b = record {
  joins = λ more left e.
      let whole : (next ++ more) ++ left ≡ next ++ rest = append_assoc next more left ∙ ap (λ t. next ++ t) e in
      let nothing : next ++ [] ≡ next = append-nil next in
      let only : written_lines (prefix ++ next) ≡ written_lines prefix ++ written_lines next = a.joins next rest refl in
      let far : written_lines (prefix ++ (next ++ more)) ≡ written_lines prefix ++ written_lines (next ++ more) =
      a.joins (next ++ more) left whole in
      let near : written_lines (next ++ more) ≡ written_lines next ++ written_lines more = b.joins more left e in
      ap written_lines (append_assoc prefix next more) ∙ far ∙ ap (λ ls. written_lines prefix ++ ls) near
      ∙ sym (append_assoc (written_lines prefix) (written_lines next) (written_lines more))
      ∙ ap (λ ls. ls ++ written_lines more) (sym only);
}

-- the bytes before an LF are a line
one_line : (line prefix : List ℕ) → ((k : ℕ) → k < length prefix → get_or prefix k 0 ≡ 10 → ⊥) →
    lines_from line (prefix ++ 10 ∷ []) ≡ without_return (line ++ prefix) ∷ []
one_line line [] none = rw (append-nil line) refl
one_line line (byte ∷ prefix) none =
    let other : eqb byte 10 ≡ false = ne_eqb byte 10 (none 0 (omega arith)) in
    rw other (one_line (line ++ byte ∷ []) prefix (λ k h. none (suc k) (omega arith))
    ∙ ap (λ l. without_return l ∷ []) (append_assoc line (byte ∷ []) prefix))

-- bytes with no LF are a last line
last_of : (line text : List ℕ) → ((k : ℕ) → k < length text → get_or text k 0 ≡ 10 → ⊥)
    → lines_from line text ≡ last_line (line ++ text)
last_of line [] none = rw (append-nil line) refl
last_of line (byte ∷ text) none =
    let other : eqb byte 10 ≡ false = ne_eqb byte 10 (none 0 (omega arith)) in
    rw other (last_of (line ++ byte ∷ []) text (λ k h. none (suc k) (omega arith))
    ∙ ap last_line (append_assoc line (byte ∷ []) text))

-- a CR at the end of a line that ended in LF goes
pub without_return-last : (prefix : List ℕ) (last : ℕ)
    → without_return (prefix ++ last ∷ []) ≡ cond (eqb last 13) prefix (prefix ++ last ∷ [])
without_return-last [] last = refl
without_return-last (a ∷ []) last = elim (eqb last 13) as
    (λ b. a ∷ cond b [] (last ∷ []) ≡ cond b (a ∷ []) (a ∷ last ∷ [])) [ true ↦ refl | false ↦ refl ]
without_return-last (a ∷ b ∷ prefix) last =
    ap (λ l. a ∷ l) (without_return-last (b ∷ prefix) last)
    ∙ elim (eqb last 13) as (λ t. a ∷ cond t (b ∷ prefix) (b ∷ (prefix ++ last ∷ []))
    ≡ cond t (a ∷ b ∷ prefix) (a ∷ b ∷ (prefix ++ last ∷ [])))
    [ true ↦ refl | false ↦ refl ]

-- a text with an LF begins with the line before it
pub begins_with_line : (text : List ℕ) (end : ℕ) → end < length text → get_or text end 0 ≡ 10
    → ((k : ℕ) → k < end → get_or text k 0 ≡ 10 → ⊥) →
    BeginsWith (take (end + 1) text) (written (without_return (take end text) ∷ [])) (drop (end + 1) text) text
unfolding written_lines
begins_with_line text end within here none =
    let prefix : take (end + 1) text ≡ take end text ++ 10 ∷ [] = rw (add-one, take-suc text end 0 within, here) refl in
    let short : length (take end text) ≡ end = grind (arith, common_steps) in
    let clear : (k : ℕ) → k < length (take end text) → get_or (take end text) k 0 ≡ 10 → ⊥ =
    λ k h e. none k (omega arith) (sym (get_or-take end text k 0 (omega arith)) ∙ e) in
    record {
      whole = sym (take-append-drop (end + 1) text);
      first = ap (λ t. written (lines_from [] t)) prefix ∙ ap written (one_line [] (take end text) clear);
      cut = subst (λ t. IsCut t (drop (end + 1) text)) (sym prefix)
          (cut_after_newline (take end text) (drop (end + 1) text));
    }

-- a text with no LF is its last line
pub begins_with_last : (text : List ℕ) → 0 < length text → ((k : ℕ) → k < length text → get_or text k 0 ≡ 10 → ⊥) →
    BeginsWith text (written (text ∷ [])) [] text
unfolding written_lines
begins_with_last [] some none = absurd (omega arith)
begins_with_last (byte ∷ text) some none = record {
  whole = sym (append-nil (byte ∷ text));
  first = ap written (last_of [] (byte ∷ text) none);
  cut = cut_at_end (byte ∷ text);
}

-- a text begins with nothing
pub begins_with_nothing : (text : List ℕ) → BeginsWith [] [] text text
unfolding written_lines
begins_with_nothing text = record { whole = refl; first = refl; cut = cut_at_start text }

-- what is after a prefix comes after its lines
pub one_after_another : (prefix next : List ℕ) (lines more : List (List ℕ)) (middle rest text : List ℕ)
    → BeginsWith prefix lines middle text →
    BeginsWith next more rest middle → BeginsWith (prefix ++ next) (lines ++ more) rest text
one_after_another prefix next lines more middle rest text a b =
    let both : text ≡ prefix ++ (next ++ rest) = a.whole ∙ ap (λ t. prefix ++ t) b.whole in
    let cut : IsCut prefix (next ++ rest) = subst (λ t. IsCut prefix t) b.whole a.cut in
    record {
      whole = both ∙ sym (append_assoc prefix next rest);
      first = cut.joins next rest refl ∙ ap (λ ls. ls ++ written_lines next) a.first ∙ ap (λ ls. lines ++ ls) b.first;
      cut = cut_again prefix next rest cut b.cut;
    }

-- the lines of a text that was cut
pub lines_of_both : (prefix : List ℕ) (lines : List (List ℕ)) (rest text : List ℕ) → BeginsWith prefix lines rest text →
    written_lines text ≡ lines ++ written_lines rest
lines_of_both prefix lines rest text a =
    let cut : written_lines (prefix ++ rest) ≡ written_lines prefix ++ written_lines rest =
    a.cut.joins rest [] (append-nil rest) in
    ap written_lines a.whole ∙ cut ∙ ap (λ ls. ls ++ written_lines rest) a.first

-- the prefix of a text, by what is left of it
pub prefix_by_rest : (prefix : List ℕ) (lines : List (List ℕ)) (rest text : List ℕ)
    → BeginsWith prefix lines rest text → take (length text - length rest) text ≡ prefix
prefix_by_rest prefix lines rest text a =
    rw (a.whole, length-append prefix rest)
    (let n : (length prefix + length rest) - length rest ≡ length prefix =
    omega arith in rw (n, take-append_seam prefix rest) refl)

-- what is left after a place, up to the end
pub behind : (text : List ℕ) (n : ℕ) → take (length text - n) (drop n text) ≡ drop n text
behind text n = rw (← length-drop n text) (take-length (drop n text))

-- a prefix without written lines, and then a blank line
pub after_blank : (prefix next line middle rest text : List ℕ) → is_blank line ≡ true
    → BeginsWith prefix [] middle text → BeginsWith next (written (line ∷ [])) rest middle
    → BeginsWith (prefix ++ next) [] rest text
after_blank prefix next line middle rest text blank a b =
    one_after_another prefix next [] [] middle rest text a
    (subst (λ t. BeginsWith next (cond (not t) (line ∷ []) []) rest middle) blank b)

-- a prefix without written lines, and then a line that counts
pub before_line : (prefix next line middle rest text : List ℕ) → is_blank line ≡ false
    → BeginsWith prefix [] middle text →
    BeginsWith next (written (line ∷ [])) rest middle → BeginsWith (prefix ++ next) (line ∷ []) rest text
before_line prefix next line middle rest text blank a b =
    one_after_another prefix next [] (line ∷ []) middle rest text a
    (subst (λ t. BeginsWith next (cond (not t) (line ∷ []) []) rest middle) blank b)

-- a text with an LF is the line before it, and then the lines after it
lines_by_newline : (line text : List ℕ) (end : ℕ) → end < length text → get_or text end 0 ≡ 10
    → ((k : ℕ) → k < end → get_or text k 0 ≡ 10 → ⊥) →
    lines_from line text ≡ without_return (line ++ take end text) ∷ lines_from [] (drop (suc end) text)
lines_by_newline line [] end within here none = absurd (omega arith)
lines_by_newline line (byte ∷ text) zero within here none = rw (here, append-nil line) refl
lines_by_newline line (byte ∷ text) (suc end) within here none =
    let other : eqb byte 10 ≡ false = ne_eqb byte 10 (none 0 (omega arith)) in
    rw other (lines_by_newline (line ++ byte ∷ []) text end (omega arith) here (λ k h. none (suc k) (omega arith))
    ∙ ap (λ l. without_return l ∷ lines_from [] (drop (suc end) text))
    (append_assoc line (byte ∷ []) (take end text)))

pub lines_at_newline : (text : List ℕ) (end : ℕ) → end < length text → get_or text end 0 ≡ 10
    → ((k : ℕ) → k < end → get_or text k 0 ≡ 10 → ⊥) →
    lines_of text ≡ without_return (take end text) ∷ lines_of (drop (end + 1) text)
lines_at_newline text end within here none = rw (add-one) (lines_by_newline [] text end within here none)

-- what is after the first LF is the rest
rest_by_newline : (text : List ℕ) (end : ℕ) → end < length text → get_or text end 0 ≡ 10
    → ((k : ℕ) → k < end → get_or text k 0 ≡ 10 → ⊥) →
    drop (suc end) text ≡ rest_of text
rest_by_newline [] end within here none = absurd (omega arith)
rest_by_newline (byte ∷ text) zero within here none = rw here refl
rest_by_newline (byte ∷ text) (suc end) within here none =
    let other : eqb byte 10 ≡ false = ne_eqb byte 10 (none 0 (omega arith)) in
    rw other (rest_by_newline text end (omega arith) here (λ k h. none (suc k) (omega arith)))

pub rest_at_newline : (text : List ℕ) (end : ℕ) → end < length text → get_or text end 0 ≡ 10
    → ((k : ℕ) → k < end → get_or text k 0 ≡ 10 → ⊥) →
    drop (end + 1) text ≡ rest_of text
rest_at_newline text end within here none = rw (add-one) (rest_by_newline text end within here none)

-- without an LF there is one line, and nothing after it
pub lines_without_newline : (text : List ℕ) → 0 < length text → ((k : ℕ) → k < length text → get_or text k 0 ≡ 10 → ⊥) →
    lines_of text ≡ text ∷ []
lines_without_newline [] some none = absurd (omega arith)
lines_without_newline (byte ∷ text) some none = last_of [] (byte ∷ text) none

pub rest_without_newline : (text : List ℕ) → ((k : ℕ) → k < length text → get_or text k 0 ≡ 10 → ⊥) → [] ≡ rest_of text
rest_without_newline [] none = refl
rest_without_newline (byte ∷ text) none =
    let other : eqb byte 10 ≡ false = ne_eqb byte 10 (none 0 (omega arith)) in
    rw other (rest_without_newline text (λ k h. none (suc k) (omega arith)))
