-- The lines of a sheet that are numbered, one after another.
use Rattle.std.proofs.Common.{◌≡◌, ℕ, ◌+◌, true, false, List, [], ◌∷◌, ◌++◌, map, refl, sym, ap, ◌∙◌, append_assoc}
use Rattle.std.proofs.lemmas.List.{append-nil, map-append}
use Rattle.desk_trials.specs.Numbered.{LineAt, ends_numbered, line_at, numbered_in}
use Rattle.desk_trials.specs.declared.check_lines.FileLine.{FileLine}
use Rattle.sheets.specs.Text.{is_blank}

-- where a sheet ends no line is left
ended : (count passed : ℕ) (text : List ℕ) (lines texts : List (List ℕ)) → lines ≡ text ∷ texts
    → ends_numbered count text ≡ true → numbered_in count passed lines ≡ []
unfolding numbered_in
ended count passed text lines texts next ends = rw (next, ends) refl

-- nor where the file ends
left : (count passed : ℕ) (lines : List (List ℕ)) → lines ≡ [] → numbered_in count passed lines ≡ []
unfolding numbered_in
left count passed lines none = rw none refl

-- a blank line has no number
skips : (count passed number : ℕ) (text : List ℕ) (lines texts : List (List ℕ)) → lines ≡ text ∷ texts
    → ends_numbered count text ≡ false → is_blank text ≡ true → number ≡ passed + 1
    → numbered_in count passed lines ≡ numbered_in count number texts
unfolding numbered_in
skips count passed number text lines texts next goes_on blank is = rw (next, goes_on, blank, is) refl

-- another one has
takes : (count passed number : ℕ) (text : List ℕ) (lines texts : List (List ℕ)) → lines ≡ text ∷ texts
    → ends_numbered count text ≡ false → is_blank text ≡ false → number ≡ passed + 1
    → numbered_in count passed lines
    ≡ record { line = number; text = text } ∷ numbered_in (count + 1) number texts
unfolding numbered_in
takes count passed number text lines texts next goes_on written is = rw (next, goes_on, written, is) refl

-- all lines came, where the sheet ends
pub all_at_end : (whole kept : List LineAt) (count passed : ℕ) (text : List ℕ) (lines texts : List (List ℕ))
    → kept ++ numbered_in count passed lines ≡ whole → lines ≡ text ∷ texts → ends_numbered count text ≡ true
    → kept ≡ whole
all_at_end whole kept count passed text lines texts before next ends =
    sym (append-nil kept) ∙ ap (λ (more : List LineAt). kept ++ more) (sym (ended count passed text lines texts next ends))
    ∙ before

-- or the file does
pub all_left : (whole kept : List LineAt) (count passed : ℕ) (lines : List (List ℕ))
    → kept ++ numbered_in count passed lines ≡ whole → lines ≡ [] → kept ≡ whole
all_left whole kept count passed lines before none =
    sym (append-nil kept) ∙ ap (λ (more : List LineAt). kept ++ more) (sym (left count passed lines none)) ∙ before

-- behind a blank line
pub behind_blank : (whole kept : List LineAt) (count passed number next_passed : ℕ) (text : List ℕ)
    (lines texts : List (List ℕ)) → kept ++ numbered_in count passed lines ≡ whole → lines ≡ text ∷ texts
    → ends_numbered count text ≡ false → is_blank text ≡ true → number ≡ passed + 1 → next_passed ≡ number
    → kept ++ numbered_in count next_passed texts ≡ whole
behind_blank whole kept count passed number next_passed text lines texts before next goes_on blank is same =
    ap (λ (n : ℕ). kept ++ numbered_in count n texts) same
    ∙ ap (λ (more : List LineAt). kept ++ more) (sym (skips count passed number text lines texts next goes_on blank is))
    ∙ before

-- behind another one, which is kept
pub behind_written : (whole : List LineAt) (old new : List FileLine) (line : FileLine)
    (count next_count passed next_passed : ℕ) (lines texts : List (List ℕ))
    → map line_at old ++ numbered_in count passed lines ≡ whole → lines ≡ line.text.now ∷ texts
    → ends_numbered count line.text.now ≡ false → is_blank line.text.now ≡ false → line.number ≡ passed + 1
    → next_passed ≡ line.number → new ≡ old ++ line ∷ [] → next_count ≡ count + 1
    → map line_at new ++ numbered_in next_count next_passed texts ≡ whole
behind_written whole old new line count next_count passed next_passed lines texts before next goes_on written is same
    pushed counted =
    let more = numbered_in (count + 1) line.number texts in
    ap (λ (n : ℕ). map line_at new ++ numbered_in next_count n texts) same
    ∙ ap (λ (all : List FileLine). map line_at all ++ numbered_in next_count line.number texts) pushed
    ∙ ap (λ (n : ℕ). map line_at (old ++ line ∷ []) ++ numbered_in n line.number texts) counted
    ∙ ap (λ (kept : List LineAt). kept ++ more) (map-append line_at old (line ∷ []))
    ∙ append_assoc (map line_at old) (line_at line ∷ []) more
    ∙ ap (λ (some : List LineAt). map line_at old ++ some)
    (sym (takes count passed line.number line.text.now lines texts next goes_on written is))
    ∙ before
