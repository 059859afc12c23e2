-- A line's words at their places, and what they are read as.
use Rattle.std.proofs.Common.{◌≡◌, ℕ, true, false, nat_lt, inl, inr, List, [], Result, Ok, Err, length, sym, ap, subst}
use Rattle.std.proofs.Common.{refl, ◌∙◌}
use Rattle.std.specs.List.{list_all}
use Rattle.std.proofs.lemmas.Bool.{cases_Bool}
use Rattle.order_grammar.specs.Form.{Row, words_reading}
use Rattle.order_grammar.specs.Limits.{line_most}
use Rattle.order_grammar.specs.Line.{reading_by, words_within}
use Rattle.order_grammar.specs.Version.{reading_in, words_reading_in}
use Rattle.order_grammar.specs.Words.{Placed, LieFrom, AreWordsOf, before_comment, is_printable, placed_from, texts_of}
use Rattle.order_grammar.specs.declared.condition.Version.{Version}
use Rattle.order_grammar.specs.declared.fault.Fault.{Fault}
use Rattle.order_grammar.specs.declared.fault.Fault.TheVariants.{TooLong, StrayByte}
use Rattle.order_grammar.proofs.WordLemmas.{texts_of-line, words_lie}

-- its words are those at their places
line_words : (line : List ℕ) (words : List Placed) → words ≡ placed_from 0 [] (before_comment line) →
    AreWordsOf line words
line_words line words is =
    record {
      texts = texts_of-line line words is;
      places =
          subst (LieFrom 0 (before_comment line)) (sym is) (words_lie (before_comment line));
    }

-- what is known of the words of a line that is not too long and has no stray byte
record IsWithin (most : ℕ) (line : List ℕ) (words : List Placed) : Type 0 where
  short : nat_lt most (length line) ≡ false
  printable : list_all is_printable (before_comment line) ≡ true
  are : words ≡ placed_from 0 [] (before_comment line)

within : (most : ℕ) (line : List ℕ) (words : List Placed) → Ok words ≡ words_within most line → IsWithin most line words
within most line words e =
    elim (cases_Bool (nat_lt most (length line))) [
      | inl long ↦ let wrong : ◌≡◌ {A = Result (List Placed) Fault} (Ok words) (Err TooLong) = rw long at e in absurd cc
      | inr short ↦
          let rest = rw short at e in
          elim (cases_Bool (list_all is_printable (before_comment line))) [
            | inl printable ↦
                let same : ◌≡◌ {A = Result (List Placed) Fault} (Ok words)
                (Ok (placed_from 0 [] (before_comment line))) = rw printable at rest in
                record { short = short; printable = printable; are = cc }
            | inr stray ↦ let wrong : ◌≡◌ {A = Result (List Placed) Fault} (Ok words) (Err StrayByte) =
                rw stray at rest in absurd cc
          ]
    ]

-- they are those at their places
pub within_words : (most : ℕ) (line : List ℕ) (words : List Placed) → Ok words ≡ words_within most line →
    AreWordsOf line words
within_words most line words e = line_words line words (within most line words e).are

-- and what they are read as the line is
pub within_reading : (most : ℕ) (rows : List Row) (line : List ℕ) (words : List Placed) →
    Ok words ≡ words_within most line →
    words_reading rows (texts_of words) ≡ reading_by most rows line
within_reading most rows line words e =
    let is = within most line words e in
    ap (words_reading rows) (texts_of-line line words is.are) ∙ rw (is.short, is.printable) refl

-- in any version
pub within_version : (version : Version) (line : List ℕ) (words : List Placed)
    → Ok words ≡ words_within line_most line →
    words_reading_in version (texts_of words) ≡ reading_in version line
within_version version line words e =
    let is = within line_most line words e in
    ap (words_reading_in version) (texts_of-line line words is.are) ∙ rw (is.short, is.printable) refl
