-- The forms of a kind of text are a part of the table. Words that begin with one of their first
-- words are by them what they are by all forms. Other words are unknown.
use Rattle.std.proofs.Common.{◌≡◌, ℕ, Bool, true, false, not, ltb, fold, inl, inr, ◌⊎◌, List, [], ◌∷◌, ◌++◌, Result}
use Rattle.std.proofs.Common.{Err, Contains, get_or, take, drop, refl, sym, ap, subst, ◌∙◌, arith}
use Rattle.std.specs.List.{list_all, list_any}
use Rattle.std.proofs.lemmas.Bool.{cases_Bool, false≢true, le-ltb, not-true, or_parts}
use Rattle.std.proofs.lemmas.List.Folds.{list_all_at, Any-from_list_any}
use Rattle.order_grammar.specs.Form.{Row, forms, order_forms, play_forms, cert_forms, nearness, nearer, row_reading}
use Rattle.order_grammar.specs.Form.{rows_reading, words_reading}
use Rattle.order_grammar.specs.Keyword.{text_of_keyword}
use Rattle.order_grammar.specs.Limits.{line_most}
use Rattle.order_grammar.specs.LineFault.{BeginWithOther}
use Rattle.order_grammar.specs.Spells.{BeginWithOneOf}
use Rattle.order_grammar.specs.Texts.{TextKind, order_file, play_words, certificate}
use Rattle.order_grammar.specs.Words.{same_word}
use Rattle.order_grammar.specs.declared.fault.Fault.{Fault}
use Rattle.order_grammar.specs.declared.fault.Fault.TheVariants.{UnknownWord}
use Rattle.order_grammar.specs.declared.order.Order.{Order}
use Rattle.order_grammar.proofs.FormLemmas.{with_row, all_reading}
use Rattle.order_grammar.proofs.KeywordLemmas.{same_word-is}
use Rattle.order_grammar.proofs.RowLemmas.{among_any, all_among}

-- whether some form begins with the word
abbrev pub begins_form : List ℕ → Row → Bool
begins_form first row = same_word first (text_of_keyword row.keyword)

-- the rows of a text: they are together in the table, no other row begins with one of its first
-- words, and these are what its rows begin with
pub record AreRowsOf (text : TextKind) (rows : List Row) : Type 0 where
  pub prefix : List Row
  pub back : List Row
  pub whole : forms ≡ prefix ++ (rows ++ back)
  pub not_prefix : list_all (λ (word : List ℕ). not (list_any (begins_form word) prefix)) text.first_words ≡ true
  pub not_back : list_all (λ (word : List ℕ). not (list_any (begins_form word) back)) text.first_words ≡ true
  pub listed : list_all (λ (row : Row). list_any (same_word (text_of_keyword row.keyword)) text.first_words) rows ≡ true
  pub begun : list_all (λ (word : List ℕ). list_any (begins_form word) rows) text.first_words ≡ true

-- those of an order file, and those of a certificate
pub rows_of_orders : AreRowsOf order_file order_forms
rows_of_orders = record {
  prefix = [];
  back = drop 31 forms;
  whole = refl;
  not_prefix = refl;
  not_back = refl;
  listed = refl;
  begun = refl;
}

pub rows_of_certificates : AreRowsOf certificate cert_forms
rows_of_certificates = record {
  prefix = take 29 forms;
  back = [];
  whole = refl;
  not_prefix = refl;
  not_back = refl;
  listed = refl;
  begun = refl;
}

-- what may be after a condition
abbrev pub behind_condition : TextKind
behind_condition = record { most = line_most; first_words = play_words }

pub rows_of_play : AreRowsOf behind_condition play_forms
rows_of_play = record {
  prefix = take 5 forms;
  back = drop 29 forms;
  whole = refl;
  not_prefix = refl;
  not_back = refl;
  listed = refl;
  begun = refl;
}

-- a word that is among some
contained : (words : List (List ℕ)) (word : List ℕ) → list_any (same_word word) words ≡ true → Contains words word
contained words word some =
    let one = Any-from_list_any (same_word word) words some in
    let same = same_word-is word one.1 one.4 in
    subst (Contains words) (sym same) (one.0, one.2, one.3)

-- what all of some words pass, one that is among them does
pub passed : (p : List ℕ → Bool) (words : List (List ℕ)) (word : List ℕ) → list_all p words ≡ true →
    Contains words word → p word ≡ true
passed p words word all among =
    elim (cases_Bool (p word)) [
      | inl all_well ↦ all_well
      | inr not_so ↦
          let at : p (get_or words among.0 word) ≡ false = ap p among.2 ∙ not_so in
          absurd (false≢true (sym (list_all_at p words among.0 word among.1 at) ∙ all))
    ]

-- a word that a form of the text begins with is one of its first words
pub begun_is_listed : (text : TextKind) (rows : List Row) (first : List ℕ) → AreRowsOf text rows
    → list_any (begins_form first) rows ≡ true →
    Contains text.first_words first
begun_is_listed text rows first of begun =
    let row = among_any (begins_form first) rows begun in
    let listed = all_among (λ (r : Row). list_any (same_word (text_of_keyword r.keyword)) text.first_words) rows row.0
    of.listed row.1 in
    subst (Contains text.first_words) (sym (same_word-is first (text_of_keyword row.0.keyword) row.2))
    (contained text.first_words (text_of_keyword row.0.keyword) listed)

-- a form of the text begins with each of them
pub listed_is_begun : (text : TextKind) (rows : List Row) (first : List ℕ) → AreRowsOf text rows
    → Contains text.first_words first →
    list_any (begins_form first) rows ≡ true
listed_is_begun text rows first of listed = passed (λ (word : List ℕ). list_any (begins_form word) rows)
    text.first_words first of.begun listed

-- an unknown word is no nearer
nearer-unknown : (nearest : Result Order Fault) → nearer nearest (Err UnknownWord) ≡ nearest
nearer-unknown nearest =
    let test : ltb (nearness nearest) 0 ≡ false = le-ltb _ _ (omega arith) in
    rw test refl

-- rows with other first words are no nearer
pub no_nearer : (first : List ℕ) (rest : List (List ℕ)) (start : Result Order Fault) (rows : List Row)
    → list_any (begins_form first) rows ≡ false →
    fold (with_row first rest) start rows ≡ start
no_nearer first rest start [] none = refl
no_nearer first rest start (row ∷ rows) none =
    let parts = or_parts (begins_form first row) (list_any (begins_form first) rows) none in
    let here : row_reading row first rest ≡ Err UnknownWord = rw parts.0 refl in
    ap (λ (r : Result Order Fault). fold (with_row first rest) (nearer start r) rows) here
    ∙ ap (λ (r : Result Order Fault). fold (with_row first rest) r rows) (nearer-unknown start)
    ∙ no_nearer first rest start rows parts.1

-- rows in turn
fold-rows : (first : List ℕ) (rest : List (List ℕ)) (start : Result Order Fault) (a b : List Row) →
    fold (with_row first rest) start (a ++ b) ≡ fold (with_row first rest) (fold (with_row first rest) start a) b
fold-rows first rest start [] b = refl
fold-rows first rest start (row ∷ a) b = fold-rows first rest (nearer start (row_reading row first rest)) a b

-- by the forms of the text a word of theirs is what it is by all
pub by_all : (text : TextKind) (rows : List Row) (first : List ℕ) (rest : List (List ℕ)) → AreRowsOf text rows
    → Contains text.first_words first →
    rows_reading rows first rest ≡ rows_reading forms first rest
by_all text rows first rest of listed =
    let start : Result Order Fault = Err UnknownWord in
    let f = with_row first rest in
    let prefix = not-true _ (passed (λ (word : List ℕ). not (list_any (begins_form word) of.prefix)) text.first_words
    first of.not_prefix listed) in
    let back = not-true _ (passed (λ (word : List ℕ). not (list_any (begins_form word) of.back)) text.first_words first
    of.not_back listed) in
    sym
    (ap (λ (all : List Row). fold f start all) of.whole ∙ fold-rows first rest start of.prefix (rows ++ of.back)
    ∙ ap (λ (r : Result Order Fault). fold f r (rows ++ of.back)) (no_nearer first rest start of.prefix prefix)
    ∙ fold-rows first rest start rows of.back
    ∙ no_nearer first rest (fold f start rows) of.back back)

-- words that begin with one of the first words are what they are by all forms
pub known_read : (text : TextKind) (rows : List Row) (words : List (List ℕ)) → AreRowsOf text rows
    → BeginWithOneOf text.first_words words →
    words_reading rows words ≡ all_reading words
known_read text rows [] of known = refl
known_read text rows (first ∷ rest) of known = by_all text rows first rest of known

-- other words are unknown
pub unknown_read : (text : TextKind) (rows : List Row) (words : List (List ℕ)) → AreRowsOf text rows
    → BeginWithOther text.first_words words →
    words_reading rows words ≡ Err UnknownWord
unknown_read text rows [] of other = absurd other
unknown_read text rows (first ∷ rest) of other =
    elim (cases_Bool (list_any (begins_form first) rows)) [
      | inl begun ↦ absurd (other (begun_is_listed text rows first of begun))
      | inr none ↦ no_nearer first rest (Err UnknownWord) rows none
    ]

-- each words are either
pub known_or_other : (text : TextKind) (rows : List Row) (words : List (List ℕ)) → AreRowsOf text rows →
    BeginWithOneOf text.first_words words ⊎ BeginWithOther text.first_words words
known_or_other text rows [] of = inl tt
known_or_other text rows (first ∷ rest) of =
    elim (cases_Bool (list_any (begins_form first) rows)) [
      | inl begun ↦ inl (begun_is_listed text rows first of begun)
      | inr none ↦ inr (λ listed. false≢true (sym none ∙ listed_is_begun text rows first of listed))
    ]

-- words that are read as other than unknown begin with one of the first words
pub read_known : (text : TextKind) (rows : List Row) (words : List (List ℕ)) → AreRowsOf text rows
    → (words_reading rows words ≡ Err UnknownWord → ⊥) →
    BeginWithOneOf text.first_words words
read_known text rows words of not_unknown =
    elim (known_or_other text rows words of) [
      | inl known ↦ known
      | inr other ↦ absurd (not_unknown (unknown_read text rows words of other))
    ]
