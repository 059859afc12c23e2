-- The table of forms as the code goes over it: the values so far, and the nearest reading so far.
use Rattle.std.proofs.Common.{◌≡◌, ℕ, ◌+◌, ◌<◌, ◌≤◌, Bool, true, false, cond, List, [], ◌∷◌, Option, Some, None, Result}
use Rattle.std.proofs.Common.{Ok, Err, fold, ltb, length, get_or, drop, map, refl, sym, ap, ◌∙◌, arith}
use Rattle.std.specs.List.{list_all}
use Rattle.std.proofs.lemmas.Bool.{false_from_ne_true, le-ltb, lt-ltb}
use Rattle.std.proofs.lemmas.List.Recursion.{and_at}
use Rattle.std.proofs.lemmas.List.{drop_more, length-map, get_or-map}
use Rattle.order_grammar.specs.Form.{Row, forms, values_reading, row_reading, rows_reading}
use Rattle.order_grammar.specs.Form.{words_reading, nearness, nearer, order_of_values, values_by_row}
use Rattle.order_grammar.specs.Keyword.{keyword_of, text_of_keyword}
use Rattle.order_grammar.specs.Row.{has_forms, is_short_row, joined_values, row_of_form, rows_of, rows_with}
use Rattle.order_grammar.specs.Token.{GivesFirst}
use Rattle.order_grammar.specs.Words.{Placed, raised, same_word, texts_of}
use Rattle.order_grammar.specs.declared.class.Class.{Class}
use Rattle.order_grammar.specs.declared.fault.Fault.{Fault}
use Rattle.order_grammar.specs.declared.fault.Fault.TheVariants.{UnknownWord, WrongWords, NumberTooLarge}
use Rattle.order_grammar.specs.declared.form.Form.{Form}
use Rattle.order_grammar.specs.declared.form.Grammar.{Grammar}
use Rattle.order_grammar.specs.declared.form.Grammar.TheVariants as grammar
use Rattle.order_grammar.specs.declared.form.TrailingClass.{TrailingClass}
use Rattle.order_grammar.specs.declared.keyword.Keyword.{Keyword}
use Rattle.order_grammar.specs.declared.keyword.Keyword.TheVariants as keyword
use Rattle.order_grammar.specs.declared.order.Order.{Order}
use Rattle.order_grammar.specs.declared.order.Value.{Value}
use Rattle.order_grammar.specs.declared.words.Token.{Token}
use Rattle.order_grammar.proofs.KeywordLemmas.{keyword_of-same, same-keyword_of, same_keyword, same_word-self}
use Rattle.order_grammar.proofs.WordLemmas.{next_words}

-- what the words of a line are by all forms
abbrev pub all_reading : List (List ℕ) → Result Order Fault
all_reading words = words_reading forms words

-- what the nearest is after one more row
abbrev pub with_row : List ℕ → List (List ℕ) → Result Order Fault → Row → Result Order Fault
with_row first rest nearest row = nearer nearest (row_reading row first rest)

-- a fault is no order
fault_nearness-le : (fault : Fault) → nearness (Err fault) ≤ 2
fault_nearness-le NumberTooLarge = omega arith
fault_nearness-le WrongWords = omega arith
fault_nearness-le other = omega arith

-- nothing is nearer than an order
nearness-le : (reading : Result Order Fault) → nearness reading ≤ 3
nearness-le (Ok order) = omega arith
nearness-le (Err fault) = omega (arith, fault_nearness-le fault)

-- an order that was found stays
pub found_stays : (first : List ℕ) (rest : List (List ℕ)) (order : Order) (rows : List Row)
    → fold (with_row first rest) (Ok order) rows ≡ Ok order
found_stays first rest order [] = refl
found_stays first rest order (row ∷ rows) =
    let test : ltb 3 (nearness (row_reading row first rest)) ≡ false =
    le-ltb 3 _ (nearness-le (row_reading row first rest)) in
    rw test (found_stays first rest order rows)

-- an order is nearer than any fault
pub nearer-found : (fault : Fault) (order : Order) → nearer (Err fault) (Ok order) ≡ Ok order
nearer-found fault order =
    let test : ltb (nearness (Err fault)) 3 ≡ true = lt-ltb _ 3 (omega (arith, fault_nearness-le fault)) in
    rw test refl

-- by a row with another first word the words are of no form
pub unknown-row : (row : Row) (first : List ℕ) (rest : List (List ℕ))
    → same_word first (text_of_keyword row.keyword) ≡ false →
    ◌≡◌ {A = Result Order Fault} (Err UnknownWord) (row_reading row first rest)
unknown-row row first rest different = rw different refl

-- and that is no nearer
pub nearer-unknown : (fault : Fault) → nearer (Err fault) (Err UnknownWord) ≡ Err fault
nearer-unknown fault =
    let test : ltb (nearness (Err fault)) 0 ≡ false = le-ltb _ _ (omega arith) in
    rw test refl

-- by a row with this first word they are what the words after it are
pub known-row : (row : Row) (first : List ℕ) (rest : List (List ℕ)) (reading : Result Order Fault)
    → same_word first (text_of_keyword row.keyword) ≡ true
    → reading ≡ order_of_values row.keyword (values_by_row row rest) → reading ≡ row_reading row first rest
known-row row first rest reading same is = is ∙ rw same refl

-- where the first word is that of no row, the words are of no form
pub unknown-rows : (rows : List Row) (first : List ℕ) (rest : List (List ℕ)) → keyword_of first ≡ None
    → fold (with_row first rest) (Err UnknownWord) rows ≡ Err UnknownWord
unknown-rows [] first rest none = refl
unknown-rows (row ∷ rows) first rest none =
    let different : same_word first (text_of_keyword row.keyword) ≡ false =
    false_from_ne_true _ (λ same. let wrong : None ≡ Some row.keyword =
    sym none ∙ keyword_of-same first row.keyword same in absurd cc) in
    ap (λ (r : Result Order Fault). fold (with_row first rest) (nearer (Err UnknownWord) r) rows)
    (sym (unknown-row row first rest different))
    ∙ ap (λ (r : Result Order Fault). fold (with_row first rest) r rows) (nearer-unknown UnknownWord)
    ∙ unknown-rows rows first rest none

-- nothing is no nearer
nearer-nothing : (reading : Result Order Fault) → nearer reading (Err UnknownWord) ≡ reading
nearer-nothing reading =
    let test : ltb (nearness reading) 0 ≡ false = le-ltb _ _ (omega arith) in
    rw test refl

-- where the first word is that of one keyword, it is not that of another
other_word : (k other : Keyword) (first : List ℕ) → keyword_of first ≡ Some k
    → same_word (text_of_keyword other) (text_of_keyword k) ≡ false
    → same_word first (text_of_keyword other) ≡ false
other_word k other first is differ = false_from_ne_true _ (λ same.
    let both : Some other ≡ Some k = sym (keyword_of-same first other same) ∙ is in
    let one : other ≡ k = cc in
    let wrong : true ≡ false =
    sym (same_word-self (text_of_keyword k)) ∙ ap (λ o. same_word (text_of_keyword o) (text_of_keyword k)) (sym one)
    ∙ differ in absurd cc)

-- the rows with other first words may be left out
pub rows_with-read : (k : Keyword) (first : List ℕ) (rest : List (List ℕ)) (start : Result Order Fault)
    (rows : List Row) → keyword_of first ≡ Some k
    → fold (with_row first rest) start (rows_with k rows) ≡ fold (with_row first rest) start rows
rows_with-read k first rest start [] is = refl
rows_with-read k first rest start (row ∷ rows) is =
    (elim (same_word (text_of_keyword row.keyword) (text_of_keyword k)) as
    (λ b. same_word (text_of_keyword row.keyword) (text_of_keyword k) ≡ b
    → fold (with_row first rest) start (cond b (row ∷ rows_with k rows) (rows_with k rows))
    ≡ fold (with_row first rest) (nearer start (row_reading row first rest)) rows) [
      | true ↦ λ same. rows_with-read k first rest (nearer start (row_reading row first rest)) rows is
      | false ↦ λ differ. rows_with-read k first rest start rows is
          ∙ ap (λ (r : Result Order Fault). fold (with_row first rest) r rows)
          (sym (nearer-nothing start)
          ∙ ap (λ (r : Result Order Fault). nearer start r)
          (unknown-row row first rest (other_word k row.keyword first is differ)))
    ]) refl

-- each of the rows with a first word has it
with_first : (k : Keyword) (rows : List Row)
    → list_all (λ row. same_word (text_of_keyword row.keyword) (text_of_keyword k)) (rows_with k rows) ≡ true
with_first k [] = refl
with_first k (row ∷ rows) =
    (elim (same_word (text_of_keyword row.keyword) (text_of_keyword k)) as
    (λ b. same_word (text_of_keyword row.keyword) (text_of_keyword k) ≡ b
    → list_all (λ row. same_word (text_of_keyword row.keyword) (text_of_keyword k))
    (cond b (row ∷ rows_with k rows) (rows_with k rows)) ≡ true) [
      | true ↦ λ same. rw same (with_first k rows)
      | false ↦ λ differ. with_first k rows
    ]) refl

-- so the first word of a line whose keyword that is is its
pub first_of_row : (k : Keyword) (rows : List Row) (forms : List Form) (i : ℕ) (d : Form) (first : List ℕ)
    → map row_of_form forms ≡ rows_with k rows → i < length forms → keyword_of first ≡ Some k
    → same_word first (text_of_keyword (get_or forms i d).keyword) ≡ true
first_of_row k rows forms i d first are lt is =
    let test : Row → Bool = λ row. same_word (text_of_keyword row.keyword) (text_of_keyword k) in
    let all : list_all test (map row_of_form forms) ≡ true = ap (list_all test) are ∙ with_first k rows in
    let size : i < length (map row_of_form forms) = omega (arith, length-map forms row_of_form) in
    let here : test (row_of_form (get_or forms i d)) ≡ true =
    ap test (sym (get_or-map row_of_form forms i d (row_of_form d) lt))
    ∙ and_at (list_all test) test refl (λ _ _. refl) (map row_of_form forms) i (row_of_form d) size all in
    let one : (get_or forms i d).keyword ≡ k = same_keyword (get_or forms i d).keyword k here in
    ap (λ o. same_word first (text_of_keyword o)) one ∙ same-keyword_of first k is

-- a grammar has all rows whose first word is a keyword, or none of them
pub rows_with-grammar : (g : Grammar) (k : Keyword) → cond (has_forms g k) (rows_with k forms) []
    ≡ rows_with k (rows_of g)
rows_with-grammar grammar.OrderFile keyword.Game = refl
rows_with-grammar grammar.OrderFile other = refl
rows_with-grammar grammar.Play keyword.Game = refl
rows_with-grammar grammar.Play other = refl
rows_with-grammar grammar.Certificate keyword.Game = refl
rows_with-grammar grammar.Certificate other = refl

-- one more row, and what the words are by it
pub rows-next : (first : List ℕ) (rest : List (List ℕ)) (nearest : Result Order Fault) (forms : List Form) (i : ℕ)
    (d : Form) → i < length forms →
    (reading : Result Order Fault) → reading ≡ row_reading (row_of_form (get_or forms i d)) first rest →
    fold (with_row first rest) nearest (drop i (map row_of_form forms))
    ≡ fold (with_row first rest) (nearer nearest reading) (drop (i + 1) (map row_of_form forms))
rows-next first rest nearest forms i d lt reading is =
    let size : i < length (map row_of_form forms) = omega (arith, length-map forms row_of_form) in
    rw (drop_more (map row_of_form forms) i (row_of_form d) size, get_or-map row_of_form forms i d (row_of_form d) lt, is) refl

-- a form among short ones is short
pub short_form : (forms : List Form) (i : ℕ) (d : Form) → list_all is_short_row (map row_of_form forms) ≡ true
    → i < length forms →
    is_short_row (row_of_form (get_or forms i d)) ≡ true
short_form forms i d short lt =
    let size : i < length (map row_of_form forms) = omega (arith, length-map forms row_of_form) in
    ap is_short_row (sym (get_or-map row_of_form forms i d (row_of_form d) lt))
    ∙ and_at (list_all is_short_row) is_short_row refl (λ _ _. refl) (map row_of_form forms) i (row_of_form d) size short

-- no word is left for a class
pub values_reading-none : (prefix : List Value) (too_large : Bool) (classes : List Class) (r : TrailingClass) (i : ℕ)
    (d : Class) (all : List (List ℕ)) →
    i < length classes → all ≡ [] → joined_values prefix too_large (values_reading (drop i classes) r all)
    ≡ Err WrongWords
values_reading-none prefix too_large classes r i d all lt none = rw (none, drop_more classes i d lt) refl

-- the first of a line's words and the others, read by some rows, are what the words are by them
pub table_read : (words left : List Placed) (given : Option Token) (first : Token) (rows : List Row)
    (found : Result Order Fault) →
    GivesFirst words given left → given ≡ Some first
    → found ≡ rows_reading rows (raised first.text.now) (texts_of left) →
    found ≡ words_reading rows (texts_of words)
table_read words left given first rows found gives is by =
    by ∙ sym (ap (words_reading rows) (next_words words left given first gives is))
