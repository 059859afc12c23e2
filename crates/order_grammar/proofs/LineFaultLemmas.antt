-- The fault of a line is what it is read as.
use Rattle.std.proofs.Common.{◌≡◌, ℕ, suc, ◌<◌, ◌≤◌, true, false, ltb, fold, ◌⊎◌, inl, inr, List, [], ◌∷◌, Some, None}
use Rattle.std.proofs.Common.{lit≤, Result, Ok, Err, Any, length, refl, sym, ap, subst, ◌∙◌, arith}
use Rattle.std.specs.List.{list_all}
use Rattle.std.proofs.lemmas.Bool.{cases_Bool, cases_lt, le-ltb, lt-ltb, and_cases, false≢true}
use Rattle.std.proofs.lemmas.List.Folds.{list_all_at}
use Rattle.order_grammar.specs.Form.{Row, values_reading, nearness, nearer, order_of_values, row_reading, words_reading}
use Rattle.order_grammar.specs.Keyword.{text_of_keyword}
use Rattle.order_grammar.specs.Line.{reading_by}
use Rattle.order_grammar.specs.LineFault.{IsTooLong, HasStrayByte, BeginWithOther, IsFaultIn}
use Rattle.order_grammar.specs.Order.{parts_of, order_from}
use Rattle.order_grammar.specs.Spells.{AreWordsFor, BeginWithOneOf}
use Rattle.order_grammar.specs.Texts.{TextKind}
use Rattle.order_grammar.specs.Words.{same_word, before_comment, is_printable, words_of}
use Rattle.order_grammar.specs.declared.fault.Fault.{Fault}
use Rattle.order_grammar.specs.declared.fault.Fault.TheVariants.{TooLong, StrayByte, UnknownWord, WrongWords}
use Rattle.order_grammar.specs.declared.fault.Fault.TheVariants.{NumberTooLarge}
use Rattle.order_grammar.specs.declared.keyword.Keyword.{Keyword}
use Rattle.order_grammar.specs.declared.order.Order.{Order}
use Rattle.order_grammar.specs.declared.order.Trailing.{Trailing}
use Rattle.order_grammar.specs.declared.order.Value.{Value}
use Rattle.order_grammar.proofs.FormLemmas.{with_row, all_reading}
use Rattle.order_grammar.proofs.PartLemmas.{AreRowsOf, begins_form, listed_is_begun, known_read, unknown_read}
use Rattle.order_grammar.proofs.PartLemmas.{known_or_other, read_known}
use Rattle.order_grammar.proofs.RowLemmas.{IsAmong, among_any, nearest_has, words_say}
use Rattle.order_grammar.proofs.ShapeLemmas.{ReadThus, values_made}
use Rattle.order_grammar.proofs.SmallLemmas.{are_small, small_by_parts, small_of_parts}
use Rattle.order_grammar.proofs.SpellsLemmas.{spelt_words_read, large_words_read, words_read_spell}

-- a byte that is not printable
pub stray_byte : (bytes : List ℕ) → list_all is_printable bytes ≡ false →
    Any (λ byte. is_printable byte ≡ true → ⊥) bytes
stray_byte [] e = absurd cc
stray_byte (byte ∷ bytes) e =
    elim (and_cases (is_printable byte) (list_all is_printable bytes) e) [
      | inl here ↦ (0, byte, omega arith, refl, λ printable. let wrong : false ≡ true = sym here ∙ printable in cc)
      | inr later ↦
          let rest = stray_byte bytes later in
          (suc rest.0, rest.1, omega (arith, rest.2), rest.3, rest.4)
    ]

-- with one, not all are
pub not_printable : (bytes : List ℕ) → Any (λ byte. is_printable byte ≡ true → ⊥) bytes →
    list_all is_printable bytes ≡ false
not_printable bytes stray =
    elim (cases_Bool (is_printable stray.1)) [
      | inl printable ↦ absurd (stray.4 printable)
      | inr other ↦ list_all_at is_printable bytes stray.0 stray.1 stray.2 (ap is_printable stray.3 ∙ other)
    ]

-- with none, all are
pub all_printable : (line : List ℕ) → (HasStrayByte line → ⊥) → list_all is_printable (before_comment line) ≡ true
all_printable line clean =
    elim (cases_Bool (list_all is_printable (before_comment line))) [
      | inl printable ↦ printable
      | inr stray ↦ absurd (clean (stray_byte (before_comment line) stray))
    ]

-- a line that is not too long and has no stray byte is what its words are
words_decide : (most : ℕ) (rows : List Row) (line : List ℕ) → (most < length line → ⊥) → (HasStrayByte line → ⊥) →
    reading_by most rows line ≡ words_reading rows (words_of line)
words_decide most rows line short clean =
    let test : ltb most (length line) ≡ false = le-ltb most (length line) (omega arith) in
    rw (test, all_printable line clean) refl

-- a value or wrong words: what comes after the first word is no unknown word
order_near : (k : Keyword) (read : List Value × Trailing) → 1 ≤ nearness (order_of_values k (Ok read))
order_near k read =
    elim (order_from k read.0 read.1) as (λ found. 1
    ≤ nearness (elim found [ Some order ↦ Ok order | None ↦ Err WrongWords ])) [
      | Some order ↦ lit≤ tt
      | None ↦ lit≤ tt
    ]

values_near : (row : Row) (rest : List (List ℕ)) (read : Result (List Value × Trailing) Fault)
    → ReadThus row.classes row.trailing_class rest read →
    1 ≤ nearness (order_of_values row.keyword read)
values_near row rest (Ok read) h = order_near row.keyword read
values_near row rest (Err NumberTooLarge) h = lit≤ tt
values_near row rest (Err WrongWords) h = lit≤ tt
values_near row rest (Err other) h = absurd h

-- by a row that begins with the word
row_near : (row : Row) (first : List ℕ) (rest : List (List ℕ)) → same_word first (text_of_keyword row.keyword) ≡ true →
    1 ≤ nearness (row_reading row first rest)
row_near row first rest same = rw same (values_near row rest (values_reading row.classes row.trailing_class rest)
    (values_made row.classes row.trailing_class rest))

-- the nearer of two is at least as near as each
nearer-le : (a b : Result Order Fault) → (nearness a ≤ nearness (nearer a b)) × (nearness b ≤ nearness (nearer a b))
nearer-le a b =
    elim (cases_lt (nearness a) (nearness b)) [
      | inl lt ↦ let test : ltb (nearness a) (nearness b) ≡ true = lt-ltb _ _ lt in rw test (omega arith, omega arith)
      | inr le ↦ let test : ltb (nearness a) (nearness b) ≡ false = le-ltb _ _ le in rw test (omega arith, omega arith)
    ]

-- more rows come no less near
rows-le : (first : List ℕ) (rest : List (List ℕ)) (start : Result Order Fault) (rows : List Row) →
    nearness start ≤ nearness (fold (with_row first rest) start rows)
rows-le first rest start [] = omega arith
rows-le first rest start (row ∷ rows) =
    omega (
      arith,
      (nearer-le start (row_reading row first rest)).0,
      rows-le first rest
          (nearer start (row_reading row first rest)) rows,
    )

-- each row comes no nearer than the nearest
row-le : (rows : List Row) (row : Row) (first : List ℕ) (rest : List (List ℕ)) (start : Result Order Fault)
    → IsAmong row rows →
    nearness (row_reading row first rest) ≤ nearness (fold (with_row first rest) start rows)
row-le [] row first rest start among = absurd among
row-le (other ∷ rows) row first rest start (inl is) =
    omega (
      arith,
      ap (λ (r : Row). nearness (row_reading r first rest)) is,
      (nearer-le start (row_reading other first rest)).1,
      rows-le first rest
          (nearer start (row_reading other first rest)) rows,
    )
row-le (other ∷ rows) row first rest start (inr later) =
    row-le rows row first rest (nearer start (row_reading other first rest)) later

-- words of a text that are read as an unknown word begin with another
pub unknown_begins : (text : TextKind) (rows : List Row) → AreRowsOf text rows → (words : List (List ℕ)) →
    words_reading rows words ≡ Err UnknownWord →
    BeginWithOther text.first_words words
unknown_begins text rows of [] e = absurd cc
unknown_begins text rows of (first ∷ rest) e = λ listed.
    let row = among_any (begins_form first) rows (listed_is_begun text rows first of listed) in
    let near = row_near row.0 first rest row.2 in
    let le = row-le rows row.0 first rest (Err UnknownWord) row.1 in
    let wrong : 1 ≤ 0 = rw e at (let all : 1 ≤ nearness (words_reading rows (first ∷ rest)) =
    omega (arith, near, le) in all) in
    omega arith

-- what words are read as: an order, an unknown word, wrong words or a number that is too large
abbrev IsOfWords : Result Order Fault → Type 0
IsOfWords reading = (reading ≡ Err UnknownWord) ⊎ (1 ≤ nearness reading)

row_of_words : (row : Row) (first : List ℕ) (rest : List (List ℕ)) → IsOfWords (row_reading row first rest)
row_of_words row first rest =
    elim (cases_Bool (same_word first (text_of_keyword row.keyword))) [
      | inl same ↦ inr (row_near row first rest same)
      | inr other ↦ inl (rw other refl)
    ]

reading_of_words : (rows : List Row) (words : List (List ℕ)) → IsOfWords (words_reading rows words)
reading_of_words rows [] = inr (lit≤ tt)
reading_of_words rows (first ∷ rest) = nearest_has IsOfWords rows first rest (Err UnknownWord) (inl refl)
    (λ row among. row_of_words row first rest)

-- no other fault is of words
pub other_fault : (rows : List Row) (words : List (List ℕ)) (fault : Fault) → nearness (Err fault) ≡ 0 →
    (fault ≡ UnknownWord → ⊥) →
    words_reading rows words ≡ Err fault → ⊥
other_fault rows words fault none other e =
    elim (reading_of_words rows words) [
      | inl unknown ↦
          let same : ◌≡◌ {A = Result Order Fault} (Err fault) (Err UnknownWord) = sym e ∙ unknown in
          other cc
      | inr near ↦ let wrong : 1 ≤ nearness (Err fault) = rw e at near in omega arith
    ]

-- words that would spell an order, if numbers had no greatest value, are near to it
loosely_near : (words : List (List ℕ)) (order : Order) → AreWordsFor order words
    → (all_reading words ≡ Err WrongWords) → ⊥
loosely_near words order spelt wrong =
    elim (cases_Bool (are_small (parts_of order))) [
      | inl small ↦
          let no : ◌≡◌ {A = Result Order Fault} (Ok order) (Err WrongWords) =
          sym (spelt_words_read words order spelt (small_of_parts order small)) ∙ wrong in cc
      | inr large ↦
          let no : ◌≡◌ {A = Result Order Fault} (Err NumberTooLarge) (Err WrongWords) =
          sym (large_words_read words order spelt (λ small. false≢true (sym large ∙ small_by_parts order small)))
          ∙ wrong in
          cc
    ]

-- words that begin with one of some words begin with no other
pub not_other : (known : List (List ℕ)) (words : List (List ℕ)) → BeginWithOneOf known words →
    BeginWithOther known words → ⊥
not_other known [] one other = other
not_other known (first ∷ rest) one other = other one

-- words that begin with no other begin with one of them
some_known : (text : TextKind) (rows : List Row) → AreRowsOf text rows → (words : List (List ℕ))
    → (BeginWithOther text.first_words words → ⊥) →
    BeginWithOneOf text.first_words words
some_known text rows of words no_other =
    elim (known_or_other text rows words of) [
      | inl known ↦ known
      | inr other ↦ absurd (no_other other)
    ]

-- words of a text with another fault begin one of its forms
pub begins_some_form : (text : TextKind) (rows : List Row) → AreRowsOf text rows →
    (words : List (List ℕ)) (fault : Fault) → (fault ≡ UnknownWord → ⊥) →
    words_reading rows words ≡ Err fault → BeginWithOther text.first_words words → ⊥
begins_some_form text rows of words fault other e none =
    let same : ◌≡◌ {A = Result Order Fault} (Err fault) (Err UnknownWord) =
    sym e ∙ unknown_read text rows words of none in
    other cc

-- so they are read by all forms
pub read_by_all : (text : TextKind) (rows : List Row) → AreRowsOf text rows →
    (words : List (List ℕ)) (fault : Fault) → (fault ≡ UnknownWord → ⊥) →
    words_reading rows words ≡ Err fault → BeginWithOneOf text.first_words words × (all_reading words ≡ Err fault)
read_by_all text rows of words fault other e =
    let known = read_known text rows words of (λ unknown.
    let same : ◌≡◌ {A = Result Order Fault} (Err fault) (Err UnknownWord) = sym e ∙ unknown in
    other cc) in
    (known, sym (known_read text rows words of known) ∙ e)

-- words with a number that is too large would spell an order
pub large_spell : (words : List (List ℕ)) → all_reading words ≡ Err NumberTooLarge → (order : Order) ×
    AreWordsFor order words
large_spell [] e = absurd cc
large_spell (first ∷ rest) e =
    let says = words_say first rest in
    rw e at says

-- the fault of words is that of their line
words_fault : (text : TextKind) (rows : List Row) → AreRowsOf text rows → (line : List ℕ) (fault : Fault)
    → (IsTooLong text line → ⊥) →
    (HasStrayByte line → ⊥) → words_reading rows (words_of line) ≡ Err fault → IsFaultIn text line fault
words_fault text rows of line UnknownWord short clean e = (short, clean, unknown_begins text rows of (words_of line) e)
words_fault text rows of line WrongWords short clean e =
    let read = read_by_all text rows of (words_of line) WrongWords (λ same. cc) e in (
      short,
      clean,
      begins_some_form text rows of (words_of line) WrongWords (λ same. cc) e,
      λ loosely. loosely_near (words_of line) loosely.0 loosely.1.words read.1,
    )
words_fault text rows of line NumberTooLarge short clean e =
    let read = read_by_all text rows of (words_of line) NumberTooLarge (λ same. cc) e in
    let some = large_spell (words_of line) read.1 in (
      short,
      clean,
      begins_some_form text rows of (words_of line) NumberTooLarge (λ same. cc) e,
      (some.0, record { short = omega arith; printable = all_printable line clean; known = read.0; words = some.1 }),
      λ spelt.
          let wrong : ◌≡◌ {A = Result Order Fault} (Ok spelt.0) (Err NumberTooLarge) =
          sym (spelt_words_read (words_of line) spelt.0 spelt.1.loosely.words spelt.1.small) ∙ read.1 in
          cc,
    )
words_fault text rows of line other short clean e = absurd (other_fault rows (words_of line) other refl (λ same. cc) e)

-- a line that is read as a fault by the forms of a text has it there
pub fault_had : (text : TextKind) (rows : List Row) → AreRowsOf text rows → (line : List ℕ) (fault : Fault) →
    reading_by text.most rows line ≡ Err fault → IsFaultIn text line fault
fault_had text rows of line fault e =
    elim (cases_lt text.most (length line)) [
      | inl long ↦
          let test : ltb text.most (length line) ≡ true = lt-ltb text.most (length line) long in
          let same : ◌≡◌ {A = Result Order Fault} (Err TooLong) (Err fault) = rw test at e in
          subst (IsFaultIn text line) (let is : TooLong ≡ fault = cc in is) long
      | inr short ↦
          elim (cases_Bool (list_all is_printable (before_comment line))) [
            | inl printable ↦
                let clean : HasStrayByte line → ⊥ = λ stray. let wrong : true ≡ false =
                sym printable ∙ not_printable (before_comment line) stray in cc in
                let not_long : IsTooLong text line → ⊥ = λ long. omega arith in
                words_fault text rows of line fault not_long clean
                (sym (words_decide text.most rows line not_long clean) ∙ e)
            | inr stray ↦
                let test : ltb text.most (length line) ≡ false = le-ltb text.most (length line) short in
                let same : ◌≡◌ {A = Result Order Fault} (Err StrayByte) (Err fault) = rw (test, stray) at e in
                subst (IsFaultIn text line) (let is : StrayByte ≡ fault = cc in is)
                ((λ long. omega arith), stray_byte (before_comment line) stray)
          ]
    ]

-- words that begin a form of the text, and would spell no order, are wrong words
wrong_words : (text : TextKind) (rows : List Row) → AreRowsOf text rows
    → (words : List (List ℕ)) (reading : Result Order Fault) →
    words_reading rows words ≡ reading → BeginWithOneOf text.first_words words
    → ((order : Order) → AreWordsFor order words → ⊥) → reading ≡ Err WrongWords
wrong_words text rows of words (Ok order) e known none =
    absurd (none order (words_read_spell words order (sym (known_read text rows words of known) ∙ e)).0)
wrong_words text rows of words (Err NumberTooLarge) e known none =
    let some = large_spell words (sym (known_read text rows words of known) ∙ e) in absurd (none some.0 some.1)
wrong_words text rows of words (Err WrongWords) e known none = refl
wrong_words text rows of words (Err UnknownWord) e known none =
    absurd (not_other text.first_words words known (unknown_begins text rows of words e))
wrong_words text rows of words (Err other) e known none = absurd (other_fault rows words other refl (λ same. cc) e)

-- a line that has a fault in a text is read as it by its forms
pub fault_read : (text : TextKind) (rows : List Row) → AreRowsOf text rows → (line : List ℕ) (fault : Fault)
    → IsFaultIn text line fault →
    reading_by text.most rows line ≡ Err fault
fault_read text rows of line TooLong long =
    let test : ltb text.most (length line) ≡ true = lt-ltb text.most (length line) long in
    rw test refl
fault_read text rows of line StrayByte is =
    let short = is.0 in
    let test : ltb text.most (length line) ≡ false = le-ltb text.most (length line) (omega arith) in
    rw (test, not_printable (before_comment line) is.1) refl
fault_read text rows of line UnknownWord is = words_decide text.most rows line is.0 is.1
    ∙ unknown_read text rows (words_of line) of is.2
fault_read text rows of line WrongWords is =
    let short = is.0 in
    let known = some_known text rows of (words_of line) is.2 in
    words_decide text.most rows line is.0 is.1
    ∙ wrong_words text rows of (words_of line) (words_reading rows (words_of line)) refl known
    (λ order are. is.3 (
      order,
      record {
        short = omega arith;
        printable = all_printable line is.1;
        known =
            known;
        words = are;
      },
    ))
fault_read text rows of line NumberTooLarge is =
    let order = is.3.0 in
    let loosely = is.3.1 in
    words_decide text.most rows line is.0 is.1 ∙ known_read text rows (words_of line) of loosely.known
    ∙ large_words_read (words_of line) order loosely.words
    (λ small. is.4 (order, record { loosely = loosely; small = small }))
fault_read text rows of line other none = absurd none
