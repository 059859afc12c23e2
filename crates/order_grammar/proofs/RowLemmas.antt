-- The words of a line by the table of forms. They are read as an order, or as one except for a
-- number, exactly if they are the words of its parts.
use Rattle.std.proofs.Common.{◌≡◌, ℕ, ◌≤◌, Bool, true, false, cond, ltb, nat_lt, fold, lit≤, inl, inr, ◌⊎◌, List, []}
use Rattle.std.proofs.Common.{◌∷◌, Option, Some, None, Result, Ok, Err, refl, sym, ap, subst, ◌∙◌, arith}
use Rattle.std.specs.List.{list_all, list_any}
use Rattle.std.proofs.lemmas.Bool.{cases_Bool, cases_lt, le-ltb, lt-ltb, and_parts, and_from, or_cases, or_left}
use Rattle.std.proofs.lemmas.Bool.{or_right, false≢true}
use Rattle.order_grammar.specs.Form.{Row, forms, values_reading, order_of_values, nearness, nearer, row_reading}
use Rattle.order_grammar.specs.Form.{is_row_of}
use Rattle.order_grammar.specs.Keyword.{text_of_keyword}
use Rattle.order_grammar.specs.Order.{made_of, parts_of, order_from, Parts}
use Rattle.order_grammar.specs.Spells.{HasSmallNumbers, AreWordsFor}
use Rattle.order_grammar.specs.Words.{same_word}
use Rattle.order_grammar.specs.declared.fault.Fault.{Fault}
use Rattle.order_grammar.specs.declared.fault.Fault.TheVariants.{UnknownWord, WrongWords, NumberTooLarge}
use Rattle.order_grammar.specs.declared.keyword.Keyword.{Keyword}
use Rattle.order_grammar.specs.declared.order.Order.{Order}
use Rattle.order_grammar.specs.declared.order.Trailing.{Trailing}
use Rattle.order_grammar.specs.declared.order.Value.{Value}
use Rattle.order_grammar.proofs.ApartLemmas.{are_rows_apart, are_all_apart, forms_apart, IsNear, rows_apart}
use Rattle.order_grammar.proofs.FormLemmas.{with_row, all_reading}
use Rattle.order_grammar.proofs.KeywordLemmas.{same_keyword, same_word-is, same_word-self}
use Rattle.order_grammar.proofs.OrderLemmas.{formed, IsMadeAgain, made_again, AreTextsOf, AreWordsByParts, by_parts}
use Rattle.order_grammar.proofs.OrderLemmas.{of_parts}
use Rattle.order_grammar.proofs.SmallLemmas.{is_small, are_small, small_of_parts}
use Rattle.order_grammar.proofs.ShapeLemmas.{sized, values_read, AreValuesOf, ReadThus, values_made}

-- a row is among others
abbrev pub IsAmong : Row → List Row → Type 0
IsAmong row [] = ⊥
IsAmong row (other ∷ rows) = (row ≡ other) ⊎ IsAmong row rows

-- some row has what one among them has
pub any_among : (p : Row → Bool) (rows : List Row) (row : Row) → IsAmong row rows → p row ≡ true
    → list_any p rows ≡ true
any_among p [] row among h = absurd among
any_among p (other ∷ rows) row (inl is) h = or_left (p other) (list_any p rows) (ap p (sym is) ∙ h)
any_among p (other ∷ rows) row (inr later) h = or_right (p other) (list_any p rows) (any_among p rows row later h)

-- where some row has it, one among them does
pub among_any : (p : Row → Bool) (rows : List Row) → list_any p rows ≡ true
    → (row : Row) × IsAmong row rows × (p row ≡ true)
among_any p [] h = absurd (false≢true h)
among_any p (row ∷ rows) h =
    elim (or_cases (p row) (list_any p rows) h) [
      | inl here ↦ (row, inl refl, here)
      | inr later ↦
          let one = among_any p rows later in
          (one.0, inr one.1, one.2)
    ]

-- an order that was read, or that a number is too large
abbrev pub read_as : Order → Bool → Result Order Fault
read_as order small = cond small (Ok order) (Err NumberTooLarge)

-- values that make an order
order_sized : (k : Keyword) (values : List Value) (t : Trailing) (order : Order) (small : Bool)
    → order_from k values t ≡ Some order →
    order_of_values k (sized values t small) ≡ read_as order small
order_sized k values t order true made = rw (made, order_of_values) refl
order_sized k values t order false made = refl

-- words of parts are read so by the row of their form
row_read : (row : Row) (k : Keyword) (values : List Value) (t : Trailing) (order : Order) (first : List ℕ)
    (rest : List (List ℕ)) →
    is_row_of k values t row ≡ true → first ≡ text_of_keyword k → AreTextsOf values t rest
    → order_from k values t ≡ Some order →
    row_reading row first rest ≡ read_as order (list_all is_small values)
row_read row k values t order first rest of is are made =
    let parts = and_parts _ _ of in
    let keyword : row.keyword ≡ k = same_keyword row.keyword k parts.0 in
    let begins : same_word first (text_of_keyword row.keyword) ≡ true =
    ap (λ (word : List ℕ). same_word word (text_of_keyword row.keyword)) (is ∙ ap text_of_keyword (sym keyword))
    ∙ same_word-self (text_of_keyword row.keyword) in
    rw (begins, values_read row.classes row.trailing_class values t rest parts.1 are, keyword)
    (order_sized k values t order (list_all is_small values) made)

-- what is near is near to an order
near_read_as : (order : Order) (small : Bool) → IsNear (read_as order small)
near_read_as order true = lit≤ tt
near_read_as order false = lit≤ tt

-- nothing that is less near takes its place
stays : (rows : List Row) (first : List ℕ) (rest : List (List ℕ)) (found : Result Order Fault) → IsNear found →
    ((row : Row) → IsAmong row rows → nearness (row_reading row first rest) ≤ 1)
    → fold (with_row first rest) found rows ≡ found
stays [] first rest found near others = refl
stays (row ∷ rows) first rest found near others =
    let test : ltb (nearness found) (nearness (row_reading row first rest)) ≡ false =
    le-ltb _ _ (omega (arith, near, others row (inl refl))) in
    rw test (stays rows first rest found near (λ other among. others other (inr among)))

-- what all rows have, one among them has
pub all_among : (p : Row → Bool) (rows : List Row) (row : Row) → list_all p rows ≡ true → IsAmong row rows
    → p row ≡ true
all_among p [] row all among = absurd among
all_among p (other ∷ rows) row all (inl is) = ap p is ∙ (and_parts (p other) (list_all p rows) all).0
all_among p (other ∷ rows) row all (inr later) =
    all_among p rows row (and_parts (p other) (list_all p rows) all).1 later

-- of two rows that are apart one is not near
not_both : (row other : Row) (first : List ℕ) (rest : List (List ℕ)) → are_rows_apart row other ≡ true
    → IsNear (row_reading other first rest) →
    nearness (row_reading row first rest) ≤ 1
not_both row other first rest apart near =
    elim (cases_lt 1 (nearness (row_reading row first rest))) [
      | inl also ↦ absurd (omega (arith, near, rows_apart row other first rest apart (omega arith)))
      | inr far ↦ far
    ]

-- of two that are not near neither is the nearer
no_nearer : (a b : Result Order Fault) → nearness a ≤ 1 → nearness b ≤ 1 → nearness (nearer a b) ≤ 1
no_nearer a b first second =
    elim (cases_lt (nearness a) (nearness b)) [
      | inl lt ↦ let test : ltb (nearness a) (nearness b) ≡ true = lt-ltb _ _ lt in rw test second
      | inr le ↦ let test : ltb (nearness a) (nearness b) ≡ false = le-ltb _ _ le in rw test first
    ]

-- where words are near by a row of a table whose rows are apart, that is what they are by the table
rows_read : (rows : List Row) (row : Row) (first : List ℕ) (rest : List (List ℕ)) (start found : Result Order Fault)
    → are_all_apart rows ≡ true →
    IsAmong row rows → row_reading row first rest ≡ found → IsNear found → nearness start ≤ 1
    → fold (with_row first rest) start rows ≡ found
rows_read [] row first rest start found apart among read near far = absurd among
rows_read (other ∷ rows) row first rest start found apart (inl is) read near far =
    let here : row_reading other first rest ≡ found = ap (λ (r : Row). row_reading r first rest) (sym is) ∙ read in
    let near_here : IsNear (row_reading other first rest) = subst IsNear (sym here) near in
    let parts = and_parts (list_all (are_rows_apart other) rows) (are_all_apart rows) apart in
    let test : ltb (nearness start) (nearness found) ≡ true = lt-ltb _ _ (omega (arith, near, far)) in
    let first_is : nearer start (row_reading other first rest) ≡ found = rw (here, test) refl in
    ap (λ (r : Result Order Fault). fold (with_row first rest) r rows) first_is
    ∙ stays rows first rest found near (λ one among. rows_apart other one first rest
    (all_among (are_rows_apart other) rows one parts.0 among) near_here)
rows_read (other ∷ rows) row first rest start found apart (inr later) read near far =
    let near_row : IsNear (row_reading row first rest) = subst IsNear (sym read) near in
    let parts = and_parts (list_all (are_rows_apart other) rows) (are_all_apart rows) apart in
    let not_near : nearness (row_reading other first rest) ≤ 1 =
    not_both other row first rest (all_among (are_rows_apart other) rows row parts.0 later) near_row in
    rows_read rows row first rest (nearer start (row_reading other first rest)) found parts.1 later read near
    (no_nearer start (row_reading other first rest) far not_near)

-- words of an order's parts are read so
parts_read : (order : Order) (parts : Option Parts) (words : List (List ℕ)) → IsMadeAgain order parts
    → AreWordsByParts parts words →
    all_reading words ≡ read_as order (are_small parts)
parts_read order None [] made are = ap (λ (o : Order). Ok o) (sym made)
parts_read order None (word ∷ words) made are = absurd are
parts_read order (Some parts) [] made are = absurd are.0
parts_read order (Some parts) (first ∷ rest) made are =
    let row = among_any (is_row_of parts.keyword parts.values parts.trailing) forms are.1 in
    let read = row_read row.0 parts.keyword parts.values parts.trailing order first rest row.2 are.0.0 are.0.1 made in
    rows_read forms row.0 first rest (Err UnknownWord) (read_as order (list_all is_small parts.values)) forms_apart
    row.1 read
    (near_read_as order (list_all is_small parts.values)) (omega arith)

-- words that spell an order, except that its numbers may be too large, are read so
pub words_for_read : (words : List (List ℕ)) (order : Order) → AreWordsFor order words
    → all_reading words ≡ read_as order (are_small (parts_of order))
words_for_read words order are = parts_read order (parts_of order) words (made_again order) (by_parts order words are)

-- what a near reading of words says of them
abbrev pub SaysOf : List ℕ → List (List ℕ) → Result Order Fault → Type 0
SaysOf first rest (Ok order) = AreWordsFor order (first ∷ rest) × HasSmallNumbers order
SaysOf first rest (Err NumberTooLarge) = (order : Order) × AreWordsFor order (first ∷ rest)
SaysOf first rest (Err other) = Unit {0}

-- an order whose parts have these values is spelt by their words
spelt_by_values : (row : Row) (first : List ℕ) (rest : List (List ℕ)) (values : List Value) (t : Trailing)
    → IsAmong row forms →
    same_word first (text_of_keyword row.keyword) ≡ true → AreValuesOf row.classes row.trailing_class rest values t →
    (order : Order) × (order_from row.keyword values t ≡ Some order) × (parts_of order ≡ made_of row.keyword values t)
    × AreWordsFor order (first ∷ rest)
spelt_by_values row first rest values t among same are =
    let fits : is_row_of row.keyword values t row ≡ true =
    and_from _ _ (same_word-self (text_of_keyword row.keyword)) are.of_classes in
    let formed_so : list_any (is_row_of row.keyword values t) forms ≡ true =
    any_among (is_row_of row.keyword values t) forms row among fits in
    let one = formed row.keyword values t formed_so in
    let texts : AreWordsByParts (made_of row.keyword values t) (first ∷ rest) =
    ((same_word-is first (text_of_keyword row.keyword) same, are.texts), formed_so) in (
      one.order,
      one.made,
      one.parts,
      of_parts one.order (first ∷ rest)
          (subst (λ (p : Option Parts). AreWordsByParts p (first ∷ rest)) (sym one.parts) texts),
    )

-- the order of values that were read
order_says : (row : Row) (first : List ℕ) (rest : List (List ℕ)) (read : Result (List Value × Trailing) Fault)
    → IsAmong row forms →
    same_word first (text_of_keyword row.keyword) ≡ true → ReadThus row.classes row.trailing_class rest read
    → SaysOf first rest (order_of_values row.keyword read)
order_says row first rest (Ok read) among same h =
    let one = spelt_by_values row first rest read.0 read.1 among same h.0 in
    rw (one.1, order_of_values) (one.3, small_of_parts one.0 (ap are_small one.2 ∙ h.1))
order_says row first rest (Err NumberTooLarge) among same h =
    let one = spelt_by_values row first rest h.0 h.1 among same h.2 in
    (one.0, one.3)
order_says row first rest (Err WrongWords) among same h = tt
order_says row first rest (Err other) among same h = absurd h

-- what words are read as by a form says of them
row_says : (row : Row) (first : List ℕ) (rest : List (List ℕ)) → IsAmong row forms
    → SaysOf first rest (row_reading row first rest)
row_says row first rest among =
    elim (cases_Bool (same_word first (text_of_keyword row.keyword))) [
      | inl same ↦ rw same (order_says row first rest (values_reading row.classes row.trailing_class rest) among same
          (values_made row.classes row.trailing_class rest))
      | inr different ↦ rw different tt
    ]

-- the nearer of two is one of them
pub nearer-is : (a b : Result Order Fault) → (nearer a b ≡ a) ⊎ (nearer a b ≡ b)
nearer-is a b =
    elim (nat_lt (nearness a) (nearness b)) as (λ t. (cond {A = Result Order Fault} t b a ≡ a)
    ⊎ (cond {A = Result Order Fault} t b a ≡ b)) [ true ↦ inr refl | false ↦ inl refl ]

-- what holds of the start and of each row's reading holds of the nearest
pub nearest_has : (P : Result Order Fault → Type 0) (rows : List Row) (first : List ℕ) (rest : List (List ℕ))
    (start : Result Order Fault) → P start →
    ((row : Row) → IsAmong row rows → P (row_reading row first rest)) → P (fold (with_row first rest) start rows)
nearest_has P [] first rest start begun each = begun
nearest_has P (row ∷ rows) first rest start begun each =
    let here : P (row_reading row first rest) = each row (inl refl) in
    let next : P (nearer start (row_reading row first rest)) =
    elim (nearer-is start (row_reading row first rest)) [
      | inl is ↦ subst P (sym is) begun
      | inr is ↦ subst P (sym is) here
    ] in
    nearest_has P rows first rest (nearer start (row_reading row first rest)) next
    (λ other among. each other (inr among))

-- what words are read as says of them
pub words_say : (first : List ℕ) (rest : List (List ℕ)) → SaysOf first rest (all_reading (first ∷ rest))
words_say first rest = nearest_has (SaysOf first rest) forms first rest (Err UnknownWord) tt
    (λ row among. row_says row first rest among)
