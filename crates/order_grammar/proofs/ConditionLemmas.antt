-- The words after IF: they are read as an order under a condition exactly if they spell it.
use Rattle.std.proofs.Common.{◌≡◌, ℕ, Bool, true, false, cond, nat_le, ◌&&◌, inl, inr, List, [], ◌∷◌, Some, Result, Ok}
use Rattle.std.proofs.Common.{Err, Contains, codes, refl, sym, ap, subst, ◌∙◌}
use Rattle.std.proofs.lemmas.Bool.{cases_Bool, le-leb, leb-true, false≢true}
use Rattle.tables.specs.Round.{number_most}
use Rattle.tables.specs.declared.rolling_stock.Kind.{Kind}
use Rattle.tables.specs.declared.roster.Company.{Company}
use Rattle.order_grammar.specs.Class.{class_reading, is_of_class}
use Rattle.order_grammar.specs.Condition.{Ordered, ordered, price_condition, condition_of, play_reading, under}
use Rattle.order_grammar.specs.Condition.{price_reading}
use Rattle.order_grammar.specs.Condition.{reading_of_one, conditional_reading, put_conditional, condition_if_read}
use Rattle.order_grammar.specs.Form.{play_forms, put_reading}
use Rattle.order_grammar.specs.Order.{parts_of}
use Rattle.order_grammar.specs.Spells.{IsCompany, IsKind, IsNumber, HasSmallNumbers}
use Rattle.order_grammar.specs.SpellsVersion.{AreOrderWords, AreConditionWords, HasSmallCondition, AreSmall}
use Rattle.order_grammar.specs.Texts.{play_words}
use Rattle.order_grammar.specs.Words.{same_word}
use Rattle.order_grammar.specs.declared.class.Class.TheVariants as class
use Rattle.order_grammar.specs.declared.class.Reading.{Reading}
use Rattle.order_grammar.specs.declared.class.Reading.TheVariants.{Value, TooLarge}
use Rattle.order_grammar.specs.declared.condition.Condition.{Condition}
use Rattle.order_grammar.specs.declared.condition.Condition.TheVariants.{Price, Phase, Floated}
use Rattle.order_grammar.specs.declared.fault.Fault.{Fault}
use Rattle.order_grammar.specs.declared.fault.Fault.TheVariants.{WrongWords, NumberTooLarge}
use Rattle.order_grammar.specs.declared.order.Order.{Order}
use Rattle.order_grammar.specs.declared.order.Value as values
use Rattle.order_grammar.specs.declared.order.Value.TheVariants as value
use Rattle.order_grammar.proofs.KeywordLemmas.{same_word-is}
use Rattle.order_grammar.proofs.OrderLemmas.{IsTextOf}
use Rattle.order_grammar.proofs.PartLemmas.{behind_condition, rows_of_play, known_read, unknown_read, known_or_other}
use Rattle.order_grammar.proofs.RowLemmas.{read_as, words_for_read, SaysOf, words_say}
use Rattle.order_grammar.proofs.SmallLemmas.{are_small}
use Rattle.order_grammar.proofs.TextLemmas.{value_read, large_value_read, ReadAs, class_read}

-- what is given where the order was put in its place is what the two readings are together
pub under_put : (condition : Result Condition Fault) (read : Result Unit Fault) (order : Order) →
    put_conditional (condition_if_read condition read) order ≡ under condition (put_reading read order)
under_put (Ok condition) (Ok done) order = refl
under_put (Ok condition) (Err NumberTooLarge) order = refl
under_put (Ok condition) (Err other) order = refl
under_put (Err NumberTooLarge) (Ok done) order = refl
under_put (Err NumberTooLarge) (Err NumberTooLarge) order = refl
under_put (Err NumberTooLarge) (Err other) order = refl
under_put (Err other) (Ok done) order = refl
under_put (Err other) (Err fault) order = refl

-- whether the number of a condition is small enough for a line
abbrev pub is_small_condition : Condition → Bool
is_small_condition (Price company price) = nat_le price number_most
is_small_condition other = true

pub small_condition : (condition : Condition) → HasSmallCondition (Some condition) → is_small_condition condition ≡ true
small_condition (Price company price) small = le-leb price number_most small
small_condition other small = refl

-- a condition that was read, or that its number is too large
abbrev condition_as : Condition → Bool → Result Condition Fault
condition_as condition small = cond small (Ok condition) (Err NumberTooLarge)

-- an order under a condition that was read, or that a number is too large
abbrev pub ordered_as : Ordered → Bool → Result Ordered Fault
ordered_as spelt small = cond small (Ok spelt) (Err NumberTooLarge)

under_as : (condition : Condition) (order : Order) (a b : Bool) →
    under (condition_as condition a) (read_as order b) ≡ ordered_as (ordered (Some condition) order) (a && b)
under_as condition order true true = refl
under_as condition order true false = refl
under_as condition order false true = refl
under_as condition order false false = refl

-- words after a condition that spell an order are read so
play_for_read : (words : List (List ℕ)) (order : Order) → AreOrderWords order words →
    play_reading words ≡ read_as order (are_small (parts_of order))
play_for_read [] order are = absurd are.0
play_for_read (first ∷ rest) order are =
    known_read behind_condition play_forms (first ∷ rest) rows_of_play are.0 ∙ words_for_read (first ∷ rest) order are.1

-- the words of a condition are read as it
price_for_read : (company : Company) (price : ℕ) (word number : List ℕ) → IsCompany company word →
    IsNumber price number →
    price_condition (class_reading class.Company word) (class_reading class.Number number)
    ≡ condition_as (Price company price) (nat_le price number_most)
price_for_read company price word number named counted =
    let first = value_read class.Company (value.Company company) word refl named refl in
    elim (cases_Bool (nat_le price number_most)) [
      | inl small ↦ rw (first, value_read class.Number (value.Number price) number refl counted small, small) refl
      | inr large ↦ rw (first, large_value_read class.Number (value.Number price) number refl counted large, large) refl
    ]

phase_for_read : (kind : Kind) (word : List ℕ) → IsKind kind word →
    condition_of (class_reading class.Kind word) ≡ Ok (Phase kind)
phase_for_read kind word named = ap condition_of (value_read class.Kind (value.Kind kind) word refl named refl)

floated_for_read : (company : Company) (word : List ℕ) → IsCompany company word →
    condition_of (class_reading class.Company word) ≡ Ok (Floated company)
floated_for_read company word named = ap condition_of
    (value_read class.Company (value.Company company) word refl named refl)

-- words after IF that spell an order under a condition, but that numbers may be too large, are read
-- so
pub condition_for_read : (condition : Condition) (order : Order) (words : List (List ℕ)) →
    AreConditionWords condition (AreOrderWords order) words →
    conditional_reading words ≡ ordered_as (ordered (Some condition) order)
    (is_small_condition condition && are_small (parts_of order))
condition_for_read (Price company price) order [] are = absurd are
condition_for_read (Price company price) order (first ∷ []) are = absurd are.1
condition_for_read (Price company price) order (first ∷ name ∷ []) are = absurd are.1.1
condition_for_read (Price company price) order (first ∷ name ∷ least ∷ []) are = absurd are.1.1.1
condition_for_read (Price company price) order (first ∷ name ∷ least ∷ number ∷ rest) are =
    let begins : first ≡ codes "PRICE" = are.0 in
    let sign : least ≡ codes ">=" = are.1.1.0 in
    rw (
      begins,
      sign,
      price_for_read company price name number are.1.0 are.1.1.1.0,
      play_for_read rest order are.1.1.1.1,
    )
    (under_as (Price company price) order (nat_le price number_most) (are_small (parts_of order)))
condition_for_read (Phase kind) order [] are = absurd are
condition_for_read (Phase kind) order (first ∷ []) are = absurd are.1
condition_for_read (Phase kind) order (first ∷ word ∷ rest) are =
    let begins : first ≡ codes "PHASE" = are.0 in
    rw (begins, phase_for_read kind word are.1.0, play_for_read rest order are.1.1)
    (under_as (Phase kind) order true (are_small (parts_of order)))
condition_for_read (Floated company) order [] are = absurd are
condition_for_read (Floated company) order (first ∷ []) are = absurd are.1
condition_for_read (Floated company) order (first ∷ word ∷ rest) are =
    let begins : first ≡ codes "FLOATED" = are.0 in
    rw (begins, floated_for_read company word are.1.0, play_for_read rest order are.1.1)
    (under_as (Floated company) order true (are_small (parts_of order)))

-- what a reading of words after a condition says of them
abbrev PlaySays : List (List ℕ) → Result Order Fault → Type 0
PlaySays words (Ok order) = AreOrderWords order words × HasSmallNumbers order
PlaySays words (Err NumberTooLarge) = (order : Order) × AreOrderWords order words
PlaySays words (Err other) = Unit {0}

play_by_all : (first : List ℕ) (rest : List (List ℕ)) (reading : Result Order Fault) → Contains play_words first →
    SaysOf first rest reading →
    PlaySays (first ∷ rest) reading
play_by_all first rest (Ok order) known says = ((known, says.0), says.1)
play_by_all first rest (Err NumberTooLarge) known says = (says.0, (known, says.1))
play_by_all first rest (Err other) known says = tt

play_says : (words : List (List ℕ)) → PlaySays words (play_reading words)
play_says [] = tt
play_says (first ∷ rest) =
    elim (known_or_other behind_condition play_forms (first ∷ rest) rows_of_play) [
      | inl known ↦
          subst (PlaySays (first ∷ rest)) (sym (known_read behind_condition play_forms (first ∷ rest) rows_of_play
          known))
          (play_by_all first rest _ known (words_say first rest))
      | inr other ↦ subst (PlaySays (first ∷ rest))
          (sym (unknown_read behind_condition play_forms (first ∷ rest) rows_of_play other)) tt
    ]

-- what a reading of a condition says of words, if these others come after it
abbrev PrefixSays : List (List ℕ) → List (List ℕ) → Result Condition Fault → Type 0
PrefixSays words rest (Ok condition) =
    ((order : Order) → AreOrderWords order rest → AreConditionWords condition (AreOrderWords order) words) ×
    HasSmallCondition (Some condition)
PrefixSays words rest (Err NumberTooLarge) =
    (condition : Condition) × ((order : Order) → AreOrderWords order rest →
    AreConditionWords condition (AreOrderWords order) words)
PrefixSays words rest (Err other) = Unit {0}

-- what a reading of the words after IF says of them
abbrev pub ConditionalSays : List (List ℕ) → Result Ordered Fault → Type 0
ConditionalSays words (Ok spelt) =
    (condition : Condition) × (spelt.condition ≡ Some condition) ×
    AreConditionWords condition (AreOrderWords spelt.order) words × AreSmall spelt
ConditionalSays words (Err NumberTooLarge) =
    (condition : Condition) × (order : Order) × AreConditionWords condition (AreOrderWords order) words
ConditionalSays words (Err WrongWords) = Unit {0}
ConditionalSays words (Err other) = ⊥

under_says : (words rest : List (List ℕ)) (prefix : Result Condition Fault) (behind : Result Order Fault) →
    PrefixSays words rest prefix → PlaySays rest behind →
    ConditionalSays words (under prefix behind)
under_says words rest (Ok condition) (Ok order) f s = (condition, refl, f.0 order s.0, (f.1, s.1))
under_says words rest (Ok condition) (Err NumberTooLarge) f s = (condition, s.0, f.0 s.0 s.1)
under_says words rest (Ok condition) (Err other) f s = tt
under_says words rest (Err NumberTooLarge) (Ok order) f s = (f.0, order, f.1 order s.0)
under_says words rest (Err NumberTooLarge) (Err NumberTooLarge) f s = (f.0, s.0, f.1 s.0 s.1)
under_says words rest (Err NumberTooLarge) (Err other) f s = tt
under_says words rest (Err other) (Ok order) f s = tt
under_says words rest (Err other) (Err fault) f s = tt

-- a value of the class of numbers is a number
a_number : (v : values.Value) → is_of_class class.Number v ≡ true → (number : ℕ) × (v ≡ value.Number number)
a_number (value.Number number) of = (number, refl)
a_number other of = absurd (false≢true of)

-- the words of a condition on a price
price_says : (first name least number : List ℕ) (rest : List (List ℕ)) (company price : Reading) →
    first ≡ codes "PRICE" → least ≡ codes ">=" →
    ReadAs class.Company name company → ReadAs class.Number number price →
    PrefixSays (first ∷ name ∷ least ∷ number ∷ rest) rest (price_condition company price)
price_says first name least number rest (Value (value.Company company)) (Value (value.Number price)) begins sign named
    counted =
    ((λ order are. (begins, (named.0.text_of, (sign, (counted.0.text_of, are))))), leb-true price number_most counted.1)
price_says first name least number rest (Value (value.Company company)) TooLarge begins sign named counted =
    let large = a_number counted.0 counted.1.of_class in
    let digits : IsTextOf (value.Number large.0) number =
    subst (λ (v : values.Value). IsTextOf v number) large.1 counted.1.text_of in
    (Price company large.0, λ order are. (begins, (named.0.text_of, (sign, (digits, are)))))
price_says first name least number rest company price begins sign named counted = tt

-- the word of a condition on the phase, and of one that a company has floated
phase_says : (first word : List ℕ) (rest : List (List ℕ)) (reading : Reading) → first ≡ codes "PHASE" →
    ReadAs class.Kind word reading →
    PrefixSays (first ∷ word ∷ rest) rest (condition_of reading)
phase_says first word rest (Value (value.Kind kind)) begins named =
    ((λ order are. (begins, (named.0.text_of, are))), tt)
phase_says first word rest (Value (value.Company company)) begins named = absurd (false≢true named.0.of_class)
phase_says first word rest other begins named = tt

floated_says : (first word : List ℕ) (rest : List (List ℕ)) (reading : Reading) → first ≡ codes "FLOATED" →
    ReadAs class.Company word reading →
    PrefixSays (first ∷ word ∷ rest) rest (condition_of reading)
floated_says first word rest (Value (value.Company company)) begins named =
    ((λ order are. (begins, (named.0.text_of, are))), tt)
floated_says first word rest (Value (value.Kind kind)) begins named = absurd (false≢true named.0.of_class)
floated_says first word rest other begins named = tt

-- what the words after IF are read as, by the first of them
price_read : (first : List ℕ) (words : List (List ℕ)) → first ≡ codes "PRICE" →
    ConditionalSays (first ∷ words) (price_reading words)
price_read first [] begins = tt
price_read first (name ∷ []) begins = tt
price_read first (name ∷ least ∷ []) begins = tt
price_read first (name ∷ least ∷ number ∷ rest) begins =
    elim (cases_Bool (same_word least (codes ">="))) [
      | inl same ↦
          let prefix =
          price_says first name least number rest (class_reading class.Company name)
          (class_reading class.Number number) begins (same_word-is least (codes ">=") same)
          (class_read class.Company name) (class_read class.Number number) in
          rw same (under_says (first ∷ name ∷ least ∷ number ∷ rest) rest _ (play_reading rest) prefix (play_says rest))
      | inr other ↦ rw other tt
    ]

phase_read : (first : List ℕ) (words : List (List ℕ)) → first ≡ codes "PHASE" →
    ConditionalSays (first ∷ words) (reading_of_one class.Kind words)
phase_read first [] begins = tt
phase_read first (word ∷ rest) begins =
    let prefix = phase_says first word rest (class_reading class.Kind word) begins (class_read class.Kind word) in
    under_says (first ∷ word ∷ rest) rest _ (play_reading rest) prefix (play_says rest)

floated_read : (first : List ℕ) (words : List (List ℕ)) → first ≡ codes "FLOATED" →
    ConditionalSays (first ∷ words) (reading_of_one class.Company words)
floated_read first [] begins = tt
floated_read first (word ∷ rest) begins =
    let prefix = floated_says first word rest (class_reading class.Company word) begins (class_read class.Company word)
    in
    under_says (first ∷ word ∷ rest) rest _ (play_reading rest) prefix (play_says rest)

-- what the words after IF are read as says of them
pub conditional_says : (words : List (List ℕ)) → ConditionalSays words (conditional_reading words)
conditional_says [] = tt
conditional_says (first ∷ words) =
    elim (cases_Bool (same_word first (codes "PRICE"))) [
      | inl same ↦ rw same (price_read first words (same_word-is first (codes "PRICE") same))
      | inr other ↦
          elim (cases_Bool (same_word first (codes "PHASE"))) [
            | inl same ↦ rw (other, same) (phase_read first words (same_word-is first (codes "PHASE") same))
            | inr neither ↦
                elim (cases_Bool (same_word first (codes "FLOATED"))) [
                  | inl same ↦ rw (other, neither, same) (floated_read first words
                      (same_word-is first (codes "FLOATED") same))
                  | inr none ↦ rw (other, neither, none) tt
                ]
          ]
    ]
