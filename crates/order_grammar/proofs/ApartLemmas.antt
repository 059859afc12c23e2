-- Words that fit one form fit no other. Two forms that begin with the same word differ in the
-- number of their words, or in one place. There one has a literal word that is no text of the
-- other's class.
use Rattle.std.proofs.Common.{◌≡◌, ℕ, ◌≤◌, Bool, true, false, ◌&&◌, ◌||◌, not, inl, inr, ◌⊎◌, List, [], ◌∷◌, Result}
use Rattle.std.proofs.Common.{Err, refl, sym, ap, ◌∙◌, arith}
use Rattle.std.specs.List.{list_all}
use Rattle.std.proofs.lemmas.Bool.{cases_Bool, or_cases, false≢true}
use Rattle.order_grammar.specs.Class.{class_reading}
use Rattle.order_grammar.specs.Form.{Row, forms, with_value, values_reading, nearness, row_reading}
use Rattle.order_grammar.specs.Keyword.{text_of_keyword}
use Rattle.order_grammar.specs.Words.{same_word}
use Rattle.order_grammar.specs.declared.class.Class.{Class}
use Rattle.order_grammar.specs.declared.class.Class.TheVariants as class
use Rattle.order_grammar.specs.declared.class.Reading.{Reading}
use Rattle.order_grammar.specs.declared.class.Reading.TheVariants.{Value, TooLarge, Wrong}
use Rattle.order_grammar.specs.declared.fault.Fault.{Fault}
use Rattle.order_grammar.specs.declared.fault.Fault.TheVariants.{WrongWords}
use Rattle.order_grammar.specs.declared.form.TrailingClass.{TrailingClass}
use Rattle.order_grammar.specs.declared.form.TrailingClass.TheVariants as trailing_class
use Rattle.order_grammar.specs.declared.order.Order.{Order}
use Rattle.order_grammar.specs.declared.order.Trailing.{Trailing}
use Rattle.order_grammar.specs.declared.order.Value as values
use Rattle.order_grammar.proofs.KeywordLemmas.{same_word-is}

abbrev pub is_wrong : Reading → Bool
is_wrong Wrong = true
is_wrong other = false

-- whether no word is a text of both classes
abbrev pub are_classes_apart : Class → Class → Bool
are_classes_apart (class.Word k) c = is_wrong (class_reading c (text_of_keyword k))
are_classes_apart c (class.Word k) = is_wrong (class_reading c (text_of_keyword k))
are_classes_apart c other = false

-- whether no words fit both
abbrev pub are_shapes_apart : List Class → TrailingClass → List Class → TrailingClass → Bool
are_shapes_apart (c ∷ classes) r (other ∷ others) s = are_classes_apart c other || are_shapes_apart classes r others s
are_shapes_apart [] trailing_class.Nothing (other ∷ others) s = true
are_shapes_apart (c ∷ classes) r [] trailing_class.Nothing = true
are_shapes_apart classes r others s = false

-- whether no line fits both rows
abbrev pub are_rows_apart : Row → Row → Bool
are_rows_apart row other =
    not (same_word (text_of_keyword row.keyword) (text_of_keyword other.keyword))
    || are_shapes_apart row.classes row.trailing_class other.classes other.trailing_class

-- whether no line fits two of the rows
abbrev pub are_all_apart : List Row → Bool
are_all_apart [] = true
are_all_apart (row ∷ rows) = list_all (are_rows_apart row) rows && are_all_apart rows

-- the forms are apart
pub forms_apart : are_all_apart forms ≡ true
forms_apart = refl

-- what is wrong
is_wrong-is : (reading : Reading) → is_wrong reading ≡ true → reading ≡ Wrong
is_wrong-is Wrong e = refl
is_wrong-is other e = absurd (false≢true e)

-- a word that is no text of a class, where it is the literal word
literal_apart : (k_text word : List ℕ) (c : Class) → is_wrong (class_reading c k_text) ≡ true
    → same_word word k_text ≡ true → class_reading c word ≡ Wrong
literal_apart k_text word c wrong same = ap (class_reading c) (same_word-is word k_text same)
    ∙ is_wrong-is (class_reading c k_text) wrong

classes_apart : (c other : Class) (word : List ℕ) → are_classes_apart c other ≡ true
    → (class_reading c word ≡ Wrong) ⊎ (class_reading other word ≡ Wrong)
classes_apart (class.Word k) other word apart =
    elim (cases_Bool (same_word word (text_of_keyword k))) [
      | inl same ↦ inr (literal_apart (text_of_keyword k) word other apart same)
      | inr different ↦ inl (rw different refl)
    ]
classes_apart c (class.Word k) word apart =
    elim (cases_Bool (same_word word (text_of_keyword k))) [
      | inl same ↦ inl (literal_apart (text_of_keyword k) word c apart same)
      | inr different ↦ inr (rw different refl)
    ]
classes_apart c other word apart = absurd (false≢true apart)

-- no word mends words that fit no form
spoilt : (first : Reading) → with_value first (Err WrongWords) ≡ Err WrongWords
spoilt Wrong = refl
spoilt TooLarge = refl
spoilt (Value v) = refl

-- words that fit no shape
abbrev DoNotFit : List Class → TrailingClass → List (List ℕ) → Type 0
DoNotFit classes r words = ◌≡◌ {A = Result (List values.Value × Trailing) Fault} (values_reading classes r words)
    (Err WrongWords)

wrong_first : (c : Class) (classes : List Class) (r : TrailingClass) (word : List ℕ) (words : List (List ℕ))
    → class_reading c word ≡ Wrong →
    DoNotFit (c ∷ classes) r (word ∷ words)
wrong_first c classes r word words wrong = rw wrong refl

wrong_later : (c : Class) (classes : List Class) (r : TrailingClass) (word : List ℕ) (words : List (List ℕ))
    → DoNotFit classes r words →
    DoNotFit (c ∷ classes) r (word ∷ words)
wrong_later c classes r word words wrong = rw wrong (spoilt (class_reading c word))

shapes_apart : (classes : List Class) (r : TrailingClass) (others : List Class) (s : TrailingClass)
    (words : List (List ℕ))
    → are_shapes_apart classes r others s ≡ true →
    DoNotFit classes r words ⊎ DoNotFit others s words
shapes_apart (c ∷ classes) r (other ∷ others) s [] apart = inl refl
shapes_apart (c ∷ classes) r (other ∷ others) s (word ∷ words) apart =
    elim (or_cases (are_classes_apart c other) (are_shapes_apart classes r others s) apart) [
      | inl here ↦
          elim (classes_apart c other word here) [
            | inl wrong ↦ inl (wrong_first c classes r word words wrong)
            | inr wrong ↦ inr (wrong_first other others s word words wrong)
          ]
      | inr later ↦
          elim (shapes_apart classes r others s words later) [
            | inl wrong ↦ inl (wrong_later c classes r word words wrong)
            | inr wrong ↦ inr (wrong_later other others s word words wrong)
          ]
    ]
shapes_apart [] trailing_class.Nothing (other ∷ others) s [] apart = inr refl
shapes_apart [] trailing_class.Nothing (other ∷ others) s (word ∷ words) apart = inl refl
shapes_apart (c ∷ classes) r [] trailing_class.Nothing [] apart = inl refl
shapes_apart (c ∷ classes) r [] trailing_class.Nothing (word ∷ words) apart = inr refl
shapes_apart classes r others s words apart = absurd (false≢true apart)

-- an order, or what would be one except for a number
abbrev pub IsNear : Result Order Fault → Type 0
IsNear reading = 2 ≤ nearness reading

-- words that do not fit a row are not near by it
far : (row : Row) (first : List ℕ) (rest : List (List ℕ))
    → (same_word first (text_of_keyword row.keyword) ≡ false) ⊎ DoNotFit row.classes row.trailing_class rest →
    nearness (row_reading row first rest) ≤ 1
far row first rest (inl different) = rw different (omega arith)
far row first rest (inr wrong) =
    elim (cases_Bool (same_word first (text_of_keyword row.keyword))) [
      | inl same ↦ rw (same, wrong) (omega arith)
      | inr different ↦ rw different (omega arith)
    ]

-- where words are near by a row, they are not by one that is apart
pub rows_apart : (row other : Row) (first : List ℕ) (rest : List (List ℕ)) → are_rows_apart row other ≡ true
    → IsNear (row_reading row first rest) →
    nearness (row_reading other first rest) ≤ 1
rows_apart row other first rest apart near =
    elim (cases_Bool (same_word first (text_of_keyword other.keyword))) [
      | inr different ↦ far other first rest (inl different)
      | inl same' ↦
          elim (cases_Bool (same_word first (text_of_keyword row.keyword))) [
            | inr different ↦ absurd (omega (arith, near, far row first rest (inl different)))
            | inl same ↦
                let keywords : same_word (text_of_keyword row.keyword) (text_of_keyword other.keyword) ≡ true =
                ap (λ (word : List ℕ). same_word word (text_of_keyword other.keyword))
                (sym (same_word-is first (text_of_keyword row.keyword) same)) ∙ same' in
                let shapes : are_shapes_apart row.classes row.trailing_class other.classes other.trailing_class ≡ true =
                rw keywords at apart in
                elim (shapes_apart row.classes row.trailing_class other.classes other.trailing_class rest shapes) [
                  | inl wrong ↦ absurd (omega (arith, near, far row first rest (inr wrong)))
                  | inr wrong ↦ far other first rest (inr wrong)
                ]
          ]
    ]
