-- Words are read as values by a row exactly if they are texts of those values.
use Rattle.std.proofs.Common.{◌≡◌, ℕ, Bool, true, false, cond, inl, inr, List, [], ◌∷◌, Option, Some, None, length, map}
use Rattle.std.proofs.Common.{Result, Ok, Err, refl, sym, ap, ◌∙◌}
use Rattle.std.specs.Option.{option_map}
use Rattle.std.specs.List.{list_all}
use Rattle.std.proofs.lemmas.Bool.{cases_Bool, and_parts, and_from, and_left, and_right, false≢true}
use Rattle.std.proofs.lemmas.List.{length-map}
use Rattle.std.proofs.lemmas.Option.{same_Some}
use Rattle.map_tables.specs.Text.{place_of_text, text_of_place}
use Rattle.map_tables.specs.declared.place.Place.{Place}
use Rattle.map_tables.proofs.Texts.{texts_read}
use Rattle.order_grammar.specs.Class.{class_reading, is_of_class}
use Rattle.order_grammar.specs.Form.{are_names, is_run_length, places_reading, with_place, trailing_reading, with_value}
use Rattle.order_grammar.specs.Form.{values_reading, is_of_trailing_class, are_of_classes}
use Rattle.order_grammar.specs.declared.class.Class.{Class}
use Rattle.order_grammar.specs.declared.class.Reading.{Reading}
use Rattle.order_grammar.specs.declared.class.Reading.TheVariants.{Value, TooLarge, Wrong}
use Rattle.order_grammar.specs.declared.fault.Fault.{Fault}
use Rattle.order_grammar.specs.declared.fault.Fault.TheVariants.{WrongWords, NumberTooLarge}
use Rattle.order_grammar.specs.declared.form.TrailingClass.{TrailingClass}
use Rattle.order_grammar.specs.declared.form.TrailingClass.TheVariants as trailing_class
use Rattle.order_grammar.specs.declared.order.Trailing.{Trailing}
use Rattle.order_grammar.specs.declared.order.Trailing.TheVariants as trailing
use Rattle.order_grammar.specs.declared.order.Value as values
use Rattle.order_grammar.proofs.OrderLemmas.{AreTextsOf, AreWordsOfTrailing}
use Rattle.order_grammar.proofs.SmallLemmas.{is_small}
use Rattle.order_grammar.proofs.TextLemmas.{value_read, large_value_read, IsValueOf, ReadAs, class_read}

-- the words of places are read as them
places_again : (run : List Place) → places_reading (map text_of_place run) ≡ Some run
places_again [] = refl
places_again (place ∷ run) =
    let first : place_of_text (text_of_place place) ≡ Some place =
    (texts_read.places (text_of_place place) place).1 refl in
    rw (first, places_again run) refl

-- words that each name a place are those of the places
named_by : (word : List ℕ) (words : List (List ℕ)) (first : Option Place) (rest : Option (List Place))
    (run : List Place) → place_of_text word ≡ first →
    ((places : List Place) → rest ≡ Some places → words ≡ map text_of_place places) → with_place first rest ≡ Some run
    → word ∷ words ≡ map text_of_place run
named_by word words (Some place) (Some places) run is others e =
    ap (λ (w : List ℕ). w ∷ words) ((texts_read.places word place).0 is)
    ∙ ap (λ (ws : List (List ℕ)). text_of_place place ∷ ws) (others places refl)
    ∙ ap (map text_of_place) (same_Some (place ∷ places) run e)
named_by word words (Some place) None run is others e = absurd cc
named_by word words None rest run is others e = absurd cc

places_named : (words : List (List ℕ)) (run : List Place) → places_reading words ≡ Some run
    → words ≡ map text_of_place run
places_named [] run e = ap (map text_of_place) (same_Some [] run e)
places_named (word ∷ words) run e = named_by word words (place_of_text word) (places_reading words) run refl
    (λ places is. places_named words places is) e

-- as many words as places
as_many : (run : List Place) (words : List (List ℕ)) → words ≡ map text_of_place run
    → is_run_length (length words) ≡ is_run_length (length run)
as_many run words is = ap (λ (ws : List (List ℕ)). is_run_length (length ws)) is
    ∙ ap is_run_length (length-map run text_of_place)

-- the words of what is repeated are read as it
trailing_read : (r : TrailingClass) (t : Trailing) (words : List (List ℕ)) → is_of_trailing_class r t ≡ true →
    AreWordsOfTrailing t words
    → trailing_reading r words ≡ Some t
trailing_read trailing_class.Nothing trailing.Nothing [] of is = refl
trailing_read trailing_class.Nothing trailing.Nothing (word ∷ words) of is = absurd is
trailing_read (trailing_class.Names least most) (trailing.Names names) words of is =
    let named : are_names least most words ≡ true = ap (are_names least most) is ∙ of in
    rw named (ap (λ (all : List (List ℕ)). Some (trailing.Names (record { items = all }))) is)
trailing_read trailing_class.Places (trailing.Places run) words of is =
    let counted : is_run_length (length words) ≡ true = as_many run words is ∙ of in
    let named : places_reading words ≡ Some run = ap places_reading is ∙ places_again run in
    rw (counted, named) refl
trailing_read r t words of is = absurd (false≢true of)

-- values, or that a number is too large
abbrev pub sized : List values.Value → Trailing → Bool → Result (List values.Value × Trailing) Fault
sized made t small = cond small (Ok (made, t)) (Err NumberTooLarge)

-- a value before others
sized-value : (v : values.Value) (made : List values.Value) (t : Trailing) (small : Bool)
    → with_value (Value v) (sized made t small) ≡ sized (v ∷ made) t small
sized-value v made t true = refl
sized-value v made t false = refl

sized-large : (made : List values.Value) (t : Trailing) (small : Bool)
    → with_value TooLarge (sized made t small) ≡ Err NumberTooLarge
sized-large made t true = refl
sized-large made t false = refl

-- texts of values of the row are read as them
pub values_read : (classes : List Class) (r : TrailingClass) (made : List values.Value) (t : Trailing)
    (words : List (List ℕ))
    → are_of_classes classes r made t ≡ true →
    AreTextsOf made t words → values_reading classes r words ≡ sized made t (list_all is_small made)
values_read [] r [] t words of are = rw (trailing_read r t words of are, values_reading) refl
values_read [] r (v ∷ made) t words of are = absurd (false≢true of)
values_read (c ∷ classes) r [] t words of are = absurd (false≢true of)
values_read (c ∷ classes) r (v ∷ made) t [] of are = absurd are
values_read (c ∷ classes) r (v ∷ made) t (word ∷ words) of are =
    let both = and_parts (is_of_class c v) (are_of_classes classes r made t) of in
    let rest = values_read classes r made t words both.1 are.1 in
    elim (cases_Bool (is_small v)) [
      | inl small ↦ rw (value_read c v word both.0 are.0 small, rest, small)
          (sized-value v made t (list_all is_small made))
      | inr large ↦ rw (large_value_read c v word both.0 are.0 large, rest, large)
          (sized-large made t (list_all is_small made))
    ]

-- values of the row, whose texts the words are
pub record AreValuesOf (classes : List Class) (r : TrailingClass) (words : List (List ℕ)) (made : List values.Value)
    (t : Trailing) : Type 0 where
  pub of_classes : are_of_classes classes r made t ≡ true
  pub texts : AreTextsOf made t words

-- what a reading of words says of them; words are never unknown after the first
abbrev pub ReadThus : List Class → TrailingClass → List (List ℕ) → Result (List values.Value × Trailing) Fault → Type 0
ReadThus classes r words (Ok read) = AreValuesOf classes r words read.0 read.1 × (list_all is_small read.0 ≡ true)
ReadThus classes r words (Err NumberTooLarge) =
    (made : List values.Value) × (t : Trailing) × AreValuesOf classes r words made t × (list_all is_small made ≡ false)
ReadThus classes r words (Err WrongWords) = Unit {0}
ReadThus classes r words (Err other) = ⊥

-- one more value of the row
one_more : (c : Class) (classes : List Class) (r : TrailingClass) (word : List ℕ) (words : List (List ℕ))
    (v : values.Value) (made : List values.Value) (t : Trailing) →
    IsValueOf c word v → AreValuesOf classes r words made t → AreValuesOf (c ∷ classes) r (word ∷ words) (v ∷ made) t
one_more c classes r word words v made t first rest = record {
  of_classes = and_from (is_of_class c v) (are_of_classes classes r made t) first.of_class rest.of_classes;
  texts = (first.text_of, rest.texts);
}

with_value_read : (c : Class) (classes : List Class) (r : TrailingClass) (word : List ℕ) (words : List (List ℕ))
    (first : Reading) (rest : Result (List values.Value × Trailing) Fault) →
    ReadAs c word first → ReadThus classes r words rest
    → ReadThus (c ∷ classes) r (word ∷ words) (with_value first rest)
with_value_read c classes r word words Wrong rest f s = tt
with_value_read c classes r word words TooLarge (Ok read) f s = (
  f.0 ∷ read.0,
  read.1,
  one_more c classes r word words f.0 read.0 read.1 f.1 s.0,
  and_left (is_small f.0)
      (list_all is_small read.0) f.2,
)
with_value_read c classes r word words TooLarge (Err NumberTooLarge) f s = (
  f.0 ∷ s.0,
  s.1,
  one_more c classes r word words f.0 s.0 s.1 f.1 s.2,
  and_left (is_small f.0)
      (list_all is_small s.0) f.2,
)
with_value_read c classes r word words TooLarge (Err WrongWords) f s = tt
with_value_read c classes r word words TooLarge (Err other) f s = absurd s
with_value_read c classes r word words (Value v) (Ok read) f s =
    (one_more c classes r word words v read.0 read.1 f.0 s.0, and_from (is_small v) (list_all is_small read.0) f.1 s.1)
with_value_read c classes r word words (Value v) (Err NumberTooLarge) f s = (
  v ∷ s.0,
  s.1,
  one_more c classes r word words v s.0 s.1 f.0 s.2,
  and_right (is_small v) (list_all is_small s.0)
      s.3,
)
with_value_read c classes r word words (Value v) (Err WrongWords) f s = tt
with_value_read c classes r word words (Value v) (Err other) f s = absurd s

-- names at the end
names_made : (least most : ℕ) (words : List (List ℕ)) (named : Bool) → are_names least most words ≡ named →
    ReadThus [] (trailing_class.Names least most) words (elim
    (cond named (Some (trailing.Names (record { items = words }))) None)
    [ Some t ↦ Ok ([], t) | None ↦ Err WrongWords ])
names_made least most words true e = (record { of_classes = e; texts = refl }, refl)
names_made least most words false e = tt

-- places at the end
places_made : (words : List (List ℕ)) (found : Option (List Place)) → places_reading words ≡ found
    → is_run_length (length words) ≡ true →
    ReadThus [] trailing_class.Places words (elim (option_map trailing.Places found)
    [ Some t ↦ Ok ([], t) | None ↦ Err WrongWords ])
places_made words (Some run) e counted =
    let named = places_named words run e in
    (record { of_classes = sym (as_many run words named) ∙ counted; texts = named }, refl)
places_made words None e counted = tt

run_made : (words : List (List ℕ)) (counted : Bool) → is_run_length (length words) ≡ counted →
    ReadThus [] trailing_class.Places words
    (elim (option_map trailing.Places (cond counted (places_reading words) None))
    [ Some t ↦ Ok ([], t) | None ↦ Err WrongWords ])
run_made words true e = places_made words (places_reading words) refl e
run_made words false e = tt

-- words that are read as what is repeated
trailing_made : (r : TrailingClass) (words : List (List ℕ)) → ReadThus [] r words (values_reading [] r words)
trailing_made trailing_class.Nothing [] = (record { of_classes = refl; texts = tt }, refl)
trailing_made trailing_class.Nothing (word ∷ words) = tt
trailing_made (trailing_class.Names least most) words = names_made least most words (are_names least most words) refl
trailing_made trailing_class.Places words = run_made words (is_run_length (length words)) refl

-- what words are read as says of them
pub values_made : (classes : List Class) (r : TrailingClass) (words : List (List ℕ))
    → ReadThus classes r words (values_reading classes r words)
values_made [] r words = trailing_made r words
values_made (c ∷ classes) r [] = tt
values_made (c ∷ classes) r (word ∷ words) =
    with_value_read c classes r word words (class_reading c word) (values_reading classes r words) (class_read c word)
    (values_made classes r words)
