-- A line is read as an order exactly if it spells it.
use Rattle.std.proofs.Common.{◌≡◌, ℕ, true, ltb, inl, inr, List, [], ◌∷◌, Result, Ok, Err, length, sym, ◌∙◌}
use Rattle.std.specs.List.{list_all}
use Rattle.std.proofs.lemmas.Bool.{cases_Bool, le-ltb, ltb-false}
use Rattle.order_grammar.specs.Form.{Row, words_reading}
use Rattle.order_grammar.specs.Line.{reading_by}
use Rattle.order_grammar.specs.Order.{parts_of}
use Rattle.order_grammar.specs.Spells.{AreWordsFor, HasSmallNumbers, SpellsIn}
use Rattle.order_grammar.specs.Texts.{TextKind}
use Rattle.order_grammar.specs.Words.{before_comment, is_printable, words_of}
use Rattle.order_grammar.specs.declared.fault.Fault.{Fault}
use Rattle.order_grammar.specs.declared.fault.Fault.TheVariants.{TooLong, StrayByte, UnknownWord, NumberTooLarge}
use Rattle.order_grammar.specs.declared.order.Order.{Order}
use Rattle.order_grammar.specs.declared.order.Order.TheVariants.{Blank}
use Rattle.order_grammar.proofs.FormLemmas.{all_reading}
use Rattle.order_grammar.proofs.PartLemmas.{AreRowsOf, known_read, read_known}
use Rattle.order_grammar.proofs.RowLemmas.{words_for_read, words_say}
use Rattle.order_grammar.proofs.SmallLemmas.{are_small, small_by_parts, small_of_parts}

-- words that spell an order are read as it
pub spelt_words_read : (words : List (List ℕ)) (order : Order) → AreWordsFor order words → HasSmallNumbers order
    → all_reading words ≡ Ok order
spelt_words_read words order are small =
    let few : are_small (parts_of order) ≡ true = small_by_parts order small in
    let read = words_for_read words order are in
    rw few at read

-- except for a number, as too large
pub large_words_read : (words : List (List ℕ)) (order : Order) → AreWordsFor order words → (HasSmallNumbers order → ⊥) →
    all_reading words ≡ Err NumberTooLarge
large_words_read words order are large =
    elim (cases_Bool (are_small (parts_of order))) [
      | inl small ↦ absurd (large (small_of_parts order small))
      | inr many ↦
          let read = words_for_read words order are in
          rw many at read
    ]

-- words that are read as an order spell it
pub words_read_spell : (words : List (List ℕ)) (order : Order) → all_reading words ≡ Ok order
    → AreWordsFor order words × HasSmallNumbers order
words_read_spell [] order e =
    let blank : Blank ≡ order = cc in
    rw (← blank) (tt, tt)
words_read_spell (first ∷ rest) order e =
    let says = words_say first rest in
    rw e at says

-- a line that is read as an order by the forms of a text spells it there
pub read_spells : (text : TextKind) (rows : List Row) → AreRowsOf text rows → (line : List ℕ) (order : Order) →
    reading_by text.most rows line ≡ Ok order → SpellsIn text line order
read_spells text rows of line order e =
    elim (cases_Bool (ltb text.most (length line))) [
      | inl long ↦ let wrong : ◌≡◌ {A = Result Order Fault} (Err TooLong) (Ok order) = rw long at e in absurd cc
      | inr short ↦
          let rest = rw short at e in
          elim (cases_Bool (list_all is_printable (before_comment line))) [
            | inl printable ↦
                let read : words_reading rows (words_of line) ≡ Ok order = rw printable at rest in
                let known = read_known text rows (words_of line) of (λ unknown.
                let wrong : ◌≡◌ {A = Result Order Fault} (Err UnknownWord) (Ok order) = sym unknown ∙ read in cc) in
                let spelt = words_read_spell (words_of line) order
                (sym (known_read text rows (words_of line) of known) ∙ read) in
                record {
                  loosely = record {
                    short = ltb-false text.most (length line) short;
                    printable = printable;
                    known =
                        known;
                    words = spelt.0;
                  };
                  small = spelt.1;
                }
            | inr stray ↦ let wrong : ◌≡◌ {A = Result Order Fault} (Err StrayByte) (Ok order) =
                rw stray at rest in absurd cc
          ]
    ]

-- a line that spells an order in a text is read as it by its forms
pub spells_read : (text : TextKind) (rows : List Row) → AreRowsOf text rows → (line : List ℕ) (order : Order) →
    SpellsIn text line order → reading_by text.most rows line ≡ Ok order
spells_read text rows of line order is =
    let printable : list_all is_printable (before_comment line) ≡ true = is.loosely.printable in
    rw (le-ltb text.most (length line) is.loosely.short, printable)
    (known_read text rows (words_of line) of is.loosely.known
    ∙ spelt_words_read (words_of line) order is.loosely.words is.small)
