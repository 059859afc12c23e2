-- The words of a line of version 2 as the code takes them, one after another.
use Rattle.std.proofs.Common.{◌≡◌, ℕ, true, false, List, ◌∷◌, Option, Some, Result, refl, sym, ap, ◌∙◌}
use Rattle.order_grammar.specs.Class.{class_reading}
use Rattle.order_grammar.specs.Condition.{price_condition, condition_of, play_reading, under, price_reading}
use Rattle.order_grammar.specs.Condition.{reading_of_one}
use Rattle.order_grammar.specs.Condition.{conditional_reading, ordered_reading, unconditional, put_conditional}
use Rattle.order_grammar.specs.Condition.{condition_if_read}
use Rattle.order_grammar.specs.Form.{Row, order_forms, play_forms, rows_reading, put_reading}
use Rattle.order_grammar.specs.Keyword.{text_of_keyword}
use Rattle.order_grammar.specs.Token.{GivesFirst}
use Rattle.order_grammar.specs.Words.{Placed, raised, same_word, texts_of}
use Rattle.order_grammar.specs.declared.class.Class.{Class}
use Rattle.order_grammar.specs.declared.class.Class.TheVariants as class
use Rattle.order_grammar.specs.declared.condition.Condition.{Condition}
use Rattle.order_grammar.specs.declared.fault.Fault.{Fault}
use Rattle.order_grammar.specs.declared.keyword.Keyword.TheVariants as keyword
use Rattle.order_grammar.specs.declared.order.Order.{Order}
use Rattle.order_grammar.specs.declared.words.Token.{Token}
use Rattle.order_grammar.proofs.ConditionLemmas.{under_put}
use Rattle.order_grammar.proofs.WordLemmas.{next_words}

-- a line that begins with another word than IF
plain_words : (words rest : List (List ℕ)) (first : List ℕ) → words ≡ first ∷ rest →
    same_word first (text_of_keyword keyword.If) ≡ false →
    ordered_reading words ≡ unconditional (rows_reading order_forms first rest)
plain_words words rest first is other = ap ordered_reading is ∙ rw other refl

pub plain_read : (all words left : List Placed) (given : Option Token) (first : Token) (rows : List Row)
    (found : Result Order Fault) → words ≡ all →
    GivesFirst words given left → given ≡ Some first →
    same_word (raised first.text.now) (text_of_keyword keyword.If) ≡ false → rows ≡ order_forms →
    found ≡ rows_reading rows (raised first.text.now) (texts_of left) →
    unconditional found ≡ ordered_reading (texts_of all)
plain_read all words left given first rows found same gives is other are by =
    ap unconditional (by ∙ ap (λ (r : List Row). rows_reading r (raised first.text.now) (texts_of left)) are)
    ∙ sym (plain_words (texts_of words) (texts_of left) (raised first.text.now)
    (next_words words left given first gives is) other)
    ∙ ap (λ (ws : List Placed). ordered_reading (texts_of ws)) same

-- the words after IF, by the first of them
pub price_next : (words rest : List (List ℕ)) (first : List ℕ) → words ≡ first ∷ rest →
    same_word first (text_of_keyword keyword.Price) ≡ true →
    price_reading rest ≡ conditional_reading words
price_next words rest first is price = sym (ap conditional_reading is ∙ rw price refl)

pub phase_next : (words rest : List (List ℕ)) (first : List ℕ) → words ≡ first ∷ rest →
    same_word first (text_of_keyword keyword.Price) ≡ false →
    same_word first (text_of_keyword keyword.Phase) ≡ true → reading_of_one class.Kind rest ≡ conditional_reading words
phase_next words rest first is other phase = sym (ap conditional_reading is ∙ rw (other, phase) refl)

pub floated_next : (words rest : List (List ℕ)) (first : List ℕ) → words ≡ first ∷ rest →
    same_word first (text_of_keyword keyword.Price) ≡ false →
    same_word first (text_of_keyword keyword.Phase) ≡ false → same_word first (text_of_keyword keyword.Floated) ≡ true →
    reading_of_one class.Company rest ≡ conditional_reading words
floated_next words rest first is other neither floated =
    sym (ap conditional_reading is ∙ rw (other, neither, floated) refl)

-- the words of a condition on a price
pub price_words : (words after_name after_sign rest : List (List ℕ)) (name sign price : List ℕ) →
    words ≡ name ∷ after_name → after_name ≡ sign ∷ after_sign →
    after_sign ≡ price ∷ rest → same_word sign (text_of_keyword keyword.AtLeast) ≡ true →
    under (price_condition (class_reading class.Company name) (class_reading class.Number price)) (play_reading rest)
    ≡ price_reading words
price_words words after_name after_sign rest name sign price a b d same =
    sym
    (ap price_reading (a ∙ ap (λ (ws : List (List ℕ)). name ∷ ws) (b ∙ ap (λ (ws : List (List ℕ)). sign ∷ ws) d))
    ∙ rw same refl)

-- the word of another condition
pub one_word : (c : Class) (words rest : List (List ℕ)) (word : List ℕ) → words ≡ word ∷ rest →
    under (condition_of (class_reading c word)) (play_reading rest) ≡ reading_of_one c words
one_word c words rest word is = sym (ap (reading_of_one c) is)

-- the words after a condition
pub under_read : (condition : Result Condition Fault) (all words left : List Placed) (given : Option Token)
    (first : Token) (rows : List Row)
    (read : Result Unit Fault) (order : Order) → words ≡ all → GivesFirst words given left → given ≡ Some first →
    rows ≡ play_forms →
    put_reading read order ≡ rows_reading rows (raised first.text.now) (texts_of left) →
    put_conditional (condition_if_read condition read) order ≡ under condition (play_reading (texts_of all))
under_read condition all words left given first rows read order same gives is are by =
    let found : put_reading read order ≡ play_reading (texts_of words) =
    by ∙ ap (λ (r : List Row). rows_reading r (raised first.text.now) (texts_of left)) are
    ∙ sym (ap play_reading (next_words words left given first gives is)) in
    under_put condition read order ∙ ap (under condition)
    (found ∙ ap (λ (ws : List Placed). play_reading (texts_of ws)) same)
