-- Which fault a line has by itself: the first of five that applies. This says it without the table
-- of forms.
use Rattle.std.specs.Prelude.{ℕ, ◌<◌, IsTrue, List, [], ◌∷◌, length, Any, Contains}
use Rattle.order_grammar.specs.Spells.{LooselySpellsIn, SpellsIn}
use Rattle.order_grammar.specs.Texts.{TextKind, order_file}
use Rattle.order_grammar.specs.Words.{words_of, before_comment, is_printable}
use Rattle.order_grammar.specs.declared.fault.Fault.{Fault}
use Rattle.order_grammar.specs.declared.fault.Fault.TheVariants.{TooLong, StrayByte, UnknownWord, WrongWords}
use Rattle.order_grammar.specs.declared.fault.Fault.TheVariants.{NumberTooLarge}
use Rattle.order_grammar.specs.declared.order.Order.{Order}

-- the line has too many bytes for the text
abbrev pub IsTooLong : TextKind → List ℕ → Type 0
IsTooLong text line = text.most < length line

-- a byte before its comment is not printable
abbrev pub HasStrayByte : List ℕ → Type 0
HasStrayByte line = Any (λ byte. ¬ IsTrue (is_printable byte)) (before_comment line)

-- there is a first word, and it is none of these
abbrev pub BeginWithOther : List (List ℕ) → List (List ℕ) → Type 0
BeginWithOther known [] = ⊥
BeginWithOther known (first ∷ rest) = ¬ Contains known first

-- the line's first word is of no form of the text
abbrev pub HasUnknownWord : TextKind → List ℕ → Type 0
HasUnknownWord text line = BeginWithOther text.first_words (words_of line)

-- the line would spell an order if numbers had no greatest value
abbrev pub IsLooselySpelt : TextKind → List ℕ → Type 0
IsLooselySpelt text line = (order : Order) × LooselySpellsIn text line order

-- the line spells an order
abbrev pub IsSpelt : TextKind → List ℕ → Type 0
IsSpelt text line = (order : Order) × SpellsIn text line order

-- the fault that the line of a text has: it applies, and none of those before it does
abbrev pub IsFaultIn : TextKind → List ℕ → Fault → Type 0
IsFaultIn text line TooLong = IsTooLong text line
IsFaultIn text line StrayByte = ¬ IsTooLong text line × HasStrayByte line
IsFaultIn text line UnknownWord = ¬ IsTooLong text line × ¬ HasStrayByte line × HasUnknownWord text line
IsFaultIn text line WrongWords =
    ¬ IsTooLong text line × ¬ HasStrayByte line × ¬ HasUnknownWord text line × ¬ IsLooselySpelt text line
IsFaultIn text line NumberTooLarge =
    ¬ IsTooLong text line × ¬ HasStrayByte line × ¬ HasUnknownWord text line × IsLooselySpelt text line
    × ¬ IsSpelt text line
IsFaultIn text line other = ⊥

-- the fault that the line of an order file has
abbrev pub IsFaultOf : List ℕ → Fault → Type 0
IsFaultOf line fault = IsFaultIn order_file line fault
