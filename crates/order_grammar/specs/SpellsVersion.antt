-- Which lines of a file of some version spell which orders under which conditions, each form of
-- condition by itself. Also which orders have a spelling under a condition, and which fault a line
-- has by itself.
use Rattle.std.specs.Prelude.{⊤, ℕ, ◌≤◌, IsTrue, List, [], ◌∷◌, length, codes, Contains, Option, Some, None}
use Rattle.std.specs.List.{list_all}
use Rattle.tables.specs.Round.{number_most}
use Rattle.order_grammar.specs.Condition.{Ordered}
use Rattle.order_grammar.specs.Limits.{line_most}
use Rattle.order_grammar.specs.LineFault.{BeginWithOther, HasStrayByte, IsTooLong}
use Rattle.order_grammar.specs.Print.{conditional_spelling, words_of_order}
use Rattle.order_grammar.specs.Spells.{AreWordsFor, BeginWithOneOf, HasSmallNumbers, HasSpelling, IsCompany, IsKind}
use Rattle.order_grammar.specs.Spells.{IsNumber, IsOrder, IsWord, Then}
use Rattle.order_grammar.specs.Texts.{order_file, play_words}
use Rattle.order_grammar.specs.Words.{words_of, before_comment, is_printable}
use Rattle.order_grammar.specs.declared.condition.Condition.{Condition}
use Rattle.order_grammar.specs.declared.condition.Condition.TheVariants.{Price, Phase, Floated}
use Rattle.order_grammar.specs.declared.condition.Version.{Version}
use Rattle.order_grammar.specs.declared.condition.Version.TheVariants.{One, Two}
use Rattle.order_grammar.specs.declared.fault.Fault.{Fault}
use Rattle.order_grammar.specs.declared.fault.Fault.TheVariants.{TooLong, StrayByte, UnknownWord, WrongWords}
use Rattle.order_grammar.specs.declared.fault.Fault.TheVariants.{NumberTooLarge}
use Rattle.order_grammar.specs.declared.order.Order.{Order}
use Rattle.order_grammar.specs.declared.order.Order.TheVariants.{Run}

-- the first of the words, and there is one, is one with which an order begins that may be under a
-- condition
abbrev pub BeginAnOrder : List (List ℕ) → Type 0
BeginAnOrder [] = ⊥
BeginAnOrder (first ∷ rest) = Contains play_words first

-- the words after a condition spell the order, except that its numbers may be too large
abbrev pub AreOrderWords : Order → List (List ℕ) → Type 0
AreOrderWords order words = BeginAnOrder words × AreWordsFor order words

-- the words after IF: PRICE, the company, >= and the price; PHASE and the kind of train; or FLOATED
-- and the company; and then other words
abbrev pub AreConditionWords : Condition → (List (List ℕ) → Type 0) → List (List ℕ) → Type 0
AreConditionWords (Price company price) rest words =
    Then (IsWord (codes "PRICE")) (Then (IsCompany company) (Then (IsWord (codes ">=")) (Then (IsNumber price) rest)))
    words
AreConditionWords (Phase kind) rest words = Then (IsWord (codes "PHASE")) (Then (IsKind kind) rest) words
AreConditionWords (Floated company) rest words = Then (IsWord (codes "FLOATED")) (Then (IsCompany company) rest) words

-- the words of a line spell the order under the condition, if there is one, except that numbers may
-- be too large
abbrev pub AreWordsUnder : Version → Option Condition → Order → List (List ℕ) → Type 0
AreWordsUnder version None order words = BeginWithOneOf order_file.first_words words × AreWordsFor order words
AreWordsUnder One (Some condition) order words = ⊥
AreWordsUnder Two (Some condition) order words =
    Then (IsWord (codes "IF")) (AreConditionWords condition (AreOrderWords order)) words

-- the number of the condition, if it has one, is one that a line may have
abbrev pub HasSmallCondition : Option Condition → Type 0
HasSmallCondition (Some (Price company price)) = price ≤ number_most
HasSmallCondition other = ⊤

-- the line would spell the order under the condition if numbers had no greatest value
pub record LooselySpellsInVersion (version : Version) (line : List ℕ) (spelt : Ordered) : Type 0 where
  pub short : length line ≤ line_most
  pub printable : IsTrue (list_all is_printable (before_comment line))
  pub words : AreWordsUnder version spelt.condition spelt.order (words_of line)

-- each number of the condition and of the order is one that a line may have
abbrev pub AreSmall : Ordered → Type 0
AreSmall spelt = HasSmallCondition spelt.condition × HasSmallNumbers spelt.order

-- the line spells the order under the condition
pub record SpellsInVersion (version : Version) (line : List ℕ) (spelt : Ordered) : Type 0 where
  pub loosely : LooselySpellsInVersion version line spelt
  pub small : AreSmall spelt

-- the words that a line may begin with
abbrev pub first_words_in : Version → List (List ℕ)
first_words_in One = order_file.first_words
first_words_in Two = codes "IF" ∷ order_file.first_words

-- the line's first word is of no form of the version
abbrev pub HasUnknownWordIn : Version → List ℕ → Type 0
HasUnknownWordIn version line = BeginWithOther (first_words_in version) (words_of line)

-- the line would spell an order if numbers had no greatest value
abbrev pub IsLooselySpeltIn : Version → List ℕ → Type 0
IsLooselySpeltIn version line = (spelt : Ordered) × LooselySpellsInVersion version line spelt

-- the line spells an order
abbrev pub IsSpeltIn : Version → List ℕ → Type 0
IsSpeltIn version line = (spelt : Ordered) × SpellsInVersion version line spelt

-- the fault that the line of a file of some version has: it applies, and none of those before it
-- does
abbrev pub IsFaultInVersion : Version → List ℕ → Fault → Type 0
IsFaultInVersion version line TooLong = IsTooLong order_file line
IsFaultInVersion version line StrayByte = ¬ IsTooLong order_file line × HasStrayByte line
IsFaultInVersion version line UnknownWord =
    ¬ IsTooLong order_file line × ¬ HasStrayByte line × HasUnknownWordIn version line
IsFaultInVersion version line WrongWords =
    ¬ IsTooLong order_file line × ¬ HasStrayByte line × ¬ HasUnknownWordIn version line
    × ¬ IsLooselySpeltIn version line
IsFaultInVersion version line NumberTooLarge =
    ¬ IsTooLong order_file line × ¬ HasStrayByte line × ¬ HasUnknownWordIn version line
    × IsLooselySpeltIn version line × ¬ IsSpeltIn version line
IsFaultInVersion version line other = ⊥

-- the spelling is no longer than a line; only a run may have too many places for that
abbrev pub FitsLineUnder : Condition → Order → Type 0
FitsLineUnder condition (Run kind run) = length (conditional_spelling (Some condition) (Run kind run)) ≤ line_most
FitsLineUnder condition other = ⊤

-- an order that has a spelling under the condition, if there is one
abbrev pub IsOrderUnder : Option Condition → Order → Type 0
IsOrderUnder None order = IsOrder order
IsOrderUnder (Some condition) order =
    HasSmallCondition (Some condition) × HasSpelling order × FitsLineUnder condition order
    × BeginAnOrder (words_of_order order)
