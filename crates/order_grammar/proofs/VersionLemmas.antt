-- A line of a file of some version is read as an order under a condition exactly if it spells it,
-- and as a fault exactly if it has that.
use Rattle.std.proofs.Common.{◌≡◌, ℕ, zero, suc, ◌<◌, Bool, true, false, cond, ltb, not, ◌&&◌, inl, inr, List, [], ◌∷◌}
use Rattle.std.proofs.Common.{Option, Some, None, Result, Ok, Err, Contains, codes, length, refl, sym, ap, subst, ◌∙◌}
use Rattle.std.proofs.Common.{arith}
use Rattle.std.specs.List.{list_all}
use Rattle.std.proofs.lemmas.Bool.{and_from, cases_Bool, cases_lt, false≢true, le-ltb, lt-ltb, not-true}
use Rattle.order_grammar.specs.Condition.{Ordered, ordered, unconditional, conditional_reading}
use Rattle.order_grammar.specs.Form.{order_forms, words_reading, rows_reading}
use Rattle.order_grammar.specs.Limits.{line_most}
use Rattle.order_grammar.specs.Line.{reading_of}
use Rattle.order_grammar.specs.LineFault.{BeginWithOther, HasStrayByte, IsTooLong}
use Rattle.order_grammar.specs.Order.{parts_of}
use Rattle.order_grammar.specs.Spells.{BeginWithOneOf, HasSmallNumbers}
use Rattle.order_grammar.specs.SpellsVersion.{AreWordsUnder, AreSmall, HasSmallCondition, IsFaultInVersion}
use Rattle.order_grammar.specs.SpellsVersion.{LooselySpellsInVersion, SpellsInVersion, first_words_in}
use Rattle.order_grammar.specs.Texts.{order_file}
use Rattle.order_grammar.specs.Version.{reading_in, words_reading_in}
use Rattle.order_grammar.specs.Words.{before_comment, first_of_words, is_printable, same_word, words_of}
use Rattle.order_grammar.specs.declared.condition.Condition.{Condition}
use Rattle.order_grammar.specs.declared.condition.Version.{Version}
use Rattle.order_grammar.specs.declared.condition.Version.TheVariants.{One, Two}
use Rattle.order_grammar.specs.declared.fault.Fault.{Fault}
use Rattle.order_grammar.specs.declared.fault.Fault.TheVariants.{TooLong, StrayByte, UnknownWord, WrongWords}
use Rattle.order_grammar.specs.declared.fault.Fault.TheVariants.{NumberTooLarge}
use Rattle.order_grammar.specs.declared.order.Order.{Order}
use Rattle.order_grammar.proofs.ConditionLemmas.{is_small_condition, small_condition, ordered_as}
use Rattle.order_grammar.proofs.ConditionLemmas.{condition_for_read, ConditionalSays, conditional_says}
use Rattle.order_grammar.proofs.KeywordLemmas.{same_word-is, same_word-self}
use Rattle.order_grammar.proofs.LineFaultLemmas.{stray_byte, not_printable, all_printable, unknown_begins, other_fault}
use Rattle.order_grammar.proofs.LineFaultLemmas.{begins_some_form, read_by_all, large_spell}
use Rattle.order_grammar.proofs.PartLemmas.{rows_of_orders, known_read, unknown_read, read_known, passed}
use Rattle.order_grammar.proofs.RowLemmas.{read_as, words_for_read}
use Rattle.order_grammar.proofs.SmallLemmas.{are_small, small_by_parts}
use Rattle.order_grammar.proofs.SpellsLemmas.{words_read_spell}

-- whether the numbers of a condition, if there is one, and of an order are small enough for a line
abbrev are_small_under : Option Condition → Order → Bool
are_small_under None order = are_small (parts_of order)
are_small_under (Some condition) order = is_small_condition condition && are_small (parts_of order)

small_under : (condition : Option Condition) (order : Order) → HasSmallCondition condition → HasSmallNumbers order →
    are_small_under condition order ≡ true
small_under None order first small = small_by_parts order small
small_under (Some condition) order first small =
    and_from (is_small_condition condition) (are_small (parts_of order)) (small_condition condition first)
    (small_by_parts order small)

-- an order that was read, without a condition
unconditional_as : (order : Order) (small : Bool) →
    unconditional (read_as order small) ≡ ordered_as (ordered None order) small
unconditional_as order true = refl
unconditional_as order false = refl

-- no line of version 1 begins with IF
not_if : (first : List ℕ) → Contains order_file.first_words first → same_word first (codes "IF") ≡ false
not_if first known = not-true (same_word first (codes "IF"))
    (passed (λ (word : List ℕ). not (same_word word (codes "IF"))) order_file.first_words first refl known)

-- words that begin with another word than IF are the same in both versions
pub without_if : (words : List (List ℕ)) → same_word (first_of_words words) (codes "IF") ≡ false →
    words_reading_in Two words ≡ words_reading_in One words
without_if [] other = refl
without_if (first ∷ rest) other = rw other refl

known_without_if : (words : List (List ℕ)) → BeginWithOneOf order_file.first_words words →
    same_word (first_of_words words) (codes "IF") ≡ false
known_without_if [] known = refl
known_without_if (first ∷ rest) known = not_if first known

-- words that spell an order, except that its numbers may be too large, are read so
one_read : (words : List (List ℕ)) (order : Order) → AreWordsUnder One None order words →
    words_reading_in One words ≡ ordered_as (ordered None order) (are_small (parts_of order))
one_read words order are =
    ap unconditional (known_read order_file order_forms words rows_of_orders are.0 ∙ words_for_read words order are.1)
    ∙ unconditional_as order (are_small (parts_of order))

pub words_for_read_in : (version : Version) (condition : Option Condition) (order : Order) (words : List (List ℕ)) →
    AreWordsUnder version condition order words →
    words_reading_in version words ≡ ordered_as (ordered condition order) (are_small_under condition order)
words_for_read_in One None order words are = one_read words order are
words_for_read_in Two None order words are = without_if words (known_without_if words are.0) ∙ one_read words order are
words_for_read_in One (Some condition) order words are = absurd are
words_for_read_in Two (Some condition) order [] are = absurd are
words_for_read_in Two (Some condition) order (first ∷ rest) are =
    let begins : first ≡ codes "IF" = are.0 in
    rw begins (condition_for_read condition order rest are.1)

-- what a reading of the words of a line says of them
abbrev UnderSays : Version → List (List ℕ) → Result Ordered Fault → Type 0
UnderSays version words (Ok spelt) = AreWordsUnder version spelt.condition spelt.order words × AreSmall spelt
UnderSays version words (Err UnknownWord) = BeginWithOther (first_words_in version) words
UnderSays version words (Err WrongWords) = ¬ BeginWithOther (first_words_in version) words
UnderSays version words (Err NumberTooLarge) =
    (¬ BeginWithOther (first_words_in version) words) ×
    ((spelt : Ordered) × AreWordsUnder version spelt.condition spelt.order words)
UnderSays version words (Err other) = ⊥

-- of version 1
one_says_by : (words : List (List ℕ)) (reading : Result Order Fault) → words_reading order_forms words ≡ reading →
    UnderSays One words (unconditional reading)
one_says_by words (Ok order) e =
    let known = read_known order_file order_forms words rows_of_orders (λ unknown.
    let wrong : ◌≡◌ {A = Result Order Fault} (Err UnknownWord) (Ok order) = sym unknown ∙ e in cc) in
    let spelt = words_read_spell words order (sym (known_read order_file order_forms words rows_of_orders known) ∙ e) in
    ((known, spelt.0), (tt, spelt.1))
one_says_by words (Err UnknownWord) e = unknown_begins order_file order_forms rows_of_orders words e
one_says_by words (Err WrongWords) e = begins_some_form order_file order_forms rows_of_orders words WrongWords
    (λ same. cc) e
one_says_by words (Err NumberTooLarge) e =
    let read = read_by_all order_file order_forms rows_of_orders words NumberTooLarge (λ same. cc) e in
    let some = large_spell words read.1 in (
      begins_some_form order_file order_forms rows_of_orders words NumberTooLarge (λ same. cc) e,
      (ordered None some.0, (read.0, some.1)),
    )
one_says_by words (Err other) e = absurd (other_fault order_forms words other refl (λ same. cc) e)

one_says : (words : List (List ℕ)) → UnderSays One words (words_reading_in One words)
one_says words = one_says_by words (words_reading order_forms words) refl

-- a word that is among IF and others, and is not IF, is among the others
among_others : (known : List (List ℕ)) (first : List ℕ) → same_word first (codes "IF") ≡ false →
    Contains (codes "IF" ∷ known) first → Contains known first
among_others known first other (zero, within, is) =
    absurd (false≢true (sym other ∙ ap (λ (word : List ℕ). same_word word (codes "IF")) (sym is)
    ∙ same_word-self (codes "IF")))
among_others known first other (suc k, within, is) = (k, omega (arith, within), is)

among_more : (known : List (List ℕ)) (first : List ℕ) → Contains known first → Contains (codes "IF" ∷ known) first
among_more known first among = (suc among.0, omega (arith, among.1), among.2)

-- words that spell an order in version 1 do so in version 2
plain_under : (condition : Option Condition) (order : Order) (words : List (List ℕ)) →
    AreWordsUnder One condition order words →
    AreWordsUnder Two condition order words
plain_under None order words are = are
plain_under (Some condition) order words are = absurd are

-- what words say in version 1 that do not begin with IF they say in version 2
two_says_plain : (first : List ℕ) (rest : List (List ℕ)) (reading : Result Ordered Fault) →
    same_word first (codes "IF") ≡ false → UnderSays One (first ∷ rest) reading →
    UnderSays Two (first ∷ rest) reading
two_says_plain first rest (Ok spelt) other says =
    (plain_under spelt.condition spelt.order (first ∷ rest) says.0, says.1)
two_says_plain first rest (Err UnknownWord) other says =
    λ among. says (among_others order_file.first_words first other among)
two_says_plain first rest (Err WrongWords) other says =
    λ unknown. says (λ among. unknown (among_more order_file.first_words first among))
two_says_plain first rest (Err NumberTooLarge) other says =
    let spelt = says.1.0 in (
      (λ unknown. says.0 (λ among. unknown (among_more order_file.first_words first among))),
      (spelt, plain_under spelt.condition spelt.order (first ∷ rest) says.1.1),
    )
two_says_plain first rest (Err another) other says = absurd says

-- IF is a word that a line of version 2 may begin with
if_known : (first : List ℕ) (rest : List (List ℕ)) → first ≡ codes "IF" →
    ¬ BeginWithOther (first_words_in Two) (first ∷ rest)
if_known first rest is = λ unknown. unknown (0, omega arith, sym is)

if_says : (first : List ℕ) (rest : List (List ℕ)) (reading : Result Ordered Fault) → first ≡ codes "IF" →
    ConditionalSays rest reading →
    UnderSays Two (first ∷ rest) reading
if_says first rest (Ok spelt) is says = (
  subst (λ (condition : Option Condition). AreWordsUnder Two condition spelt.order (first ∷ rest)) (sym says.1)
      (is, says.2),
  says.3,
)
if_says first rest (Err NumberTooLarge) is says = (if_known first rest is, (ordered (Some says.0) says.1, (is, says.2)))
if_says first rest (Err WrongWords) is says = if_known first rest is
if_says first rest (Err other) is says = absurd says

two_says : (words : List (List ℕ)) → UnderSays Two words (words_reading_in Two words)
two_says [] = ((tt, tt), (tt, tt))
two_says (first ∷ rest) =
    elim (cases_Bool (same_word first (codes "IF"))) [
      | inl same ↦ rw same (if_says first rest (conditional_reading rest) (same_word-is first (codes "IF") same)
          (conditional_says rest))
      | inr other ↦ rw other (two_says_plain first rest (unconditional (rows_reading order_forms first rest)) other
          (one_says (first ∷ rest)))
    ]

words_say_in : (version : Version) (words : List (List ℕ)) → UnderSays version words (words_reading_in version words)
words_say_in One words = one_says words
words_say_in Two words = two_says words

-- a line that is not too long and has no stray byte is what its words are
line_decides : (version : Version) (line : List ℕ) → (line_most < length line → ⊥) → (HasStrayByte line → ⊥) →
    reading_in version line ≡ words_reading_in version (words_of line)
line_decides version line short clean =
    let test : ltb line_most (length line) ≡ false = le-ltb line_most (length line) (omega arith) in
    rw (test, all_printable line clean) refl

-- a line that spells an order is read as it
pub spells_read_in : (version : Version) (line : List ℕ) (spelt : Ordered) → SpellsInVersion version line spelt →
    reading_in version line ≡ Ok spelt
spells_read_in version line spelt is =
    let printable : list_all is_printable (before_comment line) ≡ true = is.loosely.printable in
    let small = small_under spelt.condition spelt.order is.small.0 is.small.1 in
    rw (le-ltb line_most (length line) is.loosely.short, printable)
    (words_for_read_in version spelt.condition spelt.order (words_of line) is.loosely.words
    ∙ ap (ordered_as spelt) small)

-- what a line is read as
abbrev pub LineSays : Version → List ℕ → Result Ordered Fault → Type 0
LineSays version line (Ok spelt) = SpellsInVersion version line spelt
LineSays version line (Err fault) = IsFaultInVersion version line fault

-- words that are read as a fault spell no order, but perhaps one with a number that is too large
no_fault : (version : Version) (line : List ℕ) (spelt : Ordered) (fault : Fault) →
    LooselySpellsInVersion version line spelt →
    words_reading_in version (words_of line) ≡ Err fault → fault ≡ NumberTooLarge
no_fault version line spelt fault loosely e =
    let read = words_for_read_in version spelt.condition spelt.order (words_of line) loosely.words in
    elim (cases_Bool (are_small_under spelt.condition spelt.order)) [
      | inl small ↦
          let wrong : ◌≡◌ {A = Result Ordered Fault} (Err fault) (Ok spelt) =
          sym e ∙ read ∙ ap (ordered_as spelt) small in
          absurd cc
      | inr large ↦
          let same : ◌≡◌ {A = Result Ordered Fault} (Err fault) (Err NumberTooLarge) =
          sym e ∙ read ∙ ap (ordered_as spelt) large in
          cc
    ]

line_by_words : (version : Version) (line : List ℕ) (reading : Result Ordered Fault) →
    (IsTooLong order_file line → ⊥) → (HasStrayByte line → ⊥) →
    words_reading_in version (words_of line) ≡ reading → UnderSays version (words_of line) reading →
    LineSays version line reading
line_by_words version line (Ok spelt) short clean e says = record {
  loosely = record { short = omega arith; printable = all_printable line clean; words = says.0 };
  small = says.1;
}
line_by_words version line (Err UnknownWord) short clean e says = (short, clean, says)
line_by_words version line (Err WrongWords) short clean e says = (
  short,
  clean,
  says,
  λ loosely. let wrong : WrongWords ≡ NumberTooLarge =
      no_fault version line loosely.0 WrongWords loosely.1 e in cc,
)
line_by_words version line (Err NumberTooLarge) short clean e says = (
  short,
  clean,
  says.0,
  (says.1.0, record { short = omega arith; printable = all_printable line clean; words = says.1.1 }),
  λ spelt.
      let read = spells_read_in version line spelt.0 spelt.1 in
      let wrong : ◌≡◌ {A = Result Ordered Fault} (Err NumberTooLarge) (Ok spelt.0) =
      sym e ∙ sym (line_decides version line short clean) ∙ read in
      cc,
)
line_by_words version line (Err other) short clean e says = absurd says

pub line_says : (version : Version) (line : List ℕ) → LineSays version line (reading_in version line)
line_says version line =
    elim (cases_lt line_most (length line)) [
      | inl long ↦ let test : ltb line_most (length line) ≡ true = lt-ltb line_most (length line) long in rw test long
      | inr short ↦
          let test : ltb line_most (length line) ≡ false = le-ltb line_most (length line) short in
          let not_long : IsTooLong order_file line → ⊥ = λ long. omega arith in
          elim (cases_Bool (list_all is_printable (before_comment line))) [
            | inl printable ↦
                let clean : HasStrayByte line → ⊥ = λ stray. let wrong : true ≡ false =
                sym printable ∙ not_printable (before_comment line) stray in cc in
                rw (test, printable)
                (line_by_words version line (words_reading_in version (words_of line)) not_long clean refl
                (words_say_in version (words_of line)))
            | inr stray ↦ rw (test, stray) (not_long, stray_byte (before_comment line) stray)
          ]
    ]

-- a line that is read as an order spells it
pub read_spells_in : (version : Version) (line : List ℕ) (spelt : Ordered) → reading_in version line ≡ Ok spelt →
    SpellsInVersion version line spelt
read_spells_in version line spelt e = subst (LineSays version line) e (line_says version line)

-- a line that is read as a fault has it
pub fault_had_in : (version : Version) (line : List ℕ) (fault : Fault) → reading_in version line ≡ Err fault →
    IsFaultInVersion version line fault
fault_had_in version line fault e = subst (LineSays version line) e (line_says version line)

-- words that begin with another word than any form of the version
unknown_read_in : (version : Version) (words : List (List ℕ)) → BeginWithOther (first_words_in version) words →
    words_reading_in version words ≡ Err UnknownWord
unknown_read_in One words other = ap unconditional (unknown_read order_file order_forms words rows_of_orders other)
unknown_read_in Two [] other = absurd other
unknown_read_in Two (first ∷ rest) other =
    elim (cases_Bool (same_word first (codes "IF"))) [
      | inl same ↦ absurd (if_known first rest (same_word-is first (codes "IF") same) other)
      | inr plain ↦
          rw plain
          (ap unconditional (unknown_read order_file order_forms (first ∷ rest) rows_of_orders
          (λ among. other (among_more order_file.first_words first among))))
    ]

-- a reading of a line whose words would spell no order, and begin a form, is that of wrong words
wrong_words_in : (version : Version) (line : List ℕ) (reading : Result Ordered Fault) →
    LineSays version line reading → IsFaultInVersion version line WrongWords →
    reading ≡ Err WrongWords
wrong_words_in version line (Ok spelt) says is = absurd (is.3 (spelt, says.loosely))
wrong_words_in version line (Err TooLong) says is = absurd (is.0 says)
wrong_words_in version line (Err StrayByte) says is = absurd (is.1 says.1)
wrong_words_in version line (Err UnknownWord) says is = absurd (is.2 says.2)
wrong_words_in version line (Err WrongWords) says is = refl
wrong_words_in version line (Err NumberTooLarge) says is = absurd (is.3 says.3)
wrong_words_in version line (Err other) says is = absurd says

-- one whose words would spell an order except for a number is that of a number that is too large
large_in : (version : Version) (line : List ℕ) (reading : Result Ordered Fault) → LineSays version line reading →
    IsFaultInVersion version line NumberTooLarge →
    reading ≡ Err NumberTooLarge
large_in version line (Ok spelt) says is = absurd (is.4 (spelt, says))
large_in version line (Err TooLong) says is = absurd (is.0 says)
large_in version line (Err StrayByte) says is = absurd (is.1 says.1)
large_in version line (Err UnknownWord) says is = absurd (is.2 says.2)
large_in version line (Err WrongWords) says is = absurd (says.3 is.3)
large_in version line (Err NumberTooLarge) says is = refl
large_in version line (Err other) says is = absurd says

-- a line that has a fault is read as it
pub fault_read_in : (version : Version) (line : List ℕ) (fault : Fault) → IsFaultInVersion version line fault →
    reading_in version line ≡ Err fault
fault_read_in version line TooLong long =
    let test : ltb line_most (length line) ≡ true = lt-ltb line_most (length line) long in
    rw test refl
fault_read_in version line StrayByte is =
    let short = is.0 in
    let test : ltb line_most (length line) ≡ false = le-ltb line_most (length line) (omega arith) in
    rw (test, not_printable (before_comment line) is.1) refl
fault_read_in version line UnknownWord is =
    line_decides version line is.0 is.1 ∙ unknown_read_in version (words_of line) is.2
fault_read_in version line WrongWords is =
    wrong_words_in version line (reading_in version line) (line_says version line) is
fault_read_in version line NumberTooLarge is =
    large_in version line (reading_in version line) (line_says version line) is
fault_read_in version line other none = absurd none

-- a line of version 1 is read as it was
pub one_is_as_it_was : (line : List ℕ) → reading_in One line ≡ unconditional (reading_of line)
one_is_as_it_was line =
    elim (cases_Bool (ltb line_most (length line))) [
      | inl long ↦ rw long refl
      | inr short ↦
          elim (cases_Bool (list_all is_printable (before_comment line))) [
            | inl printable ↦ rw (short, printable) refl
            | inr stray ↦ rw (short, stray) refl
          ]
    ]

-- a line that does not begin with IF is the same in both versions
pub same_without_if : (line : List ℕ) → (first_of_words (words_of line) ≡ codes "IF" → ⊥) →
    reading_in Two line ≡ reading_in One line
same_without_if line other =
    let plain : same_word (first_of_words (words_of line)) (codes "IF") ≡ false =
    elim (cases_Bool (same_word (first_of_words (words_of line)) (codes "IF"))) [
      | inl same ↦ absurd (other (same_word-is (first_of_words (words_of line)) (codes "IF") same))
      | inr none ↦ none
    ] in
    let same = without_if (words_of line) plain in
    ap (λ (read : Result Ordered Fault). cond (ltb line_most (length line)) (Err TooLong)
    (cond (list_all is_printable (before_comment line)) read (Err StrayByte))) same
