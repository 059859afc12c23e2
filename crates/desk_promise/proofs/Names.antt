-- The names of players, as SHEET lines name them.
use Rattle.std.proofs.Common.{◌≡◌, ◌↔◌, ℕ, zero, suc, ◌+◌, ◌<◌, Bool, true, false, cond, List, [], ◌∷◌, length}
use Rattle.std.proofs.Common.{Some, None, Result, Ok, Err, refl, ap, subst, ◌∙◌, arith, get_or}
use Rattle.std.specs.Prelude.{◌&&◌, nat_le, not}
use Rattle.std.specs.List.{list_all, list_any}
use Rattle.std.proofs.lemmas.Bool.{and_parts}
use Rattle.std.proofs.lemmas.Bool.Decides.{nat_tests}
use Rattle.desk_promise.proofs.OneLine.{IsUnbroken, is_within}
use Rattle.order_grammar.proofs.KeywordLemmas.{same_word-self}
use Rattle.order_grammar.specs.Line.{reading_of}
use Rattle.order_grammar.specs.Name.{is_capital, is_letter_or_digit, is_name}
use Rattle.order_grammar.specs.Spells.{Spells}
use Rattle.order_grammar.specs.Words.{same_word}
use Rattle.order_grammar.specs.declared.fault.Fault.{Fault}
use Rattle.order_grammar.specs.declared.order.Order.{Order}
use Rattle.order_grammar.specs.declared.order.Order.TheVariants as order
use Rattle.sheets.specs.File.{all_differ, players_named, seat_from}

-- a line is read as an order exactly if it spells that order
abbrev pub ReadWhereSpelt : Type 0
ReadWhereSpelt = (line : List ℕ) (order : Order) → (reading_of line ≡ Ok order) ↔ Spells line order

-- a word that is none of some words is not the one at a place among them
pub other_word : (word : List ℕ) (words : List (List ℕ)) (place : ℕ) → place < length words
    → list_any (same_word word) words ≡ false → same_word word (get_or words place []) ≡ false
other_word word [] place within none = absurd (grind arith)
other_word word (first ∷ words) zero within none = grind arith
other_word word (first ∷ words) (suc place) within none =
    let there : place < length words = omega (arith, within) in
    let rest : list_any (same_word word) words ≡ false = grind arith in
    other_word word words place there rest

-- each of some names that differ has its own seat
pub own_seat : (seat : ℕ) (names : List (List ℕ)) (place : ℕ) → all_differ names ≡ true → place < length names
    → seat_from seat names (get_or names place []) ≡ Some (record { 0 = seat + place })
own_seat seat [] place differ within = absurd (grind arith)
own_seat seat (name ∷ names) zero differ within =
    ap (λ (b : Bool). cond b (Some (record { 0 = seat })) (seat_from (seat + 1) names name)) (same_word-self name)
    ∙ ap (λ (n : ℕ). Some (record { 0 = n })) (let same : seat ≡ seat + 0 = omega arith in same)
own_seat seat (name ∷ names) (suc place) differ within =
    let there : place < length names = omega (arith, within) in
    let parts = and_parts (not (list_any (same_word name) names)) (all_differ names) differ in
    let none : list_any (same_word name) names ≡ false = grind (arith, parts.0) in
    ap (λ (b : Bool). cond b (Some (record { 0 = seat })) (seat_from (seat + 1) names (get_or names place [])))
    (other_word name names place there none)
    ∙ own_seat (seat + 1) names place parts.1 there
    ∙ ap (λ (n : ℕ). Some (record { 0 = n })) (let same : (seat + 1) + place ≡ seat + suc place = omega arith in same)

-- what is taken of some names
from_names : (test : Bool) (names players : List (List ℕ)) → cond test (Some names) None ≡ Some players
    → (names ≡ players) × (test ≡ true)
from_names true names players taken = (cc, refl)
from_names false names players taken = cc

-- the players that a line names have names, and all differ
pub record AreNamed (players : List (List ℕ)) : Type 0 where
  pub names : list_all is_name players ≡ true
  pub differ : all_differ players ≡ true

from_line : ReadWhereSpelt → (line : List ℕ) (reading : Result Order Fault) (players : List (List ℕ))
    → reading_of line ≡ reading → players_named reading ≡ Some players → AreNamed players
from_line spelt line (Ok (order.Players names)) players read named =
    let test : Bool = nat_le 3 (length names.items) && (nat_le (length names.items) 6 && all_differ names.items) in
    let taken = from_names test names.items players named in
    let differ = (and_parts (nat_le (length names.items) 6) (all_differ names.items)
    (and_parts (nat_le 3 (length names.items)) (nat_le (length names.items) 6 && all_differ names.items) taken.1).1).1 in
    subst AreNamed taken.0 (record { names = search (arith, (spelt line (order.Players names)).0 read); differ = differ })
from_line spelt line (Ok other) players read named = cc
from_line spelt line (Err fault) players read named = cc

pub are_named : ReadWhereSpelt → (line : List ℕ) (players : List (List ℕ)) → players_named (reading_of line) ≡ Some players
    → AreNamed players
are_named spelt line players named = from_line spelt line (reading_of line) players refl named

-- one of some words that pass a test passes it
pub one_passes : (test : List ℕ → Bool) (words : List (List ℕ)) (place : ℕ) → list_all test words ≡ true → place < length words
    → test (get_or words place []) ≡ true
one_passes test [] place all within = absurd (grind arith)
one_passes test (word ∷ words) zero all within = (and_parts (test word) (list_all test words) all).0
one_passes test (word ∷ words) (suc place) all within =
    let there : place < length words = omega (arith, within) in
    one_passes test words place (and_parts (test word) (list_all test words) all).1 there

-- names are unbroken
capital_unbroken : (byte : ℕ) → is_capital byte ≡ true → is_within byte ≡ true
capital_unbroken byte is = grind (arith, nat_tests)

letter_unbroken : (byte : ℕ) → is_letter_or_digit byte ≡ true → is_within byte ≡ true
letter_unbroken byte is = grind (arith, nat_tests)

letters_unbroken : (bytes : List ℕ) → list_all is_letter_or_digit bytes ≡ true → IsUnbroken bytes
letters_unbroken [] all = refl
letters_unbroken (byte ∷ bytes) all =
    let parts = and_parts (is_letter_or_digit byte) (list_all is_letter_or_digit bytes) all in
    ap (λ (b : Bool). b && list_all is_within bytes) (letter_unbroken byte parts.0) ∙ letters_unbroken bytes parts.1

pub name_unbroken : (name : List ℕ) → is_name name ≡ true → IsUnbroken name
name_unbroken [] is = refl
name_unbroken (first ∷ rest) is =
    let parts = and_parts (is_capital first) (nat_le (length rest) 7 && list_all is_letter_or_digit rest) is in
    ap (λ (b : Bool). b && list_all is_within rest) (capital_unbroken first parts.0)
    ∙ letters_unbroken rest (and_parts (nat_le (length rest) 7) (list_all is_letter_or_digit rest) parts.1).1
