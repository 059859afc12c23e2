-- The SHEET line of a player, as it is printed: it begins the player's sheet for the round.
use Rattle.std.proofs.Common.{◌≡◌, ℕ, ◌+◌, ◌<◌, Bool, true, false, cond, List, [], ◌∷◌, ◌++◌, length, Option, Some, None}
use Rattle.std.proofs.Common.{Ok, codes, refl, ap, subst, ◌∙◌, arith}
use Rattle.std.specs.Prelude.{IsTrue, ◌&&◌, nat_le, not, option_map, slice_get, unwrap_or}
use Rattle.std.proofs.lemmas.List.{append-nil}
use Rattle.std.proofs.lemmas.Option.{unwrap_or-slice_get}
use Rattle.std.proofs.Math.Bool.{and-false}
use Rattle.desk_promise.proofs.Names.{AreNamed, ReadWhereSpelt, name_unbroken, one_passes, own_seat}
use Rattle.desk_promise.proofs.OneLine.{IsUnbroken, both_unbroken, round_unbroken}
use Rattle.desk_promise.specs.LineFile.{ended}
use Rattle.order_grammar.specs.Limits.{line_most}
use Rattle.order_grammar.specs.Line.{reading_of}
use Rattle.order_grammar.specs.Name.{is_name}
use Rattle.order_grammar.specs.Print.{spelling_of, text_of_round}
use Rattle.order_grammar.specs.Spells.{AreWordsFor, End, IsName, IsOrder, IsRoundOfLine, IsWord}
use Rattle.order_grammar.specs.Spells.{Then, is_round_of_line}
use Rattle.order_grammar.specs.Words.{first_of_words, has_words, same_word, words_of}
use Rattle.order_grammar.specs.declared.order.Order.{Order}
use Rattle.order_grammar.specs.declared.order.Order.TheVariants as order
use Rattle.sheets.specs.File.{begins, is_sheet_line, seat_from, sheet_key_at, sheet_key_begun}
use Rattle.sheets.specs.Text.{is_blank}
use Rattle.tables.specs.declared.round.Round.{Round}
use Rattle.tables.specs.declared.seat.Seat.{Seat}

-- the printed text of an order is read as that order
abbrev pub SpellingIsRead : Type 0
SpellingIsRead = (order : Order) → IsOrder order → reading_of (spelling_of order) ≡ Ok order

-- there are words, and this is the first
record BeginWith (word : List ℕ) (words : List (List ℕ)) : Type 0 where
  some : has_words words ≡ true
  first : first_of_words words ≡ word

begin_with : (word : List ℕ) (others : List (List ℕ) → Type 0) (words : List (List ℕ)) → Then (IsWord word) others words
    → BeginWith word words
begin_with word others [] are = absurd are
begin_with word others (first ∷ words) are = record { some = refl; first = are.0 }

-- a line with a word counts
pub not_blank : (line : List ℕ) → has_words (words_of line) ≡ true → is_blank line ≡ false
unfolding is_blank
not_blank line has = ap (λ (b : Bool). nat_le (length line) line_most && not b) has ∙ and-false (nat_le (length line) line_most)

-- the SHEET line of a name for a round
abbrev pub head_of : List ℕ → Round → List ℕ
head_of name round = codes "SHEET " ++ name ++ 32 ∷ text_of_round round

-- the name of a seat's player
abbrev pub name_at : List (List ℕ) → ℕ → List ℕ
name_at players seat = unwrap_or (slice_get players seat) []

-- it is the spelling of its order
spelt_so : (name : List ℕ) (round : Round) → spelling_of (order.Sheet name round) ≡ head_of name round
spelt_so name round =
    ap (λ (text : List ℕ). codes "SHEET " ++ name ++ 32 ∷ text) (append-nil (text_of_round round))

-- with its end it is the text of an empty sheet
pub as_text : (name : List ℕ) (round : Round)
    → ended (head_of name round) ≡ codes "SHEET " ++ name ++ 32 ∷ text_of_round round ++ 10 ∷ []
as_text name round = refl

module _ (spelt : ReadWhereSpelt) (is_read : SpellingIsRead) (players : List (List ℕ)) (named : AreNamed players)
    (round : Round) (its : is_round_of_line round ≡ true) (seat : ℕ) (within : seat < length players) where
  -- the name is one
  good_name : is_name (name_at players seat) ≡ true
  good_name = rw (unwrap_or-slice_get players seat []) (one_passes is_name players seat named.names within)

  -- so the line is read as its order
  head_read : reading_of (head_of (name_at players seat) round) ≡ Ok (order.Sheet (name_at players seat) round)
  head_read =
      let good : IsTrue (is_name (name_at players seat)) = search (arith, good_name) in
      let fit : IsTrue (is_round_of_line round) = search (arith, its) in
      subst (λ (line : List ℕ). reading_of line ≡ Ok (order.Sheet (name_at players seat) round))
      (spelt_so (name_at players seat) round)
      (is_read (order.Sheet (name_at players seat) round) ((good, fit), tt, (2, omega arith, refl)))

  -- its words are those of a SHEET line
  head_words : AreWordsFor (order.Sheet (name_at players seat) round) (words_of (head_of (name_at players seat) round))
  head_words = ((spelt (head_of (name_at players seat) round) (order.Sheet (name_at players seat) round)).0 head_read).loosely.words

  head_begin : BeginWith (codes "SHEET") (words_of (head_of (name_at players seat) round))
  head_begin =
      begin_with (codes "SHEET") (Then (IsName (name_at players seat)) (Then (IsRoundOfLine round) End))
      (words_of (head_of (name_at players seat) round)) head_words

  pub head_is_sheet_line : is_sheet_line (head_of (name_at players seat) round) ≡ true
  unfolding is_sheet_line
  head_is_sheet_line =
      ap (λ (word : List ℕ). same_word word (codes "SHEET"))
      head_begin.first

  pub head_counts : is_blank (head_of (name_at players seat) round) ≡ false
  head_counts = not_blank (head_of (name_at players seat) round) head_begin.some

  -- it begins the sheet of the seat
  pub head_begins : begins players (head_of (name_at players seat) round) ≡ Some (sheet_key_at seat round)
  unfolding begins
  head_begins =
      ap (λ (b : Bool). cond b (sheet_key_begun players (reading_of (head_of (name_at players seat) round))) None) head_is_sheet_line
      ∙ ap (sheet_key_begun players) head_read
      ∙ ap (λ (found : Option Seat). option_map (λ (its : Seat). record { seat = its; round = round }) found)
      (ap (seat_from 0 players) (unwrap_or-slice_get players seat []) ∙ own_seat 0 players seat named.differ within
      ∙ ap (λ (n : ℕ). Some (record { 0 = n })) (let same : 0 + seat ≡ seat = omega arith in same))

  pub head_unbroken : IsUnbroken (head_of (name_at players seat) round)
  head_unbroken =
      both_unbroken (codes "SHEET ") (name_at players seat ++ 32 ∷ text_of_round round) refl
      (both_unbroken (name_at players seat) (32 ∷ text_of_round round) (name_unbroken (name_at players seat) good_name)
      (round_unbroken round its))
