-- Which lines spell which orders, each form by itself, and which orders have a spelling. A line is
-- loosely spelt if it would spell an order if numbers had no greatest value.
use Rattle.std.specs.Prelude.{◌≡◌, ◌≢◌, ⊤, ℕ, ◌≤◌, Bool, true, false, ◌&&◌, nat_le, IsTrue, List, [], ◌∷◌, ◌++◌, length}
use Rattle.std.specs.Prelude.{map, codes, decimal, slice_index, Contains}
use Rattle.std.specs.List.{list_all}
use Rattle.map_tables.specs.Text.{text_of_hex, text_of_place, text_of_rotation, text_of_tile}
use Rattle.map_tables.specs.declared.hex.Hex.{Hex}
use Rattle.map_tables.specs.declared.place.Place.{Place}
use Rattle.map_tables.specs.declared.side.Rotation.{Rotation}
use Rattle.map_tables.specs.declared.tiles.TileNo.{TileNo}
use Rattle.tables.specs.Roster.{code_of_company, code_of_private}
use Rattle.tables.specs.Train.{code_of_kind}
use Rattle.tables.specs.declared.rolling_stock.Kind.{Kind}
use Rattle.tables.specs.declared.roster.Company.{Company}
use Rattle.tables.specs.declared.roster.Private.{Private}
use Rattle.tables.specs.declared.round.Round.{Round}
use Rattle.tables.specs.declared.round.Round.TheVariants.{Opening, Stock, Operating}
use Rattle.order_grammar.specs.Class.{are_digits, are_hex_digits, value_of_digits}
use Rattle.order_grammar.specs.Texts.{TextKind, order_file}
use Rattle.tables.specs.Round.{number_most, operating_most}
use Rattle.order_grammar.specs.Name.{is_name}
use Rattle.order_grammar.specs.Print.{spelling_of, words_of_order}
use Rattle.order_grammar.specs.Words.{words_of, before_comment, is_printable}
use Rattle.order_grammar.specs.declared.order.Offer as offers
use Rattle.order_grammar.specs.declared.order.Offer.TheVariants as offer
use Rattle.order_grammar.specs.declared.order.Order.{Order}
use Rattle.order_grammar.specs.declared.order.Order.TheVariants.{Blank, Game, Players, Sheet, Turn}
use Rattle.order_grammar.specs.declared.order.Order.TheVariants.{Company as CompanyTurn, Run, Certs, Cert, Claim}
use Rattle.order_grammar.specs.declared.order.Order.TheVariants.{Marks, Play}
use Rattle.order_grammar.specs.declared.order.ShareSource.TheVariants.{InitialOffering, BankPool}
use Rattle.order_grammar.specs.declared.order.TrainSource.{TrainSource}
use Rattle.order_grammar.specs.declared.order.TrainSource.TheVariants as source
use Rattle.order_grammar.specs.declared.play.PlayOrder.TheVariants.{BuyPrivate, Bid, Limit, Par, BuyShare, Sell}
use Rattle.order_grammar.specs.declared.play.PlayOrder.TheVariants.{ExchangeMohawk, Lay, Token, RunBest, Pay}
use Rattle.order_grammar.specs.declared.play.PlayOrder.TheVariants.{Withhold, BuyTrain, Discard, BuyOwnedPrivate}
use Rattle.order_grammar.specs.declared.play.PlayOrder.TheVariants.{Raise, Offer}

-- this exact word
abbrev pub IsWord : List ℕ → List ℕ → Type 0
IsWord word text = text ≡ word

-- digits, with leading zeros or without, of a number, however large
pub record IsNumber (number : ℕ) (text : List ℕ) : Type 0 where
  pub digits : IsTrue (are_digits text)
  pub value : value_of_digits text ≡ number

-- a name
abbrev pub IsName : List ℕ → List ℕ → Type 0
IsName name text = (text ≡ name) × IsTrue (is_name name)

-- these letters, and then a number without leading zeros
abbrev pub IsNumbered : List ℕ → ℕ → List ℕ → Type 0
IsNumbered letters number text =
    (digits : List ℕ) × (text ≡ letters ++ digits) × (slice_index digits 0 ≢ 48) × IsNumber number digits

-- an operating round: OR and the number of its set, and then a point and its number in the set, 1
-- to 3
pub record IsOperating (set number : ℕ) (text : List ℕ) : Type 0 where
  pub prefix : List ℕ
  pub numbered : IsNumbered (codes "OR") set prefix
  pub whole : text ≡ prefix ++ codes "." ++ decimal number
  pub least : 1 ≤ number
  pub most : number ≤ operating_most

-- an opening or a stock round: PR or SR and its number; or an operating round
abbrev pub IsRoundOfLine : Round → List ℕ → Type 0
IsRoundOfLine (Opening number) text = IsNumbered (codes "PR") number text
IsRoundOfLine (Stock number) text = IsNumbered (codes "SR") number text
IsRoundOfLine (Operating set number) text = IsOperating set number text

-- the code of a private
abbrev pub IsPrivate : Private → List ℕ → Type 0
IsPrivate private text = text ≡ code_of_private private

-- the code of a company
abbrev pub IsCompany : Company → List ℕ → Type 0
IsCompany company text = text ≡ code_of_company company

-- the code of a kind of train
abbrev pub IsKind : Kind → List ℕ → Type 0
IsKind kind text = text ≡ code_of_kind kind

-- the number of a tile of the manifest
abbrev pub IsTile : TileNo → List ℕ → Type 0
IsTile tile text = text ≡ text_of_tile tile

-- a hex of the map
abbrev pub IsHex : Hex → List ℕ → Type 0
IsHex hex text = text ≡ text_of_hex hex

-- 0 to 5
abbrev pub IsRotation : Rotation → List ℕ → Type 0
IsRotation rotation text = text ≡ text_of_rotation rotation

-- a hex, or the number of a stop after it
abbrev pub IsPlace : Place → List ℕ → Type 0
IsPlace place text = text ≡ text_of_place place

-- hexadecimal digits, as many as a line of marks has
abbrev pub AreHexDigits : List ℕ → Type 0
AreHexDigits text = IsTrue (are_hex_digits text)

-- three to six names
pub record AreNames (names : List (List ℕ)) (words : List (List ℕ)) : Type 0 where
  pub same : words ≡ names
  pub least : 3 ≤ length names
  pub most : length names ≤ 6
  pub each : IsTrue (list_all is_name names)

-- two to 280 places
pub record ArePlaces (places : List Place) (words : List (List ℕ)) : Type 0 where
  pub named : words ≡ map text_of_place places
  pub least : 2 ≤ length places
  pub most : length places ≤ 280

-- a word, and then other words
abbrev pub Then : (List ℕ → Type 0) → (List (List ℕ) → Type 0) → List (List ℕ) → Type 0
Then first rest [] = ⊥
Then first rest (word ∷ words) = first word × rest words

-- no words
abbrev pub End : List (List ℕ) → Type 0
End [] = Unit {0}
End (word ∷ words) = ⊥

-- SWAP, if the stops are swapped, and no other word
abbrev pub AreSwapWords : Bool → List (List ℕ) → Type 0
AreSwapWords true words = Then (IsWord (codes "SWAP")) End words
AreSwapWords false words = End words

-- BANK, BANK TRADE and the kind that is traded in, POOL, or the company that sells and the price
abbrev pub AreSourceWords : TrainSource → List (List ℕ) → Type 0
AreSourceWords source.Bank words = Then (IsWord (codes "BANK")) End words
AreSourceWords (source.Trade kind) words =
    Then (IsWord (codes "BANK")) (Then (IsWord (codes "TRADE")) (Then (IsKind kind) End)) words
AreSourceWords source.BankPool words = Then (IsWord (codes "POOL")) End words
AreSourceWords (source.Company seller price) words = Then (IsCompany seller) (Then (IsNumber price) End) words

-- PRIVATE, the private, its buyer and the price, or TRAIN, the kind, its seller, its buyer and the
-- price
abbrev pub AreOfferWords : offers.Offer → List (List ℕ) → Type 0
AreOfferWords (offer.Private private buyer price) words =
    Then (IsWord (codes "PRIVATE")) (Then (IsPrivate private) (Then (IsCompany buyer) (Then (IsNumber price) End)))
    words
AreOfferWords (offer.Train kind seller buyer price) words =
    Then (IsWord (codes "TRAIN")) (Then (IsKind kind)
    (Then (IsCompany seller) (Then (IsCompany buyer) (Then (IsNumber price) End)))) words

-- these words spell the order, except that its numbers may be too large
abbrev pub AreWordsFor : Order → List (List ℕ) → Type 0
AreWordsFor Blank words = End words
AreWordsFor (Game game version) words =
    Then (IsWord (codes "GAME")) (Then (IsNumber game) (Then (IsNumber version) End)) words
AreWordsFor (Players names) words = Then (IsWord (codes "PLAYERS")) (AreNames names.items) words
AreWordsFor (Sheet name round) words =
    Then (IsWord (codes "SHEET")) (Then (IsName name) (Then (IsRoundOfLine round) End)) words
AreWordsFor Turn words = Then (IsWord (codes "TURN")) End words
AreWordsFor (Play (BuyPrivate private)) words = Then (IsWord (codes "BUY")) (Then (IsPrivate private) End) words
AreWordsFor (Play (Bid private amount)) words =
    Then (IsWord (codes "BID")) (Then (IsPrivate private) (Then (IsNumber amount) End)) words
AreWordsFor (Play (Limit private amount)) words =
    Then (IsWord (codes "LIMIT")) (Then (IsPrivate private) (Then (IsNumber amount) End)) words
AreWordsFor (Play (Par company price)) words =
    Then (IsWord (codes "PAR")) (Then (IsCompany company) (Then (IsNumber price) End)) words
AreWordsFor (Play (BuyShare company InitialOffering)) words =
    Then (IsWord (codes "BUY")) (Then (IsCompany company) (Then (IsWord (codes "IPO")) End)) words
AreWordsFor (Play (BuyShare company BankPool)) words =
    Then (IsWord (codes "BUY")) (Then (IsCompany company) (Then (IsWord (codes "POOL")) End)) words
AreWordsFor (Play (Sell company shares)) words =
    Then (IsWord (codes "SELL")) (Then (IsCompany company) (Then (IsNumber shares) End)) words
AreWordsFor (Play ExchangeMohawk) words = Then (IsWord (codes "EXCHANGE")) (Then (IsWord (codes "MH")) End) words
AreWordsFor (CompanyTurn company) words = Then (IsWord (codes "COMPANY")) (Then (IsCompany company) End) words
AreWordsFor (Play (Lay lay)) words =
    Then (IsWord (codes "LAY")) (Then (IsTile lay.tile)
    (Then (IsHex lay.hex) (Then (IsRotation lay.rot) (AreSwapWords lay.swap)))) words
AreWordsFor (Play (Token place)) words = Then (IsWord (codes "TOKEN")) (Then (IsPlace place) End) words
AreWordsFor (Run kind run) words = Then (IsWord (codes "RUN")) (Then (IsKind kind) (ArePlaces run)) words
AreWordsFor (Play RunBest) words = Then (IsWord (codes "RUN")) (Then (IsWord (codes "BEST")) End) words
AreWordsFor (Play Pay) words = Then (IsWord (codes "PAY")) End words
AreWordsFor (Play Withhold) words = Then (IsWord (codes "WITHHOLD")) End words
AreWordsFor (Play (BuyTrain kind from)) words = Then (IsWord (codes "TRAIN")) (Then (IsKind kind) (AreSourceWords from)) words
AreWordsFor (Play (Discard company kind)) words =
    Then (IsWord (codes "DISCARD")) (Then (IsCompany company) (Then (IsKind kind) End)) words
AreWordsFor (Play (BuyOwnedPrivate private price)) words =
    Then (IsWord (codes "PRIVATE")) (Then (IsPrivate private) (Then (IsNumber price) End)) words
AreWordsFor (Play (Raise company shares)) words =
    Then (IsWord (codes "RAISE")) (Then (IsCompany company) (Then (IsNumber shares) End)) words
AreWordsFor (Play (Offer offer)) words = Then (IsWord (codes "OFFER")) (AreOfferWords offer) words
AreWordsFor Certs words = Then (IsWord (codes "CERTS")) (Then (IsWord (codes "1")) End) words
AreWordsFor (Cert round company revenue) words =
    Then (IsWord (codes "CERT")) (Then (IsRoundOfLine round) (Then (IsCompany company) (Then (IsNumber revenue) End)))
    words
AreWordsFor (Claim kind run) words = Then (IsWord (codes "CLAIM")) (Then (IsKind kind) (ArePlaces run)) words
AreWordsFor Marks words = Then (IsWord (codes "MARKS")) (Then AreHexDigits End) words

-- the first of the words, if there is any, is one of these
abbrev pub BeginWithOneOf : List (List ℕ) → List (List ℕ) → Type 0
BeginWithOneOf known [] = Unit {0}
BeginWithOneOf known (first ∷ rest) = Contains known first

-- the line of a text would spell the order if numbers had no greatest value
pub record LooselySpellsIn (text : TextKind) (line : List ℕ) (order : Order) : Type 0 where
  pub short : length line ≤ text.most
  pub printable : IsTrue (list_all is_printable (before_comment line))
  pub known : BeginWithOneOf text.first_words (words_of line)
  pub words : AreWordsFor order (words_of line)

-- the number of a round, or that of its set, is one that a line may have
abbrev pub IsSmallRound : Round → Type 0
IsSmallRound (Opening number) = number ≤ number_most
IsSmallRound (Stock number) = number ≤ number_most
IsSmallRound (Operating set number) = set ≤ number_most

-- the price of a train that another company sells is one that a line may have
abbrev pub HasSmallPrice : TrainSource → Type 0
HasSmallPrice (source.Company seller price) = price ≤ number_most
HasSmallPrice other = Unit {0}

-- the price of a sale that is offered is one that a line may have
abbrev pub HasSmallOffer : offers.Offer → Type 0
HasSmallOffer (offer.Private private buyer price) = price ≤ number_most
HasSmallOffer (offer.Train kind seller buyer price) = price ≤ number_most

-- each number of the order is one that a line may have: these forms have numbers
abbrev pub HasSmallNumbers : Order → Type 0
HasSmallNumbers (Game game version) = (game ≤ number_most) × (version ≤ number_most)
HasSmallNumbers (Sheet name round) = IsSmallRound round
HasSmallNumbers (Play (Bid private amount)) = amount ≤ number_most
HasSmallNumbers (Play (Limit private amount)) = amount ≤ number_most
HasSmallNumbers (Play (Par company price)) = price ≤ number_most
HasSmallNumbers (Play (Sell company shares)) = shares ≤ number_most
HasSmallNumbers (Play (BuyTrain kind from)) = HasSmallPrice from
HasSmallNumbers (Play (BuyOwnedPrivate private price)) = price ≤ number_most
HasSmallNumbers (Play (Raise company shares)) = shares ≤ number_most
HasSmallNumbers (Play (Offer offer)) = HasSmallOffer offer
HasSmallNumbers (Cert round company revenue) = IsSmallRound round × (revenue ≤ number_most)
HasSmallNumbers other = Unit {0}

-- the line of a text spells the order
pub record SpellsIn (text : TextKind) (line : List ℕ) (order : Order) : Type 0 where
  pub loosely : LooselySpellsIn text line order
  pub small : HasSmallNumbers order

-- the line of an order file spells the order
abbrev pub Spells : List ℕ → Order → Type 0
Spells line order = SpellsIn order_file line order

-- whether a line may name the round
abbrev pub is_round_of_line : Round → Bool
is_round_of_line (Opening number) = nat_le 1 number && nat_le number number_most
is_round_of_line (Stock number) = nat_le 1 number && nat_le number number_most
is_round_of_line (Operating set number) =
    (nat_le 1 set && nat_le set number_most) && (nat_le 1 number && nat_le number operating_most)

-- What the form of the order needs: three to six names, a name and a round, small numbers, two to
-- 280 places. The digits of marks are in the line alone.
abbrev pub HasSpelling : Order → Type 0
HasSpelling (Players names) = (3 ≤ length names.items) × (length names.items ≤ 6)
    × IsTrue (list_all is_name names.items)
HasSpelling (Sheet name round) = IsTrue (is_name name) × IsTrue (is_round_of_line round)
HasSpelling (Run kind run) = (2 ≤ length run) × (length run ≤ 280)
HasSpelling (Cert round company revenue) = IsTrue (is_round_of_line round) × (revenue ≤ number_most)
HasSpelling (Claim kind run) = (2 ≤ length run) × (length run ≤ 280)
HasSpelling Marks = ⊥
HasSpelling other = HasSmallNumbers other

-- the spelling is no longer than a line; only an order with places may have too many for that
abbrev pub FitsLineIn : TextKind → Order → Type 0
FitsLineIn text (Run kind run) = length (spelling_of (Run kind run)) ≤ text.most
FitsLineIn text (Claim kind run) = length (spelling_of (Claim kind run)) ≤ text.most
FitsLineIn text other = ⊤

-- an order that has a spelling in a text
abbrev pub IsOrderIn : TextKind → Order → Type 0
IsOrderIn text order =
    HasSpelling order × FitsLineIn text order × BeginWithOneOf text.first_words (words_of_order order)

-- an order that has a spelling in an order file
abbrev pub IsOrder : Order → Type 0
IsOrder order = IsOrderIn order_file order
