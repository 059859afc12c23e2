-- The literal words of forms and of conditions.
use Rattle.std.specs.Prelude.{ℕ, ◌==◌, Bool, false, if◌then◌else◌, List, [], ◌∷◌, filter, Option, Some, None, codes}
use Rattle.order_grammar.specs.Words.{same_word}
use Rattle.order_grammar.specs.declared.keyword.Keyword.{Keyword}
use Rattle.order_grammar.specs.declared.keyword.Keyword.TheVariants as keyword

-- the word in upper case
abbrev pub text_of_keyword : Keyword → List ℕ
text_of_keyword keyword.Game = codes "GAME"
text_of_keyword keyword.Players = codes "PLAYERS"
text_of_keyword keyword.Sheet = codes "SHEET"
text_of_keyword keyword.Turn = codes "TURN"
text_of_keyword keyword.Buy = codes "BUY"
text_of_keyword keyword.Bid = codes "BID"
text_of_keyword keyword.Limit = codes "LIMIT"
text_of_keyword keyword.Par = codes "PAR"
text_of_keyword keyword.Sell = codes "SELL"
text_of_keyword keyword.Exchange = codes "EXCHANGE"
text_of_keyword keyword.Company = codes "COMPANY"
text_of_keyword keyword.Lay = codes "LAY"
text_of_keyword keyword.Token = codes "TOKEN"
text_of_keyword keyword.Run = codes "RUN"
text_of_keyword keyword.Pay = codes "PAY"
text_of_keyword keyword.Withhold = codes "WITHHOLD"
text_of_keyword keyword.Train = codes "TRAIN"
text_of_keyword keyword.Discard = codes "DISCARD"
text_of_keyword keyword.Private = codes "PRIVATE"
text_of_keyword keyword.Raise = codes "RAISE"
text_of_keyword keyword.Offer = codes "OFFER"
text_of_keyword keyword.Certs = codes "CERTS"
text_of_keyword keyword.Cert = codes "CERT"
text_of_keyword keyword.Claim = codes "CLAIM"
text_of_keyword keyword.Marks = codes "MARKS"
text_of_keyword keyword.InitialOffering = codes "IPO"
text_of_keyword keyword.Pool = codes "POOL"
text_of_keyword keyword.Mohawk = codes "MH"
text_of_keyword keyword.Swap = codes "SWAP"
text_of_keyword keyword.Bank = codes "BANK"
text_of_keyword keyword.Trade = codes "TRADE"
text_of_keyword keyword.Best = codes "BEST"
text_of_keyword keyword.One = codes "1"
text_of_keyword keyword.If = codes "IF"
text_of_keyword keyword.Price = codes "PRICE"
text_of_keyword keyword.AtLeast = codes ">="
text_of_keyword keyword.Phase = codes "PHASE"
text_of_keyword keyword.Floated = codes "FLOATED"

-- each keyword, in the order of their declaration
abbrev pub all_keywords : List Keyword
all_keywords =
    keyword.Game ∷ keyword.Players ∷ keyword.Sheet ∷ keyword.Turn ∷ keyword.Buy ∷ keyword.Bid ∷
    keyword.Limit ∷ keyword.Par ∷ keyword.Sell ∷ keyword.Exchange ∷ keyword.Company ∷
    keyword.Lay ∷ keyword.Token ∷ keyword.Run ∷ keyword.Pay ∷ keyword.Withhold ∷ keyword.Train ∷
    keyword.Discard ∷ keyword.Private ∷ keyword.Raise ∷ keyword.Offer ∷ keyword.Certs ∷
    keyword.Cert ∷ keyword.Claim ∷ keyword.Marks ∷ keyword.InitialOffering ∷ keyword.Pool ∷
    keyword.Mohawk ∷ keyword.Swap ∷ keyword.Bank ∷ keyword.Trade ∷ keyword.Best ∷ keyword.One ∷
    keyword.If ∷ keyword.Price ∷ keyword.AtLeast ∷ keyword.Phase ∷ keyword.Floated ∷ []

-- the first of some keywords that a word in upper case spells
abbrev pub spelt_of : List ℕ → List Keyword → Option Keyword
spelt_of word [] = None
spelt_of word (keyword ∷ keywords) =
    if same_word word (text_of_keyword keyword) then Some keyword else spelt_of word keywords

-- the keyword that a word in upper case spells, if it spells one
abbrev pub keyword_of : List ℕ → Option Keyword
keyword_of word = spelt_of word all_keywords

-- a text begins with a byte
abbrev pub begins_with : ℕ → List ℕ → Bool
begins_with byte [] = false
begins_with byte (first ∷ bytes) = first == byte

-- the keywords whose text begins with a byte, in the order of their declaration
abbrev pub beginning_with : ℕ → List Keyword
beginning_with byte = filter (λ keyword. begins_with byte (text_of_keyword keyword)) all_keywords
