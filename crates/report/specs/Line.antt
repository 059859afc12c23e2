-- An event as a line of the report: its words, separated by single spaces, and its LF.
use Rattle.std.specs.Prelude.{ℕ, Bool, if◌then◌else◌, List, [], ◌∷◌, ◌++◌, Option, Some, None, codes, decimal}
use Rattle.std.specs.Prelude.{unwrap_or, slice_get}
use Rattle.events.specs.RuleCodes.{code_of_refusal}
use Rattle.events.specs.declared.event.Event.{Event}
use Rattle.events.specs.declared.event.Event.TheVariants.{Round, Ruled, Passes, Left, Sold, Bids, Price, Revenue, Given}
use Rattle.events.specs.declared.event.Event.TheVariants.{Par, President, Bought, Sells, Exchanged, Floats, Moves, Home}
use Rattle.events.specs.declared.event.Event.TheVariants.{Laid, Token, Withheld, Runs, Dividend, Traded, Train, Phase}
use Rattle.events.specs.declared.event.Event.TheVariants.{Rusted, Discarded, Closed, PrivateBought, Forced, Aid}
use Rattle.events.specs.declared.event.Event.TheVariants.{Bankrupt, Broken}
use Rattle.events.specs.declared.event.Holder.{Holder}
use Rattle.events.specs.declared.event.Holder.TheVariants as holder
use Rattle.events.specs.declared.event.TrainSeller.{TrainSeller}
use Rattle.events.specs.declared.event.TrainSeller.TheVariants as seller
use Rattle.events.specs.declared.ruling.Ruling.{Ruling}
use Rattle.events.specs.declared.ruling.Ruling.TheVariants.{Obeyed, Refused, Faulty}
use Rattle.map_tables.specs.Text.{text_of_hex, text_of_place, text_of_rotation, text_of_tile}
use Rattle.map_tables.specs.declared.lay.Lay.{Lay}
use Rattle.order_grammar.specs.Fault.{code_of}
use Rattle.order_grammar.specs.Order.{text_of_source}
use Rattle.order_grammar.specs.Print.{conditional_spelling, spaced, text_of_round}
use Rattle.sheets.specs.File.{players_of}
use Rattle.tables.specs.Chart.{price_of}
use Rattle.tables.specs.Roster.{code_of_company, code_of_private}
use Rattle.tables.specs.Train.{code_of_kind}
use Rattle.tables.specs.declared.roster.Company.{Company}
use Rattle.tables.specs.declared.roster.Private.{Private}
use Rattle.tables.specs.declared.seat.Seat.{Seat}
use Rattle.tables.specs.declared.squares.Square.{Square}

-- the name of a seat's player
abbrev pub name_of : List ℕ → Seat → List ℕ
name_of file seat = unwrap_or (slice_get (players_of file) seat.0) []

-- the holder of something: a player's name or a company's code
abbrev pub holder_text : List ℕ → Holder → List ℕ
holder_text file (holder.Seat seat) = name_of file seat
holder_text file (holder.Company company) = code_of_company company

-- what became of a line: the order with its condition, if it has one; of a fault only the code
abbrev pub ruling_words : Ruling → List (List ℕ)
ruling_words (Obeyed condition order) = codes "OBEYED" ∷ conditional_spelling condition order ∷ []
ruling_words (Refused rule condition order) =
    codes "REFUSED" ∷ code_of_refusal rule ∷ conditional_spelling condition order ∷ []
ruling_words (Faulty fault) = codes "REFUSED" ∷ code_of fault ∷ []

-- a line of these words, with its LF
abbrev pub line_of : List ℕ → List (List ℕ) → List ℕ
line_of first words = first ++ spaced words ++ 10 ∷ []

-- what became of a line of a seat's sheet, as its line of the report
abbrev pub ruled_line : List ℕ → Seat → ℕ → Ruling → List ℕ
ruled_line file seat line ruling = line_of (name_of file seat) (decimal line ∷ ruling_words ruling)

-- a line of a private, a holder and a sum
abbrev pub private_line : List ℕ → List ℕ → Private → Holder → ℕ → List ℕ
private_line file word private owner amount = line_of word
    (code_of_private private ∷ holder_text file owner ∷ decimal amount ∷ [])

-- the letter of a row of the stock market, if it has one
abbrev pub letter_text : Option ℕ → List ℕ
letter_text None = []
letter_text (Some letter) = letter ∷ []

-- a square of the stock market: the letter of its row, A for the uppermost, and its column
abbrev pub text_of_square : Square → List ℕ
text_of_square square = letter_text (slice_get (codes "ABCDEFGHIJK") square.row) ++ decimal square.column

-- the word of stops that are swapped
abbrev pub swap_words : Bool → List (List ℕ)
swap_words swapped = if swapped then codes "SWAP" ∷ [] else []

-- a tile as it lies: its number, its hex, how far it is turned, and whether its stops are swapped
abbrev pub words_of_lay : Lay → List (List ℕ)
words_of_lay lay = text_of_tile lay.tile ∷ text_of_hex lay.hex ∷ text_of_rotation lay.rot ∷ swap_words lay.swap

-- the line of a tile that a company lays
abbrev pub lay_line : Company → Lay → ℕ → List ℕ
lay_line company lay cost = line_of (codes "LAID") (code_of_company company ∷ words_of_lay lay ++ decimal cost ∷ [])

-- the word for where a company buys a train: the code of a company that sells it
abbrev pub text_of_seller : TrainSeller → List ℕ
text_of_seller seller.Bank = codes "BANK"
text_of_seller seller.BankPool = codes "POOL"
text_of_seller (seller.Company company) = code_of_company company

-- a company's code, or the word for the bank pool if there is no owner
abbrev pub text_of_train_owner : Option Company → List ℕ
text_of_train_owner None = codes "POOL"
text_of_train_owner (Some company) = code_of_company company

-- an event as its line
abbrev pub event_line : List ℕ → Event → List ℕ
event_line file (Round round) = line_of (codes "ROUND") (text_of_round round ∷ [])
event_line file (Ruled seat line ruling) = ruled_line file seat line ruling
event_line file (Passes seat) = line_of (name_of file seat) (codes "PASSES" ∷ [])
event_line file (Left seat lines) = line_of (codes "LEFT") (name_of file seat ∷ decimal lines ∷ [])
event_line file (Sold private seat price) = private_line file (codes "SOLD") private (holder.Seat seat) price
event_line file (Bids private seat amount) = private_line file (codes "BIDS") private (holder.Seat seat) amount
event_line file (Price price) = line_of (codes "PRICE") (codes "SV" ∷ decimal price ∷ [])
event_line file (Revenue private owner amount) = private_line file (codes "REVENUE") private owner amount
event_line file (Given company seat shares) = line_of (codes "GIVEN")
    (code_of_company company ∷ name_of file seat ∷ decimal shares ∷ [])
event_line file (Par company price) = line_of (codes "PAR") (code_of_company company ∷ decimal price ∷ [])
event_line file (President company seat) = line_of (codes "PRESIDENT")
    (code_of_company company ∷ name_of file seat ∷ [])
event_line file (Bought company seat shares from price) =
    line_of (codes "BOUGHT") (code_of_company company ∷ name_of file seat ∷ decimal shares ∷ text_of_source from
    ∷ decimal price ∷ [])
event_line file (Sells company seat shares price) =
    line_of (codes "SELLS") (code_of_company company ∷ name_of file seat ∷ decimal shares ∷ decimal price ∷ [])
event_line file (Exchanged seat from) =
    line_of (codes "EXCHANGED") (codes "MH" ∷ name_of file seat ∷ text_of_source from ∷ [])
event_line file (Floats company amount) = line_of (codes "FLOATS") (code_of_company company ∷ decimal amount ∷ [])
event_line file (Moves company square) =
    line_of (codes "MOVES") (code_of_company company ∷ decimal (price_of square) ∷ text_of_square square ∷ [])
event_line file (Home company place) = line_of (codes "HOME") (code_of_company company ∷ text_of_place place ∷ [])
event_line file (Laid company lay cost) = lay_line company lay cost
event_line file (Token company place cost) =
    line_of (codes "TOKEN") (code_of_company company ∷ text_of_place place ∷ decimal cost ∷ [])
event_line file (Withheld company amount) = line_of (codes "WITHHELD") (code_of_company company ∷ decimal amount ∷ [])
event_line file (Runs company revenue) = line_of (codes "RUNS") (code_of_company company ∷ decimal revenue ∷ [])
event_line file (Dividend company holder amount) =
    line_of (codes "DIVIDEND") (code_of_company company ∷ holder_text file holder ∷ decimal amount ∷ [])
event_line file (Traded company kind) = line_of (codes "TRADED") (code_of_company company ∷ code_of_kind kind ∷ [])
event_line file (Train company kind from price) =
    line_of (codes "TRAIN") (code_of_company company ∷ code_of_kind kind ∷ text_of_seller from ∷ decimal price ∷ [])
event_line file (Phase kind) = line_of (codes "PHASE") (code_of_kind kind ∷ [])
event_line file (Rusted owner kind) = line_of (codes "RUSTED") (text_of_train_owner owner ∷ code_of_kind kind ∷ [])
event_line file (Discarded company kind) = line_of (codes "DISCARDED")
    (code_of_company company ∷ code_of_kind kind ∷ [])
event_line file (Closed private) = line_of (codes "CLOSED") (code_of_private private ∷ [])
event_line file (PrivateBought private company seller price) =
    private_line file (codes "PRIVATE") private (holder.Company company) price
event_line file (Forced company) = line_of (codes "FORCED") (code_of_company company ∷ [])
event_line file (Aid seat company amount) =
    line_of (codes "AID") (name_of file seat ∷ code_of_company company ∷ decimal amount ∷ [])
event_line file (Bankrupt seat) = line_of (codes "BANKRUPT") (name_of file seat ∷ [])
event_line file Broken = line_of (codes "BROKEN") []
