-- The parts of an order, and which order they make. A line has these parts in turn: a keyword, then
-- words with a value each, then what a class that is repeated at the end has.
use Rattle.std.specs.Prelude.{ℕ, Bool, true, false, if◌then◌else◌, List, [], ◌∷◌, Option, Some, None}
use Rattle.map_tables.specs.declared.hex.Hex.{Hex}
use Rattle.map_tables.specs.declared.lay.Lay as lays
use Rattle.map_tables.specs.declared.side.Rotation.{Rotation}
use Rattle.map_tables.specs.declared.tiles.TileNo.{TileNo}
use Rattle.order_grammar.specs.Keyword.{text_of_keyword}
use Rattle.order_grammar.specs.declared.keyword.Keyword.{Keyword}
use Rattle.order_grammar.specs.declared.keyword.Keyword.TheVariants as keyword
use Rattle.order_grammar.specs.declared.order.Offer.TheVariants as offer
use Rattle.order_grammar.specs.declared.order.Order.{Order}
use Rattle.order_grammar.specs.declared.order.Order.TheVariants.{Blank, Game, Players, Sheet, Turn}
use Rattle.order_grammar.specs.declared.order.Order.TheVariants.{Company as CompanyTurn, Run, Certs, Cert, Claim}
use Rattle.order_grammar.specs.declared.order.Order.TheVariants.{Marks, Play}
use Rattle.order_grammar.specs.declared.order.ShareSource.{ShareSource}
use Rattle.order_grammar.specs.declared.order.ShareSource.TheVariants.{InitialOffering, BankPool}
use Rattle.order_grammar.specs.declared.order.Trailing.{Trailing}
use Rattle.order_grammar.specs.declared.order.Trailing.TheVariants as trailing
use Rattle.order_grammar.specs.declared.order.Trailing.TheVariants.{Nothing}
use Rattle.order_grammar.specs.declared.order.TrainSource.TheVariants as source
use Rattle.order_grammar.specs.declared.order.Value.{Value}
use Rattle.order_grammar.specs.declared.order.Value.TheVariants as value
use Rattle.order_grammar.specs.declared.play.PlayOrder.TheVariants.{BuyPrivate, Bid, Limit, Par, BuyShare, Sell}
use Rattle.order_grammar.specs.declared.play.PlayOrder.TheVariants.{ExchangeMohawk, Lay, Token, RunBest, Pay}
use Rattle.order_grammar.specs.declared.play.PlayOrder.TheVariants.{Withhold, BuyTrain, Discard, BuyOwnedPrivate}
use Rattle.order_grammar.specs.declared.play.PlayOrder.TheVariants.{Raise, Offer}

-- the literal word that names where a share is bought
abbrev pub keyword_of_source : ShareSource → Keyword
keyword_of_source InitialOffering = keyword.InitialOffering
keyword_of_source BankPool = keyword.Pool

-- the letters of the word that names where a share is bought
abbrev pub text_of_source : ShareSource → List ℕ
text_of_source source = text_of_keyword (keyword_of_source source)

-- a tile that is to be laid
abbrev pub lay_of : TileNo → Hex → Rotation → Bool → lays.Lay
lay_of tile hex rotation swap = record { hex = hex; tile = tile; rot = rotation; swap = swap }

-- what an order is made of, in the order of its line's words
pub record Parts : Type 0 where
  pub keyword : Keyword
  pub values : List Value
  pub trailing : Trailing

-- an order that is made of these
abbrev pub made_of : Keyword → List Value → Trailing → Option Parts
made_of keyword values trailing = Some (record { keyword = keyword; values = values; trailing = trailing })

-- the parts of an order; a blank line has none
abbrev pub parts_of : Order → Option Parts
parts_of Blank = None
parts_of (Game game version) = made_of keyword.Game (value.Number game ∷ value.Number version ∷ []) Nothing
parts_of (Players names) = made_of keyword.Players [] (trailing.Names names)
parts_of (Sheet name round) = made_of keyword.Sheet (value.Name name ∷ value.Round round ∷ []) Nothing
parts_of Turn = made_of keyword.Turn [] Nothing
parts_of (Play (BuyPrivate private)) = made_of keyword.Buy (value.Private private ∷ []) Nothing
parts_of (Play (Bid private amount)) = made_of keyword.Bid (value.Private private ∷ value.Number amount ∷ []) Nothing
parts_of (Play (Limit private amount)) = made_of keyword.Limit (value.Private private ∷ value.Number amount ∷ [])
    Nothing
parts_of (Play (Par company price)) = made_of keyword.Par (value.Company company ∷ value.Number price ∷ []) Nothing
parts_of (Play (BuyShare company from)) = made_of keyword.Buy
    (value.Company company ∷ value.Word (keyword_of_source from) ∷ []) Nothing
parts_of (Play (Sell company shares)) = made_of keyword.Sell (value.Company company ∷ value.Number shares ∷ []) Nothing
parts_of (Play ExchangeMohawk) = made_of keyword.Exchange (value.Word keyword.Mohawk ∷ []) Nothing
parts_of (CompanyTurn company) = made_of keyword.Company (value.Company company ∷ []) Nothing
parts_of (Play (Lay lay)) = made_of keyword.Lay (value.Tile lay.tile ∷ value.Hex lay.hex ∷ value.Rotation lay.rot
    ∷ (if lay.swap then value.Word keyword.Swap ∷ [] else [])) Nothing
parts_of (Play (Token place)) = made_of keyword.Token (value.Place place ∷ []) Nothing
parts_of (Run kind run) = made_of keyword.Run (value.Kind kind ∷ []) (trailing.Places run)
parts_of (Play RunBest) = made_of keyword.Run (value.Word keyword.Best ∷ []) Nothing
parts_of (Play Pay) = made_of keyword.Pay [] Nothing
parts_of (Play Withhold) = made_of keyword.Withhold [] Nothing
parts_of (Play (BuyTrain kind source.Bank)) =
    made_of keyword.Train (value.Kind kind ∷ value.Word keyword.Bank ∷ []) Nothing
parts_of (Play (BuyTrain kind (source.Trade other))) = made_of keyword.Train
    (value.Kind kind ∷ value.Word keyword.Bank ∷ value.Word keyword.Trade ∷ value.Kind other ∷ []) Nothing
parts_of (Play (BuyTrain kind source.BankPool)) =
    made_of keyword.Train (value.Kind kind ∷ value.Word keyword.Pool ∷ []) Nothing
parts_of (Play (BuyTrain kind (source.Company seller price))) =
    made_of keyword.Train (value.Kind kind ∷ value.Company seller ∷ value.Number price ∷ []) Nothing
parts_of (Play (Discard company kind)) = made_of keyword.Discard (value.Company company ∷ value.Kind kind ∷ []) Nothing
parts_of (Play (BuyOwnedPrivate private price)) =
    made_of keyword.Private (value.Private private ∷ value.Number price ∷ []) Nothing
parts_of (Play (Raise company shares)) = made_of keyword.Raise (value.Company company ∷ value.Number shares ∷ [])
    Nothing
parts_of (Play (Offer (offer.Private private buyer price))) = made_of keyword.Offer
    (value.Word keyword.Private ∷ value.Private private ∷ value.Company buyer ∷ value.Number price ∷ []) Nothing
parts_of (Play (Offer (offer.Train kind seller buyer price))) = made_of keyword.Offer
    (value.Word keyword.Train ∷ value.Kind kind ∷ value.Company seller ∷ value.Company buyer ∷ value.Number price ∷ [])
    Nothing
parts_of Certs = made_of keyword.Certs (value.Word keyword.One ∷ []) Nothing
parts_of (Cert round company revenue) =
    made_of keyword.Cert (value.Round round ∷ value.Company company ∷ value.Number revenue ∷ []) Nothing
parts_of (Claim kind run) = made_of keyword.Claim (value.Kind kind ∷ []) (trailing.Places run)
parts_of Marks = made_of keyword.Marks (value.HexDigits ∷ []) Nothing

-- the order of these parts, if there is one
abbrev pub order_from : Keyword → List Value → Trailing → Option Order
order_from keyword.Game (value.Number game ∷ value.Number version ∷ []) Nothing = Some (Game game version)
order_from keyword.Players [] (trailing.Names names) = Some (Players names)
order_from keyword.Sheet (value.Name name ∷ value.Round round ∷ []) Nothing = Some (Sheet name round)
order_from keyword.Turn [] Nothing = Some Turn
order_from keyword.Buy (value.Private private ∷ []) Nothing = Some (Play (BuyPrivate private))
order_from keyword.Buy (value.Company company ∷ value.Word keyword.InitialOffering ∷ []) Nothing =
    Some (Play (BuyShare company InitialOffering))
order_from keyword.Buy (value.Company company ∷ value.Word keyword.Pool ∷ []) Nothing =
    Some (Play (BuyShare company BankPool))
order_from keyword.Bid (value.Private private ∷ value.Number amount ∷ []) Nothing = Some (Play (Bid private amount))
order_from keyword.Limit (value.Private private ∷ value.Number amount ∷ []) Nothing = Some (Play (Limit private amount))
order_from keyword.Par (value.Company company ∷ value.Number price ∷ []) Nothing = Some (Play (Par company price))
order_from keyword.Sell (value.Company company ∷ value.Number shares ∷ []) Nothing = Some (Play (Sell company shares))
order_from keyword.Exchange (value.Word keyword.Mohawk ∷ []) Nothing = Some (Play ExchangeMohawk)
order_from keyword.Company (value.Company company ∷ []) Nothing = Some (CompanyTurn company)
order_from keyword.Lay (value.Tile tile ∷ value.Hex hex ∷ value.Rotation rotation ∷ []) Nothing =
    Some (Play (Lay (lay_of tile hex rotation false)))
order_from keyword.Lay (value.Tile tile ∷ value.Hex hex ∷ value.Rotation rotation ∷ value.Word keyword.Swap
    ∷ []) Nothing = Some (Play (Lay (lay_of tile hex rotation true)))
order_from keyword.Token (value.Place place ∷ []) Nothing = Some (Play (Token place))
order_from keyword.Run (value.Kind kind ∷ []) (trailing.Places run) = Some (Run kind run)
order_from keyword.Run (value.Word keyword.Best ∷ []) Nothing = Some (Play RunBest)
order_from keyword.Pay [] Nothing = Some (Play Pay)
order_from keyword.Withhold [] Nothing = Some (Play Withhold)
order_from keyword.Train (value.Kind kind ∷ value.Word keyword.Bank ∷ []) Nothing =
    Some (Play (BuyTrain kind source.Bank))
order_from keyword.Train (value.Kind kind ∷ value.Word keyword.Bank ∷ value.Word keyword.Trade
    ∷ value.Kind other ∷ []) Nothing = Some (Play (BuyTrain kind (source.Trade other)))
order_from keyword.Train (value.Kind kind ∷ value.Word keyword.Pool ∷ []) Nothing =
    Some (Play (BuyTrain kind source.BankPool))
order_from keyword.Train (value.Kind kind ∷ value.Company seller ∷ value.Number price ∷ []) Nothing =
    Some (Play (BuyTrain kind (source.Company seller price)))
order_from keyword.Discard (value.Company company ∷ value.Kind kind ∷ []) Nothing = Some (Play (Discard company kind))
order_from keyword.Private (value.Private private ∷ value.Number price ∷ []) Nothing =
    Some (Play (BuyOwnedPrivate private price))
order_from keyword.Raise (value.Company company ∷ value.Number shares ∷ []) Nothing = Some (Play (Raise company shares))
order_from keyword.Offer (value.Word keyword.Private ∷ value.Private private ∷ value.Company buyer
    ∷ value.Number price ∷ []) Nothing = Some (Play (Offer (offer.Private private buyer price)))
order_from keyword.Offer (value.Word keyword.Train ∷ value.Kind kind ∷ value.Company seller
    ∷ value.Company buyer ∷ value.Number price ∷ []) Nothing = Some (Play (Offer (offer.Train kind seller buyer price)))
order_from keyword.Certs (value.Word keyword.One ∷ []) Nothing = Some Certs
order_from keyword.Cert (value.Round round ∷ value.Company company ∷ value.Number revenue ∷ []) Nothing =
    Some (Cert round company revenue)
order_from keyword.Claim (value.Kind kind ∷ []) (trailing.Places run) = Some (Claim kind run)
order_from keyword.Marks (value.HexDigits ∷ []) Nothing = Some Marks
order_from other values trailing = None

-- the order that was put in its place, if one was
abbrev pub put_if : Bool → Order → Option Order
put_if true order = Some order
put_if false order = None
