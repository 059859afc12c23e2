-- The printed text of an order of a turn, of a company, or of a standing line, is one line.
use Rattle.std.proofs.Common.{◌≡◌, ℕ, ◌≤◌, Bool, true, false, List, [], ◌∷◌, ◌++◌, codes, Option, Some, None, refl, arith}
use Rattle.std.specs.Fmt.{decimal}
use Rattle.std.specs.List.{AllByRecursion, list_all}
use Rattle.std.proofs.lemmas.Bool.{and_from}
use Rattle.std.proofs.lemmas.Bool.Decides.{nat_tests}
use Rattle.desk_promise.proofs.OneLine.{IsUnbroken, both_unbroken, company_unbroken, is_within, number_unbroken}
use Rattle.desk_promise.proofs.OneLine.{spaced_unbroken}
use Rattle.desk_promise.specs.LineFile.{IsOfCompanies, IsOfTurns, IsStanding, line_of_order}
use Rattle.map_tables.proofs.HexTables.{column_within, row_within}
use Rattle.map_tables.proofs.Texts.{number_short}
use Rattle.map_tables.specs.Hex.{column_of, row_of}
use Rattle.map_tables.specs.Side.{sixths_turned}
use Rattle.map_tables.specs.Text.{stop_text, text_of_hex, text_of_place, text_of_rotation, text_of_tile}
use Rattle.map_tables.specs.Tile.{number_of_tile}
use Rattle.map_tables.specs.declared.hex.Hex.{Hex}
use Rattle.map_tables.specs.declared.place.Place.{Place}
use Rattle.map_tables.specs.declared.place.StopNumber.{StopNumber}
use Rattle.map_tables.specs.declared.place.StopNumber.TheVariants.{First, Second}
use Rattle.map_tables.specs.declared.side.Rotation.{Rotation}
use Rattle.map_tables.specs.declared.side.Rotation.TheVariants.{Zero}
use Rattle.map_tables.specs.declared.tiles.TileNo.{TileNo}
use Rattle.order_grammar.specs.Order.{text_of_source}
use Rattle.order_grammar.specs.Print.{spaced}
use Rattle.order_grammar.specs.Spells.{HasSmallOffer, HasSmallPrice}
use Rattle.order_grammar.specs.declared.order.Offer.{Offer}
use Rattle.order_grammar.specs.declared.order.Offer.TheVariants as offer
use Rattle.order_grammar.specs.declared.order.ShareSource.{ShareSource}
use Rattle.order_grammar.specs.declared.order.ShareSource.TheVariants.{InitialOffering, BankPool}
use Rattle.order_grammar.specs.declared.order.TrainSource.{TrainSource}
use Rattle.order_grammar.specs.declared.order.TrainSource.TheVariants as source
use Rattle.order_grammar.specs.declared.play.PlayOrder.{PlayOrder}
use Rattle.order_grammar.specs.declared.play.PlayOrder.TheVariants as play
use Rattle.tables.specs.Round.{number_most}
use Rattle.tables.specs.Roster.{code_of_company, code_of_private}
use Rattle.tables.specs.Train.{code_of_kind}
use Rattle.tables.specs.declared.rolling_stock.Kind.{Kind}
use Rattle.tables.specs.declared.rolling_stock.Kind.TheVariants as kinds
use Rattle.tables.specs.declared.roster.Private.{Private}
use Rattle.tables.specs.declared.roster.Private.TheVariants as private

private_unbroken : (private : Private) → IsUnbroken (code_of_private private)
private_unbroken private.SchuylkillValley = refl
private_unbroken other = refl

source_unbroken : (from : ShareSource) → IsUnbroken (text_of_source from)
source_unbroken InitialOffering = refl
source_unbroken BankPool = refl

small_unbroken : (number : ℕ) → number ≤ number_most → IsUnbroken (decimal number)
small_unbroken number small = number_unbroken number (omega (arith, small))

-- a first word, and others with a space before each
words_unbroken : (first : List ℕ) (words : List (List ℕ)) → IsUnbroken first → AllByRecursion IsUnbroken words
    → IsUnbroken (first ++ spaced words)
words_unbroken first words one all = both_unbroken first (spaced words) one (spaced_unbroken words all)

pub line_unbroken : (order : PlayOrder) → IsOfTurns order → IsUnbroken (line_of_order order)
line_unbroken (play.BuyPrivate private) its =
    words_unbroken (codes "BUY") (code_of_private private ∷ []) refl (private_unbroken private, tt)
line_unbroken (play.Bid private amount) its =
    words_unbroken (codes "BID") (code_of_private private ∷ decimal amount ∷ []) refl
    (private_unbroken private, (small_unbroken amount its, tt))
line_unbroken (play.Par company price) its =
    words_unbroken (codes "PAR") (code_of_company company ∷ decimal price ∷ []) refl
    (company_unbroken company, (small_unbroken price its, tt))
line_unbroken (play.BuyShare company from) its =
    words_unbroken (codes "BUY") (code_of_company company ∷ text_of_source from ∷ []) refl
    (company_unbroken company, (source_unbroken from, tt))
line_unbroken (play.Sell company shares) its =
    words_unbroken (codes "SELL") (code_of_company company ∷ decimal shares ∷ []) refl
    (company_unbroken company, (small_unbroken shares its, tt))
line_unbroken play.ExchangeMohawk its = refl
line_unbroken other its = absurd its

kind_unbroken : (kind : Kind) → IsUnbroken (code_of_kind kind)
kind_unbroken kinds.Two = refl
kind_unbroken other = refl

-- the words of hexes, places, tiles and rotations are unbroken
hex_unbroken : (hex : Hex) → IsUnbroken (text_of_hex hex)
hex_unbroken hex =
    let row = row_within hex in
    let column = column_within hex in
    let letter : is_within (row_of hex) ≡ true = grind (arith, nat_tests, row.0) in
    and_from (is_within (row_of hex)) (list_all is_within (decimal (column_of hex))) letter
    (number_unbroken (column_of hex) (omega (arith, column.1)))

stop_unbroken : (stop : Option StopNumber) → IsUnbroken (stop_text stop)
stop_unbroken None = refl
stop_unbroken (Some First) = number_unbroken 0 (omega arith)
stop_unbroken (Some Second) = number_unbroken 1 (omega arith)

place_unbroken : (place : Place) → IsUnbroken (text_of_place place)
place_unbroken place =
    both_unbroken (text_of_hex place.hex) (stop_text place.stop) (hex_unbroken place.hex) (stop_unbroken place.stop)

tile_unbroken : (tile : TileNo) → IsUnbroken (text_of_tile tile)
tile_unbroken tile = number_unbroken (number_of_tile tile) (omega (arith, number_short tile))

rotation_unbroken : (rotation : Rotation) → IsUnbroken (text_of_rotation rotation)
rotation_unbroken Zero = number_unbroken 0 (omega arith)
rotation_unbroken other = number_unbroken (sixths_turned other) (omega arith)

-- a lay, with its stops swapped or not
lay_unbroken : (tile : TileNo) (hex : Hex) (rotation : Rotation) (swap : Bool)
    → IsUnbroken (line_of_order (play.Lay (record { hex = hex; tile = tile; rot = rotation; swap = swap })))
lay_unbroken tile hex rotation true =
    words_unbroken (codes "LAY") (text_of_tile tile ∷ text_of_hex hex ∷ text_of_rotation rotation ∷ codes "SWAP" ∷ []) refl
    (tile_unbroken tile, (hex_unbroken hex, (rotation_unbroken rotation, (refl, tt))))
lay_unbroken tile hex rotation false =
    words_unbroken (codes "LAY") (text_of_tile tile ∷ text_of_hex hex ∷ text_of_rotation rotation ∷ []) refl
    (tile_unbroken tile, (hex_unbroken hex, (rotation_unbroken rotation, tt)))

-- a train, of any seller
train_unbroken : (kind : Kind) (from : TrainSource) → HasSmallPrice from → IsUnbroken (line_of_order (play.BuyTrain kind from))
train_unbroken kind source.Bank small =
    words_unbroken (codes "TRAIN") (code_of_kind kind ∷ codes "BANK" ∷ []) refl (kind_unbroken kind, (refl, tt))
train_unbroken kind (source.Trade other) small =
    words_unbroken (codes "TRAIN") (code_of_kind kind ∷ codes "BANK" ∷ codes "TRADE" ∷ code_of_kind other ∷ []) refl
    (kind_unbroken kind, (refl, (refl, (kind_unbroken other, tt))))
train_unbroken kind source.BankPool small =
    words_unbroken (codes "TRAIN") (code_of_kind kind ∷ codes "POOL" ∷ []) refl (kind_unbroken kind, (refl, tt))
train_unbroken kind (source.Company seller price) small =
    words_unbroken (codes "TRAIN") (code_of_kind kind ∷ code_of_company seller ∷ decimal price ∷ []) refl
    (kind_unbroken kind, (company_unbroken seller, (small_unbroken price small, tt)))

pub company_line_unbroken : (order : PlayOrder) → IsOfCompanies order → IsUnbroken (line_of_order order)
company_line_unbroken (play.Lay lay) its = lay_unbroken lay.tile lay.hex lay.rot lay.swap
company_line_unbroken (play.Token place) its =
    words_unbroken (codes "TOKEN") (text_of_place place ∷ []) refl (place_unbroken place, tt)
company_line_unbroken play.RunBest its = refl
company_line_unbroken play.Pay its = refl
company_line_unbroken play.Withhold its = refl
company_line_unbroken (play.BuyTrain kind from) its = train_unbroken kind from its
company_line_unbroken (play.BuyOwnedPrivate private price) its =
    words_unbroken (codes "PRIVATE") (code_of_private private ∷ decimal price ∷ []) refl
    (private_unbroken private, (small_unbroken price its, tt))
company_line_unbroken (play.Raise company shares) its =
    words_unbroken (codes "RAISE") (code_of_company company ∷ decimal shares ∷ []) refl
    (company_unbroken company, (small_unbroken shares its, tt))
company_line_unbroken other its = absurd its

-- an offer, of a private or a train
offer_unbroken : (sale : Offer) → HasSmallOffer sale → IsUnbroken (line_of_order (play.Offer sale))
offer_unbroken (offer.Private private buyer price) small =
    words_unbroken (codes "OFFER")
    (codes "PRIVATE" ∷ code_of_private private ∷ code_of_company buyer ∷ decimal price ∷ []) refl
    (refl, (private_unbroken private, (company_unbroken buyer, (small_unbroken price small, tt))))
offer_unbroken (offer.Train kind seller buyer price) small =
    words_unbroken (codes "OFFER")
    (codes "TRAIN" ∷ code_of_kind kind ∷ code_of_company seller ∷ code_of_company buyer ∷ decimal price ∷ []) refl
    (refl, (kind_unbroken kind, (company_unbroken seller, (company_unbroken buyer, (small_unbroken price small, tt)))))

pub standing_line_unbroken : (order : PlayOrder) → IsStanding order → IsUnbroken (line_of_order order)
standing_line_unbroken (play.Limit private amount) its =
    words_unbroken (codes "LIMIT") (code_of_private private ∷ decimal amount ∷ []) refl
    (private_unbroken private, (small_unbroken amount its, tt))
standing_line_unbroken (play.Discard company kind) its =
    words_unbroken (codes "DISCARD") (code_of_company company ∷ code_of_kind kind ∷ []) refl
    (company_unbroken company, (kind_unbroken kind, tt))
standing_line_unbroken (play.Offer sale) its = offer_unbroken sale its
standing_line_unbroken other its = absurd its
