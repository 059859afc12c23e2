-- The parts of an order that has a spelling are those of a form, and have words.
use Rattle.std.proofs.Common.{◌≡◌, Bool, true, false, nat_le, ◌&&◌, Option, Some, None, length, refl}
use Rattle.std.specs.List.{list_all}
use Rattle.std.proofs.lemmas.Bool.{le-leb}
use Rattle.map_tables.specs.declared.hex.Hex.{Hex}
use Rattle.map_tables.specs.declared.side.Rotation.{Rotation}
use Rattle.map_tables.specs.declared.tiles.TileNo.{TileNo}
use Rattle.order_grammar.specs.Form.{has_form}
use Rattle.order_grammar.specs.Name.{is_name}
use Rattle.order_grammar.specs.Order.{lay_of, parts_of, Parts}
use Rattle.order_grammar.specs.Spells.{HasSpelling, is_round_of_line}
use Rattle.order_grammar.specs.declared.order.Offer.TheVariants as offer
use Rattle.order_grammar.specs.declared.order.Order.{Order}
use Rattle.order_grammar.specs.declared.order.Order.TheVariants.{Game, Players, Sheet, Run, Cert, Claim, Marks, Play}
use Rattle.order_grammar.specs.declared.order.ShareSource.TheVariants.{InitialOffering, BankPool}
use Rattle.order_grammar.specs.declared.order.TrainSource.TheVariants as source
use Rattle.order_grammar.specs.declared.order.Value.{Value}
use Rattle.order_grammar.specs.declared.order.Value.TheVariants as value
use Rattle.order_grammar.specs.declared.play.PlayOrder.TheVariants.{Bid, Limit, Par, BuyShare, Sell, Lay, BuyTrain}
use Rattle.order_grammar.specs.declared.play.PlayOrder.TheVariants.{BuyOwnedPrivate, Raise, Offer}
use Rattle.tables.specs.Round.{number_most}

-- whether a value has a word
abbrev pub has_word : Value → Bool
has_word (value.Number number) = nat_le number number_most
has_word (value.Name name) = is_name name
has_word (value.Round round) = is_round_of_line round
has_word value.HexDigits = false
has_word other = true

-- whether parts are those of a form, and have words
abbrev pub have_words : Option Parts → Bool
have_words None = true
have_words (Some parts) = has_form parts && list_all has_word parts.values

lay_has_words : (tile : TileNo) (hex : Hex) (rot : Rotation) (swap : Bool)
    → have_words (parts_of (Play (Lay (lay_of tile hex rot swap)))) ≡ true
lay_has_words tile hex rot true = refl
lay_has_words tile hex rot other = refl

-- so those of an order that has a spelling do
pub has_words : (order : Order) → HasSpelling order → have_words (parts_of order) ≡ true
has_words (Game game version) has = rw (le-leb game number_most has.0, le-leb version number_most has.1) refl
has_words (Players names) has =
    let least = le-leb 3 (length names.items) has.0 in
    let most = le-leb (length names.items) 6 has.1 in
    let each : list_all is_name names.items ≡ true = has.2 in
    rw (least, most, each) refl
has_words (Sheet name round) has =
    let named : is_name name ≡ true = has.0 in
    let numbered : is_round_of_line round ≡ true = has.1 in
    rw (named, numbered) refl
has_words (Play (Bid private amount)) has = rw (le-leb amount number_most has) refl
has_words (Play (Limit private amount)) has = rw (le-leb amount number_most has) refl
has_words (Play (Par company price)) has = rw (le-leb price number_most has) refl
has_words (Play (BuyShare company InitialOffering)) has = refl
has_words (Play (BuyShare company BankPool)) has = refl
has_words (Play (Sell company shares)) has = rw (le-leb shares number_most has) refl
has_words (Play (Lay lay)) has = lay_has_words lay.tile lay.hex lay.rot lay.swap
has_words (Run kind run) has =
    let least = le-leb 2 (length run) has.0 in
    let most = le-leb (length run) 280 has.1 in
    rw (least, most) refl
has_words (Play (BuyTrain kind source.Bank)) has = refl
has_words (Play (BuyTrain kind (source.Trade other))) has = refl
has_words (Play (BuyTrain kind source.BankPool)) has = refl
has_words (Play (BuyTrain kind (source.Company seller price))) has = rw (le-leb price number_most has) refl
has_words (Play (BuyOwnedPrivate private price)) has = rw (le-leb price number_most has) refl
has_words (Play (Raise company shares)) has = rw (le-leb shares number_most has) refl
has_words (Play (Offer (offer.Private private buyer price))) has = rw (le-leb price number_most has) refl
has_words (Play (Offer (offer.Train kind seller buyer price))) has = rw (le-leb price number_most has) refl
has_words (Cert round company revenue) has =
    let numbered : is_round_of_line round ≡ true = has.0 in
    rw (numbered, le-leb revenue number_most has.1) refl
has_words (Claim kind run) has =
    let least = le-leb 2 (length run) has.0 in
    let most = le-leb (length run) 280 has.1 in
    rw (least, most) refl
has_words Marks has = absurd has
has_words other has = refl
