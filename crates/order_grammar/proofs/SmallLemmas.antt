-- The numbers of an order's parts: they are small where those of its form are.
use Rattle.std.proofs.Common.{◌≡◌, Bool, true, nat_le, ◌&&◌, if◌then◌else◌, [], ◌∷◌, Option, Some, None, refl}
use Rattle.std.specs.List.{list_all}
use Rattle.std.proofs.lemmas.Bool.{and_parts, le-leb, leb-true}
use Rattle.tables.specs.Round.{number_most}
use Rattle.tables.specs.declared.round.Round.{Round}
use Rattle.tables.specs.declared.round.Round.TheVariants.{Opening, Stock, Operating}
use Rattle.order_grammar.specs.Order.{parts_of, Parts}
use Rattle.order_grammar.specs.Spells.{HasSmallNumbers, IsSmallRound}
use Rattle.order_grammar.specs.declared.keyword.Keyword.TheVariants as keyword
use Rattle.order_grammar.specs.declared.order.Offer.TheVariants as offer
use Rattle.order_grammar.specs.declared.order.Order.{Order}
use Rattle.order_grammar.specs.declared.order.Order.TheVariants.{Game, Sheet, Cert, Play}
use Rattle.order_grammar.specs.declared.order.TrainSource.TheVariants as source
use Rattle.order_grammar.specs.declared.order.Value.{Value}
use Rattle.order_grammar.specs.declared.order.Value.TheVariants as value
use Rattle.order_grammar.specs.declared.play.PlayOrder.TheVariants.{Bid, Limit, Par, Sell, Lay, BuyTrain}
use Rattle.order_grammar.specs.declared.play.PlayOrder.TheVariants.{BuyOwnedPrivate, Raise, Offer}

-- whether a round's number, or that of its set, is small enough for a line
abbrev pub is_small_round : Round → Bool
is_small_round (Opening number) = nat_le number number_most
is_small_round (Stock number) = nat_le number number_most
is_small_round (Operating set number) = nat_le set number_most

-- whether a value has no number that is too large
abbrev pub is_small : Value → Bool
is_small (value.Number number) = nat_le number number_most
is_small (value.Round round) = is_small_round round
is_small other = true

-- whether parts have no number that is too large
abbrev pub are_small : Option Parts → Bool
are_small None = true
are_small (Some parts) = list_all is_small parts.values

round_by_parts : (round : Round) → IsSmallRound round → is_small_round round ≡ true
round_by_parts (Opening number) small = le-leb number number_most small
round_by_parts (Stock number) small = le-leb number number_most small
round_by_parts (Operating set number) small = le-leb set number_most small

round_of_parts : (round : Round) → is_small_round round ≡ true → IsSmallRound round
round_of_parts (Opening number) small = leb-true number number_most small
round_of_parts (Stock number) small = leb-true number number_most small
round_of_parts (Operating set number) small = leb-true set number_most small

-- the words of a lay have no numbers
swap_small : (swap : Bool) → list_all is_small (if swap then value.Word keyword.Swap ∷ [] else []) ≡ true
swap_small true = refl
swap_small other = refl

-- the parts of an order with small numbers are small
pub small_by_parts : (order : Order) → HasSmallNumbers order → are_small (parts_of order) ≡ true
small_by_parts (Game game version) small = rw (le-leb game number_most small.0, le-leb version number_most small.1) refl
small_by_parts (Sheet name round) small = rw (round_by_parts round small) refl
small_by_parts (Play (Bid private amount)) small = rw (le-leb amount number_most small) refl
small_by_parts (Play (Limit private amount)) small = rw (le-leb amount number_most small) refl
small_by_parts (Play (Par company price)) small = rw (le-leb price number_most small) refl
small_by_parts (Play (Sell company shares)) small = rw (le-leb shares number_most small) refl
small_by_parts (Play (Lay lay)) small = swap_small lay.swap
small_by_parts (Play (BuyTrain kind source.Bank)) small = refl
small_by_parts (Play (BuyTrain kind (source.Trade other))) small = refl
small_by_parts (Play (BuyTrain kind source.BankPool)) small = refl
small_by_parts (Play (BuyTrain kind (source.Company seller price))) small = rw (le-leb price number_most small) refl
small_by_parts (Play (BuyOwnedPrivate private price)) small = rw (le-leb price number_most small) refl
small_by_parts (Play (Raise company shares)) small = rw (le-leb shares number_most small) refl
small_by_parts (Play (Offer (offer.Private private buyer price))) small = rw (le-leb price number_most small) refl
small_by_parts (Play (Offer (offer.Train kind seller buyer price))) small = rw (le-leb price number_most small) refl
small_by_parts (Cert round company revenue) small =
    rw (round_by_parts round small.0, le-leb revenue number_most small.1) refl
small_by_parts other small = refl

-- an order whose parts are small has small numbers
pub small_of_parts : (order : Order) → are_small (parts_of order) ≡ true → HasSmallNumbers order
small_of_parts (Game game version) small =
    let first = and_parts (nat_le game number_most) (nat_le version number_most && true) small in (
      leb-true game number_most first.0,
      leb-true version number_most
          (and_parts (nat_le version number_most) true first.1).0,
    )
small_of_parts (Sheet name round) small = round_of_parts round (and_parts (is_small_round round) true small).0
small_of_parts (Play (Bid private amount)) small = leb-true amount number_most
    (and_parts (nat_le amount number_most) true small).0
small_of_parts (Play (Limit private amount)) small = leb-true amount number_most
    (and_parts (nat_le amount number_most) true small).0
small_of_parts (Play (Par company price)) small = leb-true price number_most
    (and_parts (nat_le price number_most) true small).0
small_of_parts (Play (Sell company shares)) small = leb-true shares number_most
    (and_parts (nat_le shares number_most) true small).0
small_of_parts (Play (BuyTrain kind source.Bank)) small = tt
small_of_parts (Play (BuyTrain kind (source.Trade other))) small = tt
small_of_parts (Play (BuyTrain kind source.BankPool)) small = tt
small_of_parts (Play (BuyTrain kind (source.Company seller price))) small =
    leb-true price number_most (and_parts (nat_le price number_most) true small).0
small_of_parts (Play (BuyOwnedPrivate private price)) small =
    leb-true price number_most (and_parts (nat_le price number_most) true small).0
small_of_parts (Play (Raise company shares)) small = leb-true shares number_most
    (and_parts (nat_le shares number_most) true small).0
small_of_parts (Play (Offer (offer.Private private buyer price))) small =
    leb-true price number_most (and_parts (nat_le price number_most) true small).0
small_of_parts (Play (Offer (offer.Train kind seller buyer price))) small =
    leb-true price number_most (and_parts (nat_le price number_most) true small).0
small_of_parts (Cert round company revenue) small =
    let first = and_parts (is_small_round round) (nat_le revenue number_most && true) small in
    (round_of_parts round first.0, leb-true revenue number_most (and_parts (nat_le revenue number_most) true first.1).0)
small_of_parts other small = tt
