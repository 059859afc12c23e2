-- The rows of standing lines, those before the first written turn. In an opening a seat is told what
-- becomes of LIMIT on each private on which it holds a bid, at that bid. In an operating round it is
-- told what becomes of:
--
-- - DISCARD of each kind of train of each company over which it presides;
-- - OFFER of such a train to each other company that is started, at the price of its kind;
-- - OFFER of each private that it owns to each company that is started, at its face value.
--
-- Each is judged by the rules of standing lines of the round. No money moves by DISCARD and OFFER.
use Rattle.std.specs.Prelude.{ℕ, ◌++◌, ◌&&◌, Bool, not, List, [], ◌∷◌, Option, Some, None, map, pos}
use Rattle.std.specs.List.{flat_map}
use Rattle.events.specs.declared.event.Event.{Event}
use Rattle.moves.specs.Rows.{answer_of, only_if}
use Rattle.moves.specs.declared.row.Answer.{Answer}
use Rattle.moves.specs.declared.row.Row.{Row}
use Rattle.order_grammar.specs.declared.order.Offer.TheVariants as offer
use Rattle.order_grammar.specs.declared.order.Order.{Order}
use Rattle.order_grammar.specs.declared.order.Order.TheVariants.{Play}
use Rattle.order_grammar.specs.declared.play.PlayOrder.{PlayOrder}
use Rattle.order_grammar.specs.declared.play.PlayOrder.TheVariants.{Discard, Limit, Offer as OfferLine}
use Rattle.privates.specs.Standing.{opening_standing_refusal}
use Rattle.purchases.specs.Discard.{has_train, is_president}
use Rattle.purchases.specs.Standing.{operating_standing_judgement}
use Rattle.tables.specs.Roster.{companies, face_of, privates, same_company}
use Rattle.tables.specs.Train.{kinds, trains_of}
use Rattle.tables.specs.declared.rolling_stock.Kind.{Kind}
use Rattle.tables.specs.declared.roster.Company.{Company}
use Rattle.tables.specs.declared.roster.Private.{Private}
use Rattle.tables.specs.declared.round.Round.{Round}
use Rattle.tables.specs.declared.round.Round.TheVariants.{Opening, Stock, Operating}
use Rattle.tables.specs.declared.seat.Seat.{Seat}
use Rattle.totals.specs.Bids.{bid_of}
use Rattle.totals.specs.LookBack.{is_owner, owner_of}
use Rattle.totals.specs.Shares.{is_started, president_of}

-- LIMIT on a private at this bid, if there is one
abbrev pub limit_at : Private → Option ℕ → List PlayOrder
limit_at private None = []
limit_at private (Some amount) = Limit private amount ∷ []

-- LIMIT on a private at the bid that a seat holds on it
abbrev pub limit_on : List Event → Seat → Private → List PlayOrder
limit_on events seat private = limit_at private (bid_of events private seat)

-- and on all privates
abbrev pub limits : List Event → Seat → List PlayOrder
limits events seat = flat_map (limit_on events seat) privates

-- the sum that a standing line of an opening names
abbrev pub before_cost : Order → ℕ
before_cost (Play (Limit private amount)) = amount
before_cost other = 0

-- what becomes of an order as a standing line of an opening
abbrev pub before_answer : List Event → Order → Answer
before_answer events order = answer_of (pos (before_cost order)) (opening_standing_refusal events order)

-- its row
abbrev pub before_row : List Event → PlayOrder → Row
before_row events order = record { order = order; answer = before_answer events (Play order) }

-- a seat presides over a company that has a train of a kind
abbrev pub may_give : List Event → Seat → Company → Kind → Bool
may_give events seat company kind = is_president (president_of events company) seat && has_train events company kind

-- DISCARD of a kind of a company, if the seat presides over it and it has such a train
abbrev pub discard_of : List Event → Seat → Company → Kind → List PlayOrder
discard_of events seat company kind = only_if (may_give events seat company kind) (Discard company kind ∷ [])

-- of all kinds
abbrev pub discards_of : List Event → Seat → Company → List PlayOrder
discards_of events seat company = flat_map (discard_of events seat company) kinds

-- and of all companies
unfoldable pub discards : List Event → Seat → List PlayOrder
discards events seat = flat_map (discards_of events seat) companies

-- a company is started and is not the seller
abbrev pub may_take_train : List Event → Company → Company → Bool
may_take_train events seller buyer = is_started events buyer && not (same_company seller buyer)

-- OFFER of a train to a company at the price of its kind, if the seat presides over the seller,
-- which has such a train, and the buyer is another company that is started
abbrev pub train_offer : List Event → Seat → Company → Kind → Company → List PlayOrder
train_offer events seat seller kind buyer =
    only_if (may_give events seat seller kind && may_take_train events seller buyer)
    (OfferLine (offer.Train kind seller buyer (trains_of kind).price) ∷ [])

-- to all companies
abbrev pub offers_of_kind : List Event → Seat → Company → Kind → List PlayOrder
offers_of_kind events seat seller kind = flat_map (train_offer events seat seller kind) companies

-- of all kinds
abbrev pub train_offers_of : List Event → Seat → Company → List PlayOrder
train_offers_of events seat seller = flat_map (offers_of_kind events seat seller) kinds

-- and of all companies
unfoldable pub train_offers : List Event → Seat → List PlayOrder
train_offers events seat = flat_map (train_offers_of events seat) companies

-- OFFER of a private to a company at its face value, if the seat owns it and the company is started
abbrev pub private_offer : List Event → Seat → Private → Company → List PlayOrder
private_offer events seat private buyer =
    only_if (is_owner seat (owner_of events private) && is_started events buyer)
    (OfferLine (offer.Private private buyer (face_of private)) ∷ [])

-- to all companies
abbrev pub private_offers_of : List Event → Seat → Private → List PlayOrder
private_offers_of events seat private = flat_map (private_offer events seat private) companies

-- and of all privates
unfoldable pub private_offers : List Event → Seat → List PlayOrder
private_offers events seat = flat_map (private_offers_of events seat) privates

-- the standing lines of an operating round
unfoldable pub standing_orders : List Event → Seat → List PlayOrder
standing_orders events seat = discards events seat ++ (train_offers events seat ++ private_offers events seat)

-- what becomes of an order as a standing line of an operating round
abbrev pub standing_answer : List Event → Seat → Order → Answer
standing_answer events seat order = answer_of (pos 0) (operating_standing_judgement events seat order)

-- its row
abbrev pub standing_row : List Event → Seat → PlayOrder → Row
standing_row events seat order = record { order = order; answer = standing_answer events seat (Play order) }

-- the rows of a seat's standing lines for a round
abbrev pub standing_rows : List Event → Seat → Round → List Row
standing_rows events seat (Opening number) = map (before_row events) (limits events seat)
standing_rows events seat (Stock number) = []
standing_rows events seat (Operating set number) = map (standing_row events seat) (standing_orders events seat)
