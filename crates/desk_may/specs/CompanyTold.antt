-- What is told of the rows of a company's turn. An order for a train or a private that would be obeyed, or
-- that lacks only a consent, is told with its price. For a train of another company, and for a private, the
-- highest price is told as well, and who must offer it if another player does. Of refused orders the player
-- is told those for each kind of train that the bank sells, and for each private that a player owns: the rule
-- that is broken if the seller consents, and if the company has too little, the price and what it has.
use Rattle.std.specs.Prelude.{ℕ, ◌*◌, ◌/◌, ◌==◌, if◌then◌else◌, List, Option, Some, None, ℤ, pos, is_none}
use Rattle.std.specs.Int.Signed.{le_z}
use Rattle.desk_may.specs.Offerers.{as_offered}
use Rattle.desk_may.specs.Told.{lacks_money, not_by}
use Rattle.desk_may.specs.declared.told.Held.TheVariants.{ItsCash}
use Rattle.desk_may.specs.declared.told.Note.{Note}
use Rattle.desk_may.specs.declared.told.Note.TheVariants.{Nothing, UpTo}
use Rattle.desk_may.specs.declared.told.Told.{Told}
use Rattle.desk_may.specs.declared.told.Told.TheVariants.{May, Not}
use Rattle.events.specs.declared.event.Event.{Event}
use Rattle.events.specs.declared.event.Holder.{Holder}
use Rattle.events.specs.declared.event.Holder.TheVariants as holder
use Rattle.events.specs.declared.ruling.PrivateRule.{PrivateRule}
use Rattle.events.specs.declared.ruling.Refusal.{Refusal}
use Rattle.events.specs.declared.ruling.Refusal.TheVariants as refusal
use Rattle.forced_purchase.specs.declared.operator.Operator.{Operator}
use Rattle.moves.specs.declared.row.Answer.{Answer}
use Rattle.moves.specs.declared.row.Answer.TheVariants.{Obeyed, WithConsent, Refused}
use Rattle.moves.specs.declared.row.Row.{Row}
use Rattle.moves.specs.PriceLaws.{cash_of_company}
use Rattle.order_grammar.specs.declared.order.TrainSource.{TrainSource}
use Rattle.order_grammar.specs.declared.order.TrainSource.TheVariants as source
use Rattle.order_grammar.specs.declared.play.PlayOrder.{PlayOrder}
use Rattle.order_grammar.specs.declared.play.PlayOrder.TheVariants.{BuyOwnedPrivate, BuyTrain}
use Rattle.purchases.specs.Discard.{is_president}
use Rattle.purchases.specs.Private.{private_judgement_by}
use Rattle.purchases.specs.Train.{sells}
use Rattle.purchases.specs.declared.consents.Consents.TheVariants.{All}
use Rattle.tables.specs.Roster.{face_of}
use Rattle.tables.specs.Train.{trains_of}
use Rattle.tables.specs.declared.rolling_stock.Kind.{Kind}
use Rattle.tables.specs.declared.roster.Company.{Company}
use Rattle.tables.specs.declared.roster.Private.{Private}
use Rattle.tables.specs.declared.seat.Seat.{Seat}
use Rattle.totals.specs.LookBack.{Game, owner_of}
use Rattle.totals.specs.Shares.{president_of}

-- who must offer something, if another player does
abbrev pub other_giver : Option Seat → Seat → Option Seat
other_giver giver seat = if is_president giver seat then None else giver

-- what is told of an order of a company that a rule refuses
abbrev pub not_told : Game → Company → ℕ → Refusal → Told
not_told game company price rule =
    if lacks_money rule then Not rule (Some (pos price)) (ItsCash (cash_of_company game company)) else not_by rule

-- what is said of a train that may be bought
abbrev pub note_of_train : Game → Operator → TrainSource → Note
note_of_train game by (source.Company seller price) =
    UpTo (cash_of_company game by.company) (other_giver (president_of game.events seller) by.president)
note_of_train game by other = Nothing

-- what is told of a train that a rule refuses, if the bank sells it
abbrev pub told_of_bank : Game → Company → Kind → Refusal → Option Told
told_of_bank game company kind rule =
    if sells game.events kind then Some (not_told game company (trains_of kind).price rule) else None

-- only one of the bank without a trade-in is told
abbrev pub not_of_train : Game → Operator → Kind → TrainSource → Refusal → Option Told
not_of_train game by kind source.Bank rule = told_of_bank game by.company kind rule
not_of_train game by kind other rule = None

-- what is told of a train of which this becomes
abbrev pub told_train : Game → Operator → Kind → TrainSource → Answer → Option Told
told_train game by kind from (Obeyed price) = Some (May price (note_of_train game by from))
told_train game by kind from (WithConsent price giver sale) = Some (May price (note_of_train game by from))
told_train game by kind from (Refused rule) = not_of_train game by kind from rule

-- what is told of this order, if it buys a train
abbrev pub told_if_train : List (Option Seat) → Game → Operator → PlayOrder → Answer → Option Told
told_if_train presidents game by (BuyTrain kind from) answer =
    told_train game by kind from (as_offered presidents answer)
told_if_train presidents game by other answer = None

-- what is told of the row of a train, where these presided as the round began
abbrev pub told_of_train : List (Option Seat) → Game → Operator → Row → Option Told
told_of_train presidents game by row = told_if_train presidents game by row.order row.answer

-- the player who is this owner, if it is one
abbrev pub player_in : Option Holder → Option Seat
player_in (Some (holder.Seat giver)) = Some giver
player_in other = None

-- the player who owns a private
abbrev pub giver_of : List Event → Private → Option Seat
giver_of events private = player_in (owner_of events private)

-- twice a face value, or the cash if that is less
abbrev pub up_to_twice : ℕ → ℤ → ℤ
up_to_twice face cash = if le_z (pos (2 * face)) cash then pos (2 * face) else cash

-- what is said of a private that may be bought
abbrev pub note_of_private : Game → Operator → Private → Note
note_of_private game by private =
    UpTo (up_to_twice (face_of private) (cash_of_company game by.company))
    (other_giver (giver_of game.events private) by.president)

-- the rule that is broken if the owner consents, or otherwise this one
abbrev pub rule_or : Option PrivateRule → Refusal → Refusal
rule_or None rule = rule
rule_or (Some broken) rule = refusal.Private broken

-- of the purchase of a private
abbrev pub rule_if_given : Game → Company → Private → ℕ → Refusal → Refusal
rule_if_given game company private price rule = rule_or (private_judgement_by All game company private price) rule

-- what is told of a private that a rule refuses, if a player owns it
abbrev pub not_of_private : Game → Company → Private → ℕ → Refusal → Option Told
not_of_private game company private price rule =
    if is_none (giver_of game.events private) then None else
    Some (not_told game company price (rule_if_given game company private price rule))

-- what is told of a private of which this becomes
abbrev pub told_private : Game → Operator → Private → ℕ → Answer → Option Told
told_private game by private least (Obeyed price) = Some (May price (note_of_private game by private))
told_private game by private least (WithConsent price giver sale) = Some (May price (note_of_private game by private))
told_private game by private least (Refused rule) = not_of_private game by.company private least rule

-- it is told only at the lowest price, half the face value
abbrev pub told_private_at : Game → Operator → Private → ℕ → Answer → Option Told
told_private_at game by private price answer =
    if price == face_of private / 2 then told_private game by private price answer else None

-- what is told of this order, if it buys a private
abbrev pub told_if_private : Game → Operator → PlayOrder → Answer → Option Told
told_if_private game by (BuyOwnedPrivate private price) answer = told_private_at game by private price answer
told_if_private game by other answer = None

-- what is told of the row of a private
abbrev pub told_of_private : Game → Operator → Row → Option Told
told_of_private game by row = told_if_private game by row.order row.answer
