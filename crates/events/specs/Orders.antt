-- What an obeyed standing order says: the limit of its seat in an auction of a private, and the par
-- value that the seat sets for BO.
use Rattle.std.specs.Prelude.{ℕ, ◌==◌, ◌&&◌, if◌then◌else◌, Option, Some, None}
use Rattle.order_grammar.specs.declared.order.Order.{Order}
use Rattle.order_grammar.specs.declared.order.Order.TheVariants as order
use Rattle.order_grammar.specs.declared.play.PlayOrder.TheVariants as play
use Rattle.events.specs.Event.{Obeyance, is_par_value, obeyed_says, order_obeyed}
use Rattle.events.specs.declared.ruling.Ruling.{Ruling}
use Rattle.tables.specs.Roster.{same_company, same_private}
use Rattle.tables.specs.declared.roster.Company.TheVariants.{BaltimoreOhio}
use Rattle.tables.specs.declared.roster.Private.{Private}
use Rattle.tables.specs.declared.seat.Seat.{Seat}

-- the limit that an order sets for an auction of a private
abbrev pub limit_in : Private → Order → Option ℕ
limit_in private (order.Play (play.Limit other amount)) = if same_private other private then Some amount else None
limit_in private other = None

-- the par value that an order sets for BO
abbrev pub par_of_baltimore_in : Order → Option ℕ
par_of_baltimore_in (order.Play (play.Par company price)) =
    if same_company company BaltimoreOhio && is_par_value price then Some price else None
par_of_baltimore_in other = None

-- the limit for an auction of a private, if an order names this private with a sum
abbrev pub limit_said : Private → Option (Private × ℕ) → Option ℕ
limit_said private None = None
limit_said private (Some limit) = if same_private limit.0 private then Some limit.1 else None

-- the limit that the order that a ruling obeys sets for an auction of a private
abbrev pub limit_obeyed : Private → Ruling → Option ℕ
limit_obeyed private ruling = obeyed_says (limit_in private) (order_obeyed ruling)

-- the par value that the order that a ruling obeys sets for BO
abbrev pub par_of_baltimore_obeyed : Ruling → Option ℕ
par_of_baltimore_obeyed ruling = obeyed_says par_of_baltimore_in (order_obeyed ruling)

-- what an obeyed order says, if it is of this seat
abbrev pub said_by : {A : Type 0} → Seat → (Order → Option A) → Option Obeyance → Option A
said_by seat says None = None
said_by seat says (Some obeyed) = if obeyed.seat.0 == seat.0 then says obeyed.order else None
