-- The par value that a buyer of BOP sets is a par value, so no sum of more than 1,000,000.
use Rattle.std.proofs.Common.{◌≡◌, ℕ, ◌≤◌, ◌==◌, ◌&&◌, Bool, true, false, nat_le, if◌then◌else◌, List, [], ◌∷◌, Option}
use Rattle.std.proofs.Common.{Some, None, is_some, unwrap_or, refl, subst, arith}
use Rattle.std.specs.List.{find, list_all}
use Rattle.std.specs.Option.{option_or}
use Rattle.std.proofs.lemmas.Bool.Decides.{nat_tests}
use Rattle.events.specs.Event.{Obeyance, is_par_value, obeyed_of}
use Rattle.events.specs.Orders.{par_of_baltimore_in, said_by}
use Rattle.events.specs.declared.event.Event.{Event}
use Rattle.totals.specs.Orders.{par_ordered_of}
use Rattle.order_grammar.specs.declared.order.Order.{Order}
use Rattle.order_grammar.specs.declared.order.Order.TheVariants as order
use Rattle.order_grammar.specs.declared.play.PlayOrder.TheVariants as play
use Rattle.privates.specs.ParOfBo.{par_set_by}
use Rattle.tables.specs.Chart.{least_par, par_squares, price_of}
use Rattle.tables.specs.Roster.{same_company}
use Rattle.tables.specs.declared.roster.Company.TheVariants.{BaltimoreOhio}
use Rattle.tables.specs.declared.seat.Seat.{Seat}
use Rattle.tables.specs.declared.squares.Square.{Square}

-- a price that a test lets through
let_through : (same par : Bool) (price said : ℕ) → is_par_value price ≡ par
    → (if same && par then Some price else None) ≡ Some said → is_par_value said ≡ true
let_through true true price said is named = let one : price ≡ said =
    cc in subst (λ (n : ℕ). is_par_value n ≡ true) one is
let_through true false price said is named = cc
let_through false par price said is named = cc

-- what an order says of BO's par is a par value
par_in : (its : Order) (said : ℕ) → par_of_baltimore_in its ≡ Some said → is_par_value said ≡ true
par_in (order.Play (play.Par company price)) said named = let_through (same_company company BaltimoreOhio) (is_par_value price)
    price said refl named
par_in other said named = cc

-- so is what a seat's order says
par_by : (mine : Bool) (its : Order) (said : ℕ) → (if mine then par_of_baltimore_in its else None) ≡ Some said
    → is_par_value said ≡ true
par_by true its said named = par_in its said named
par_by false its said named = cc

-- and what an obeyed order says
par_obeyed : (seat : Seat) (obeyed : Option Obeyance) (said : ℕ) → said_by seat par_of_baltimore_in obeyed ≡ Some said
    → is_par_value said ≡ true
par_obeyed seat None said named = cc
par_obeyed seat (Some obeyed) said named = par_by (obeyed.seat.0 == seat.0) obeyed.order said named

-- the later of two par values
later_par : (later earlier : Option ℕ) (said : ℕ) → ((n : ℕ) → later ≡ Some n → is_par_value n ≡ true)
    → ((n : ℕ) → earlier ≡ Some n → is_par_value n ≡ true) → option_or later earlier ≡ Some said
    → is_par_value said ≡ true
later_par None earlier said of_later of_earlier named = of_earlier said named
later_par (Some later) earlier said of_later of_earlier named = of_later said named

-- and what a list says
par_listed : (events : List Event) (seat : Seat) (said : ℕ) → par_ordered_of events seat ≡ Some said
    → is_par_value said ≡ true
par_listed [] seat said named = cc
par_listed (event ∷ events) seat said named =
    later_par (par_ordered_of events seat) (said_by seat par_of_baltimore_in (obeyed_of event)) said
    (par_listed events seat) (par_obeyed seat (obeyed_of event)) named

-- an ordered par value, or the least
ordered_par : (ordered : Option ℕ) → ((n : ℕ) → ordered ≡ Some n → is_par_value n ≡ true)
    → is_par_value (unwrap_or ordered least_par) ≡ true
ordered_par None is = refl
ordered_par (Some par) is = is par refl

-- what a buyer of BOP sets is a par value
pub par_set_is_par : (events : List Event) (seat : Seat) → is_par_value (par_set_by events seat) ≡ true
par_set_is_par events seat = ordered_par (par_ordered_of events seat) (par_listed events seat)

-- a square that is found has the price
found_low : (price : ℕ) (squares : List Square) → list_all (λ square. nat_le (price_of square) 1000000) squares ≡ true
    → is_some (find (λ square. price_of square == price) squares) ≡ true → price ≤ 1000000
found_low price [] low found = cc
found_low price (square ∷ squares) low found = grind (arith, nat_tests, found_low price squares)

-- no par value is more than 1,000,000
pub par_low : (price : ℕ) → is_par_value price ≡ true → price ≤ 1000000
par_low price is = found_low price par_squares refl is
