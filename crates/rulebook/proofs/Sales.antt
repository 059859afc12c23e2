-- Example for the chapter `sales`: sales of a president.
-- It is the second stock round, and PRR is at A7, its par of 100. ANN presides with five shares,
-- and BOB has one. If she sells three, the bank pays her 300 and the token moves down three
-- squares, to D7. If BOB had three, she would have strictly fewer after that, and BOB would preside.
-- CYD has a share of BO, which is not started.
use Rattle.std.proofs.Common.{◌≡◌, refl, ℕ, List, [], ◌∷◌, ◌++◌, ◌*◌, Option, Some, None}
use Rattle.certs.specs.Sale.{is_not_held, is_over_five, must_stay, sale_judgement}
use Rattle.certs.specs.SaleAct.{after_sale}
use Rattle.events.specs.declared.event.Event.{Event}
use Rattle.events.specs.declared.event.Event.TheVariants as event
use Rattle.events.specs.declared.ruling.StockRule.{StockRule}
use Rattle.events.specs.declared.ruling.StockRule.TheVariants as rule
use Rattle.order_grammar.specs.declared.order.ShareSource.TheVariants.{InitialOffering}
use Rattle.tables.specs.Seat.{seat_at}
use Rattle.tables.specs.declared.roster.Company.{Company}
use Rattle.tables.specs.declared.roster.Company.TheVariants.{Pennsylvania, BaltimoreOhio}
use Rattle.tables.specs.declared.round.Round.TheVariants.{Stock}
use Rattle.totals.specs.LookBack.{Game}

-- what happened before: BOB bought this many shares
abbrev before : ℕ → List Event
before bobs =
    event.Par Pennsylvania 100
    ∷ event.Bought Pennsylvania (seat_at 0) 2 InitialOffering 200
    ∷ event.President Pennsylvania (seat_at 0)
    ∷ event.Bought Pennsylvania (seat_at 0) 3 InitialOffering 300
    ∷ event.Bought Pennsylvania (seat_at 1) bobs InitialOffering (bobs * 100)
    ∷ event.Given BaltimoreOhio (seat_at 2) 1
    ∷ event.Round (Stock 2)
    ∷ []

abbrev game : List Event → Game
game events = record { seats = 3; events = events }

-- ANN sells three shares of PRR
pub ann_sells_three :
    after_sale (game (before 1)) (seat_at 0) Pennsylvania 3
    ≡ game
    (before 1
    ++ event.Sells Pennsylvania (seat_at 0) 3 300
    ∷ event.Moves Pennsylvania (record { row = 3; column = 7 })
    ∷ [])
ann_sells_three = refl

-- the same, if BOB has three: BOB presides
pub bob_presides :
    after_sale (game (before 3)) (seat_at 0) Pennsylvania 3
    ≡ game
    (before 3
    ++ event.Sells Pennsylvania (seat_at 0) 3 300
    ∷ event.President Pennsylvania (seat_at 1)
    ∷ event.Moves Pennsylvania (record { row = 3; column = 7 })
    ∷ [])
bob_presides = refl

-- the first rule that a seat breaks if it sells this many shares of a company
abbrev broken : ℕ → Company → ℕ → Option StockRule
broken seat company shares =
    sale_judgement 3 (before 1) (seat_at seat) (record { company = company; shares = shares }) None

-- she may sell three, but not six, of which she has five (S3)
pub three_may_be_sold : broken 0 Pennsylvania 3 ≡ None
unfolding sale_judgement is_not_held is_over_five must_stay
three_may_be_sold = refl

pub six_are_not_held : broken 0 Pennsylvania 6 ≡ Some rule.NotHeld
unfolding sale_judgement is_not_held is_over_five must_stay
six_are_not_held = refl

-- nor four: she would keep one, and nobody else has two (S5)
pub she_must_stay : broken 0 Pennsylvania 4 ≡ Some rule.PresidentMustStay
unfolding sale_judgement is_not_held is_over_five must_stay
she_must_stay = refl

-- CYD may not sell a share of BO (S9)
pub bo_is_not_started : broken 2 BaltimoreOhio 1 ≡ Some rule.WrongStart
unfolding sale_judgement is_not_held is_over_five must_stay
bo_is_not_started = refl
