-- Example for the chapter `buying-privates`: PRR buys CA.
-- ANN, at seat 0, owns CA, whose face value is 160, and presides over PRR, which has 670. It is
-- phase 3.
use Rattle.std.proofs.Common.{◌≡◌, refl, ℕ, List, [], ◌∷◌, ◌++◌, Option, Some, None}
use Rattle.events.specs.declared.event.Event.{Event}
use Rattle.events.specs.declared.event.Event.TheVariants as event
use Rattle.events.specs.declared.event.Holder.TheVariants as holder
use Rattle.events.specs.declared.ruling.PrivateRule.{PrivateRule}
use Rattle.events.specs.declared.ruling.PrivateRule.TheVariants as rule
use Rattle.purchases.specs.Private.{private_bought, private_judgement}
use Rattle.tables.specs.Seat.{seat_at}
use Rattle.tables.specs.declared.rolling_stock.Kind.TheVariants.{Three}
use Rattle.tables.specs.declared.roster.Company.TheVariants.{Pennsylvania}
use Rattle.tables.specs.declared.roster.Private.TheVariants.{CamdenAmboy, DelawareHudson}
use Rattle.totals.specs.LookBack.{Game, owner_of}

abbrev before : List Event
before =
    event.Sold CamdenAmboy (seat_at 0) 160
    ∷ event.Sold DelawareHudson (seat_at 1) 70
    ∷ event.President Pennsylvania (seat_at 0)
    ∷ event.Floats Pennsylvania 670
    ∷ []

abbrev game : List Event → Game
game events = record { seats = 3; events = events }

-- the first rule that is broken in phase 3
abbrev broken : ℕ → Option PrivateRule
broken price = private_judgement (game (before ++ event.Phase Three ∷ [])) Pennsylvania CamdenAmboy price

-- from 80 to 320, half the face value and twice that
pub for_80 : broken 80 ≡ None
for_80 = refl

pub for_79 : broken 79 ≡ Some rule.WrongPrice
for_79 = refl

pub for_320 : broken 320 ≡ None
for_320 = refl

pub for_321 : broken 321 ≡ Some rule.WrongPrice
for_321 = refl

-- not in phase 2
pub too_early : private_judgement (game before) Pennsylvania CamdenAmboy 160 ≡ Some rule.TooEarly
too_early = refl

-- BOB, who owns DH, has not consented
pub no_consent :
    private_judgement (game (before ++ event.Phase Three ∷ [])) Pennsylvania DelawareHudson 70 ≡ Some rule.NoConsent
no_consent = refl

-- PRR pays ANN, and owns it
pub prr_buys :
    private_bought (game before) Pennsylvania CamdenAmboy 320
    ≡ game (before ++ event.PrivateBought CamdenAmboy Pennsylvania (seat_at 0) 320 ∷ [])
prr_buys = refl

pub prr_owns :
    owner_of (private_bought (game before) Pennsylvania CamdenAmboy 320).events CamdenAmboy
    ≡ Some (holder.Company Pennsylvania)
prr_owns = refl
