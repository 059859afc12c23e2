-- Example for the chapter `conditions`: three conditions.
-- PRR is started at 76, and has not floated. It is phase 3.
use Rattle.std.proofs.Common.{◌≡◌, refl, true, false, List, [], ◌∷◌}
use Rattle.events.specs.declared.event.Event.{Event}
use Rattle.events.specs.declared.event.Event.TheVariants as event
use Rattle.history.specs.Conditions.{holds}
use Rattle.order_grammar.specs.declared.condition.Condition.TheVariants as condition
use Rattle.tables.specs.declared.rolling_stock.Kind.TheVariants.{Two, Three, Four}
use Rattle.tables.specs.declared.roster.Company.TheVariants.{Pennsylvania, Erie}

abbrev happened : List Event
happened = event.Par Pennsylvania 76 ∷ event.Phase Three ∷ []

-- IF PRICE PRR >= 76 holds, IF PRICE PRR >= 77 does not
pub at_76 : holds happened (condition.Price Pennsylvania 76) ≡ true
at_76 = refl

pub at_77 : holds happened (condition.Price Pennsylvania 77) ≡ false
at_77 = refl

-- a company without a price has none of at least 0
pub erie_at_0 : holds happened (condition.Price Erie 0) ≡ false
erie_at_0 = refl

-- IF PHASE 2 and IF PHASE 3 hold, IF PHASE 4 does not
pub phase_two : holds happened (condition.Phase Two) ≡ true
phase_two = refl

pub phase_three : holds happened (condition.Phase Three) ≡ true
phase_three = refl

pub phase_four : holds happened (condition.Phase Four) ≡ false
phase_four = refl

-- being started is not enough for IF FLOATED
pub prr_floated : holds happened (condition.Floated Pennsylvania) ≡ false
prr_floated = refl
