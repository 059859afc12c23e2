-- What a president pays of a forced purchase.
use Rattle.std.specs.Prelude.{◌≡◌, true, false, pos}
use Rattle.std.specs.Int.Signed.{lt_z}
use Rattle.events.specs.Event.{party_of_company}
use Rattle.totals.specs.LookBack.{Game, cash_of}
use Rattle.forced_purchase.specs.Forced.{with_aid}
use Rattle.forced_purchase.specs.Shortfall.{cheapest, lack_of}
use Rattle.forced_purchase.specs.declared.operator.Operator.{Operator}
use Rattle.purchases.specs.Train.{train_purchase_cost}

-- once the president has paid what the company lacks for the cheapest train that is for sale, it
-- has exactly its price
abbrev pub AidIsWhatLacks : Type 0
AidIsWhatLacks =
    (by : Operator) (game : Game) → lt_z (pos 0) (lack_of game by.company) ≡ true →
    cash_of (with_aid by game).seats (with_aid by game).events (party_of_company by.company)
    ≡ pos (train_purchase_cost (cheapest game.events))

-- if the company lacks nothing the president pays nothing
abbrev pub NoAidWithoutLack : Type 0
NoAidWithoutLack = (by : Operator) (game : Game) → lt_z (pos 0) (lack_of game by.company) ≡ false
    → with_aid by game ≡ game
