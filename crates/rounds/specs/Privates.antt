-- Privates and sales to companies in the games of files.
use Rattle.std.specs.Prelude.{◌≡◌, ℕ, true, List}
use Rattle.totals.specs.LookBack.{is_closed}
use Rattle.purchases.specs.SaleLaws.{SellersAgree}
use Rattle.privates.specs.BidsRise.{BidsRise}
use Rattle.rounds.specs.Play.{AreRounds, Between, before_play}
use Rattle.sheets.specs.File.{IsAccepted}
use Rattle.tables.specs.declared.roster.Private.{Private}

-- in the game of a file that is not refused, however many rounds were played, each bid is at least
-- 5 over every earlier bid on its private
abbrev pub BidsRiseInEachGame : Type 0
BidsRiseInEachGame =
    (file : List ℕ) (rounds : ℕ) (there : Between) →
    IsAccepted file → AreRounds file rounds (before_play file) there → BidsRise there.game.events

-- a private that is closed is so after any number of rounds: it was sold, and has no owner
abbrev pub ClosedForGood : Type 0
ClosedForGood =
    (file : List ℕ) (rounds : ℕ) (old new : Between) (private : Private) →
    AreRounds file rounds old new → is_closed old.game.events private ≡ true → is_closed new.game.events private ≡ true

-- However many rounds of a file's game were played, whoever sold a train or a private to a company
-- had agreed to exactly that sale. The list of events before it says so.
abbrev pub SellersAgreeInEachGame : Type 0
SellersAgreeInEachGame =
    (file : List ℕ) (rounds : ℕ) (there : Between) →
    AreRounds file rounds (before_play file) there → SellersAgree there.game.events
