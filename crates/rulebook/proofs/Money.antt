-- Example for the chapter `players-and-money`: the cash of three players and of the bank.
-- ANN, at seat 0, buys SV for 20, all pass, and SV pays her 5.
use Rattle.std.proofs.Common.{◌≡◌, refl, pos, List, [], ◌∷◌}
use Rattle.events.specs.Event.{party_at}
use Rattle.events.specs.declared.event.Event.{Event}
use Rattle.events.specs.declared.event.Event.TheVariants as event
use Rattle.events.specs.declared.event.Holder.TheVariants as holder
use Rattle.events.specs.declared.event.Party.TheVariants as party
use Rattle.tables.specs.Roster.{certificate_limit_of}
use Rattle.tables.specs.Seat.{seat_at}
use Rattle.tables.specs.declared.roster.Private.TheVariants.{SchuylkillValley}
use Rattle.totals.specs.LookBack.{cash_of}

abbrev happened : List Event
happened = event.Sold SchuylkillValley (seat_at 0) 20 ∷ event.Revenue SchuylkillValley (holder.Seat (seat_at 0)) 5 ∷ []

pub ann_has : cash_of 3 happened (party_at (seat_at 0)) ≡ pos 785
ann_has = refl

pub bob_has : cash_of 3 happened (party_at (seat_at 1)) ≡ pos 800
bob_has = refl

pub bank_has : cash_of 3 happened party.Bank ≡ pos 9615
bank_has = refl

pub certificates_of_five : certificate_limit_of 5 ≡ 13
certificates_of_five = refl
