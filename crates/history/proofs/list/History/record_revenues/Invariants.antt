use Rattle.std.proofs.Common.{◌≡◌, drop}
use Rattle.history.specs.Sound.{IsSound}
use Rattle.history.specs.Record.{after_revenues}
use Rattle.tables.specs.Roster.{privates}
use Rattle.history.proofs.list.History.record_revenues.Given as goal

-- the revenues that are left lead from here where all lead from the start
abbrev pub invariant-loop-private : goal.invariant-loop-private
invariant-loop-private l = record {
  seats : l.self.seats ≡ l.fn.self.seats;
  events : after_revenues l.fn.self.seats l.self.events (drop l.private-index l.private-items)
      ≡ after_revenues l.fn.self.seats l.fn.self.events privates;
  sound : IsSound l.self;
}
