use Rattle.std.proofs.Common.{◌≡◌, take}
use Rattle.std.specs.List.{fold}
use Rattle.desk_base.specs.SetNumber.{set_then}
use Rattle.tables.specs.Train.{rounds_in_set_of}
use Rattle.tables.specs.declared.rolling_stock.Kind.TheVariants.{Two}
use Rattle.desk_base.proofs.set_number.set_of.Given as goal

-- the set that the events so far have reached
abbrev pub invariant-loop-event : goal.invariant-loop-event
invariant-loop-event l =
    l.set ≡ fold set_then (record { phase = Two; rounds = rounds_in_set_of Two }) (take l.event-index l.events)
