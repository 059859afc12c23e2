use Rattle.std.proofs.Common.{◌≡◌, take}
use Rattle.std.specs.List.{fold}
use Rattle.page.specs.WorthHistory.{Noted, none_noted, noted_then}
use Rattle.page.proofs.worth_history.entries_along.Given as goal

-- the walk is along the events, and the rounds so far are noted
abbrev pub invariant-loop-passed : goal.invariant-loop-passed
invariant-loop-passed l =
    (l.walk.events.now ≡ l.events)
    × (◌≡◌ {A = Noted} (record { passed = l.passed; begun = l.begun; entries = l.entries.items })
    (fold (noted_then l.seats l.events) none_noted (take l.passed l.events)))
