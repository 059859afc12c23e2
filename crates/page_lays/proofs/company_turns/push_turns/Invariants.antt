-- the companies so far have had their turns, as they are in the list
use Rattle.std.proofs.Common.{◌≡◌, ◌-◌, ◌≤◌, List, ◌++◌}
use Rattle.page_lays.specs.Turns.{HaveTurnsIn, is_wanted}
use Rattle.page_lays.specs.declared.company_turns.Turn.{Turn}
use Rattle.page_lays.proofs.company_turns.push_turns.Given as goal

abbrev pub invariant-loop-turns : goal.invariant-loop-turns
invariant-loop-turns g l =
    (turns : List Turn) × HaveTurnsIn (is_wanted l.asked.1.companies.now) l.turns l.fn.opened l.ahead turns
    × (l.list.items ≡ l.fn.list.items ++ turns) × (l.turns ≤ 8)

abbrev pub decreases-loop-turns : goal.decreases-loop-turns
decreases-loop-turns g l = 8 - l.turns
