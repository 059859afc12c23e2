use Rattle.std.proofs.Common.{◌≡◌, ◌++◌, codes}
use Rattle.std.specs.List.{flat_map, range_with_len}
use Rattle.order_grammar.specs.Print.{text_of_round}
use Rattle.report.specs.Report.{name_owing}
use Rattle.report.proofs.text.push_awaiting.Given as goal

-- the names so far
abbrev pub invariant-loop-seat : goal.invariant-loop-seat
invariant-loop-seat l =
    l.out.items
    ≡ (l.fn.out.items ++ codes "AWAITING " ++ text_of_round l.round)
    ++ flat_map (λ seat. name_owing l.sheets l.round seat) (range_with_len 0 l.seat)
