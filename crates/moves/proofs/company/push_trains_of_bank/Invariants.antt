-- The rows of the items so far.
use Rattle.std.proofs.Common.{◌≡◌, ◌∷◌, [], ◌++◌, map, take, flat_map}
use Rattle.moves.specs.CompanyRows.{train_order, train_row}
use Rattle.order_grammar.specs.declared.order.TrainSource.{TrainSource}
use Rattle.moves.proofs.company.push_trains_of_bank.Given as goal

abbrev pub invariant-loop-from : goal.invariant-loop-from
invariant-loop-from l =
    l.rows.items ≡ l.fn.rows.items
    ++ map (train_row l.history l.company) (flat_map (λ (from : TrainSource). train_order l.kind from ∷ []) (take l.from-index l.from-items))
