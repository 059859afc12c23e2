-- The company's trains are counted in the bits of a sum of money.
use Rattle.std.proofs.Common.{◌∙◌, ap, not, pos, Some, ◌-ℤ◌}
use Rattle.std.specs.Int.Signed.{lt_z}
use Rattle.std.proofs.lemmas.Int.{to_z-of_z}
use mir.Syntax.{w64}
use Rattle.totals.specs.Trains.{train_count}
use Rattle.purchases.proofs.PhaseLemmas.{at_limit}
use Rattle.purchases.specs.Train.{traded_count}
use Rattle.tables.specs.Train.{limit_of}
use Rattle.desk_rules.proofs.train_rules.is_full.Goals as goal

pub returns : goal.returns
returns c =
    let size = c.train_count.result in
    let same = c.from.ensures ∙ to_z-of_z w64 size (record { sfits = c.train_count.type_inv }) in
    at_limit c.from.result size c.args.trade_in c.phase.result c.traded_trains.result c.limit.result same
    c.train_count.ensures.within c.traded_trains.ensures c.limit.ensures
    ∙ (ap (λ trains. not (lt_z (trains -ℤ pos (traded_count c.args.trade_in)) (pos (limit_of c.phase.result))))
    c.train_count.ensures.sum
    ∙ ap (λ phase. not (lt_z (train_count c.args.view.now.events (Some c.args.company) -ℤ pos
    (traded_count c.args.trade_in)) (pos (limit_of phase)))) c.phase.ensures)
