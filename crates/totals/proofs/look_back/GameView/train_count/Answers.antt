use Rattle.std.proofs.Common.{ap, ◌∙◌}
use Rattle.events.specs.Event.{train_moved}
use Rattle.totals.proofs.BalanceTables.{balance_there}
use Rattle.totals.proofs.TrainCounts.{size_is, train_count_fits, train_count_kept}
use Rattle.totals.specs.Totals.{AreTotalsOf, train_row}
use Rattle.totals.specs.Trains.{any_comes, any_goes}
use Rattle.totals.proofs.look_back.GameView.train_count.Goals as goal

pub overflow_cast-result : goal.overflow_cast-result
overflow_cast-result c =
    let all : AreTotalsOf c.in-Some.totals.now c.args.self.now.events = c.in-Some.ensures.totals in
    train_count_fits (λ e. any_comes c.args.owner (train_moved e)) (λ e. any_goes c.args.owner (train_moved e))
    c.args.self.now.events _ c.totals.ensures.short
    (balance_there _ _ _ _ _ _ (c.row_of_trains.ensures.row ∙ ap train_row c.of_owner.ensures)
    (all.train_owners c.args.owner))

pub returns-in-Some-clause-sum : goal.returns-in-Some-clause-sum
returns-in-Some-clause-sum c =
    let all : AreTotalsOf c.in-Some.totals.now c.args.self.now.events = c.in-Some.ensures.totals in
    train_count_kept (λ e. any_comes c.args.owner (train_moved e)) (λ e. any_goes c.args.owner (train_moved e))
    c.args.self.now.events _ c.totals.ensures.short
    (balance_there _ _ _ _ _ _ (c.row_of_trains.ensures.row ∙ ap train_row c.of_owner.ensures)
    (all.train_owners c.args.owner))
    ∙ size_is c.args.self.now.events c.args.owner
