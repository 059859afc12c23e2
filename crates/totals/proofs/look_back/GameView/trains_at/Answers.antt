use Rattle.events.specs.Event.{train_moved}
use Rattle.totals.proofs.BalanceTables.{balance_there}
use Rattle.totals.proofs.TrainCounts.{train_count_fits, train_count_kept}
use Rattle.totals.specs.Totals.{AreTotalsOf}
use Rattle.totals.specs.Trains.{train_comes, train_goes}
use Rattle.totals.proofs.look_back.GameView.trains_at.Goals as goal

pub overflow_cast-result : goal.overflow_cast-result
overflow_cast-result c =
    let all : AreTotalsOf c.in-Some.totals.now c.args.self.now.events = c.in-Some.ensures.totals in
    train_count_fits (λ e. train_comes c.args.place c.args.kind (train_moved e))
    (λ e. train_goes c.args.place c.args.kind (train_moved e)) c.args.self.now.events _ c.totals.ensures.short
    (balance_there _ _ _ _ _ _ c.entry_of_train.ensures.entry (all.trains c.args.place c.args.kind))

pub returns-in-Some-clause-sum : goal.returns-in-Some-clause-sum
returns-in-Some-clause-sum c =
    let all : AreTotalsOf c.in-Some.totals.now c.args.self.now.events = c.in-Some.ensures.totals in
    train_count_kept (λ e. train_comes c.args.place c.args.kind (train_moved e))
    (λ e. train_goes c.args.place c.args.kind (train_moved e)) c.args.self.now.events _ c.totals.ensures.short
    (balance_there _ _ _ _ _ _ c.entry_of_train.ensures.entry (all.trains c.args.place c.args.kind))
