-- Numbers of trains are compared as they are.
use Rattle.std.proofs.Common.{ℤ, Some, ap, ◌∙◌, SFits}
use Rattle.std.specs.Int.{w64}
use Rattle.std.specs.Int.Signed.{le_z}
use Rattle.std.proofs.lemmas.Int.{to_z-of_z}
use Rattle.totals.specs.LookBack.{Game}
use Rattle.totals.specs.Trains.{train_count}
use Rattle.desk_dues.proofs.danger.has_no_other.Goals as goal

pub returns : goal.returns
returns c =
    let all : SFits w64 c.train_count.result = record { sfits = c.train_count.type_inv } in
    let held : SFits w64 c.trains.result = record { sfits = c.trains.type_inv } in
    let events = c.args.history.now.events in
    let company = c.args.company in
    rw (to_z-of_z w64 c.train_count.result all, to_z-of_z w64 c.trains.result held)
    (ap (λ (z : ℤ). le_z z c.trains.result)
    (c.train_count.ensures.sum ∙ ap (λ (game : Game). train_count game.events (Some company)) c.now.ensures)
    ∙ ap (le_z (train_count events (Some company))) c.trains.ensures)
