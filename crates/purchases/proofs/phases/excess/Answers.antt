use Rattle.std.proofs.Common.{◌≡◌, ◌∙◌, ap, sym, subst, Some}
use Rattle.std.proofs.lemmas.Int.{to_z-of_z}
use mir.Syntax.{w64}
use Rattle.totals.specs.LookBack.{IsModerate, Game}
use Rattle.totals.specs.Trains.{train_count}
use Rattle.purchases.proofs.PhaseLemmas.{excess_is}
use Rattle.purchases.proofs.phases.excess.Goals as goal

pub returns : goal.returns
returns c =
    let size = c.train_count.result in
    let same : c.from.result ≡ size = c.from.ensures ∙ to_z-of_z w64 size (record { sfits = c.train_count.type_inv }) in
    excess_is c.args.history.now c.args.company c.from.result c.phase.result c.limit.result
    (same ∙ (c.train_count.ensures.sum ∙ ap (λ (game : Game). train_count game.events (Some c.args.company)) c.now.ensures))
    (subst IsModerate (sym same) c.train_count.ensures.within) c.phase.ensures c.limit.ensures
