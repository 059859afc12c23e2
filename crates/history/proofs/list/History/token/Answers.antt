use Rattle.std.proofs.Common.{ap, slice_get, ◌∙◌}
use Rattle.totals.proofs.InOrder.{lent_at}
use Rattle.totals.specs.LookBack.{Game}
use Rattle.totals.specs.Operating.{tokens_of}
use Rattle.history.proofs.list.History.token.Goals as goal

pub returns : goal.returns
returns c =
    let at = c.args.place in
    c.copied.ensures
    ∙ lent_at _ at c.get.result c.get.ensures.lookup
    ∙ ap (λ tokens. slice_get tokens at) (c.deref.ensures.value ∙ c.self.invariant.3)
    ∙ ap (λ (game : Game). slice_get (tokens_of game.events) at) c.self.view_is
