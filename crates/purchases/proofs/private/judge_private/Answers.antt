-- The game as it stands is the one that is judged.
use Rattle.std.proofs.Common.{ap, ◌∙◌}
use Rattle.purchases.specs.Private.{private_judgement_by}
use Rattle.totals.specs.LookBack.{Game}
use Rattle.purchases.proofs.private.judge_private.Goals as goal

pub returns : goal.returns
returns c =
    c.judge_terms.ensures
    ∙ ap (λ (game : Game). private_judgement_by c.args.consents game c.args.company c.args.private c.args.price)
    c.now.ensures
