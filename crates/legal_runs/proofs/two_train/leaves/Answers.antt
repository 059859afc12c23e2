-- A run leaves its first stop, which has a token, by a step that leads on.
use Rattle.std.proofs.Common.{◌≡◌, Some, None, ap, sym, ◌∙◌, subst}
use Rattle.map_tables.specs.declared.place.Stop.{Stop}
use Rattle.reach.specs.Position.{HasToken, Position}
use Rattle.reach.specs.Walk.{entered_at, stop_of}
use Rattle.legal_runs.specs.TwoTrain.{LeadsOn, none_used}
use Rattle.legal_runs.proofs.two_train.leaves.Goals as goal

pub returns-in-Some : goal.returns-in-Some
returns-in-Some g c =
    let position : Position = g.N.Network.position c.args.network.now in
    let is : stop_of (entered_at c.args.step) ≡ Some c.in-Some.start =
    sym (c.stop.ensures ∙ ap stop_of c.entered.ensures) ∙ c.in-Some.is in (
      λ yes. (c.in-Some.start, is, (c.leaves_stop.ensures.0 yes).0, (c.leaves_stop.ensures.0 yes).1),
      λ leaves.
          let same : leaves.0 ≡ c.in-Some.start = (let both : Some leaves.0 ≡ Some c.in-Some.start =
          sym leaves.1 ∙ is in cc) in
          c.leaves_stop.ensures.1 (
            subst (λ (stop : Stop). HasToken position stop c.args.company) same leaves.2,
            subst
                (λ (stop : Stop). LeadsOn position stop none_used c.args.step) same leaves.3,
          ),
    )

pub returns-in-None : goal.returns-in-None
returns-in-None g c = (
  λ wrong. absurd cc,
  λ leaves. let none : None ≡ Some leaves.0 = sym c.in-None.is ∙ c.stop.ensures ∙ ap stop_of c.entered.ensures
      ∙ leaves.1 in absurd cc,
)
