use Rattle.std.proofs.Common.{sym, subst}
use Rattle.operating.specs.Calls.{Makes}
use Rattle.rounds.specs.GameCalls.{OperatingCalls, PlayedCalls}
use Rattle.tables.specs.declared.round.Round.{Round}
use Rattle.rounds.proofs.steps.play_round.Goals as goal

pub returns-in-Operating-clause-calls : goal.returns-in-Operating-clause-calls
returns-in-Operating-clause-calls g c =
    subst (λ (round : Round). Makes g.R.Runner.earns c.args.runner.now
    (PlayedCalls c.args.sheets.now round c.args.history c.play_operating.result) c.play_operating.new.runner)
    (sym c.in-Operating.is)
    (subst (λ (round : Round). Makes g.R.Runner.earns c.args.runner.now
    (OperatingCalls c.args.sheets.now round c.args.history c.play_operating.result) c.play_operating.new.runner)
    c.in-Operating.is c.play_operating.ensures.calls)
