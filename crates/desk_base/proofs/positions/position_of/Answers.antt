use Rattle.std.proofs.Common.{refl}
use Rattle.desk_base.proofs.PositionLemmas.{stands_at}
use Rattle.desk_base.proofs.positions.position_of.Goals as goal

-- it stands where the play is
pub returns-clause-at : goal.returns-clause-at
returns-clause-at c =
    stands_at c.args.play c.in-Some.stood _ c.in-Some.ensures c.into_history.ensures.game refl refl c.sheets.ensures
