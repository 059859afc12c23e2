use Rattle.desk_base.proofs.ComingLemmas.{never_comes}
use Rattle.desk_base.proofs.coming.can_come.Goals as goal

pub returns-clause-never : goal.returns-clause-never
returns-clause-never c =
    never_comes c.rounds_only_add.ensures c.sheets_are_numbered.ensures c.three_to_six_play.ensures c.args.game.now
    c.args.round _ c.may_be_ahead.ensures
