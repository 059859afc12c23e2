use Rattle.desk_check.proofs.checking.look_through.Goals as goal
use Rattle.sheets.proofs.AcceptedLemmas.{accepted_short}

pub look_at_sheets-requires-clause-short : goal.look_at_sheets-requires-clause-short
look_at_sheets-requires-clause-short c = accepted_short c.args.file.now c.in-Ok.ensures.accepted
