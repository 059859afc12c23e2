use Rattle.desk_check.proofs.SaidLemmas.{adds_sheet}
use Rattle.desk_check.proofs.check_reading.look_at_sheet.Goals as goal

pub returns : goal.returns
returns c =
    adds_sheet _ _ _ _ _ _ _ _ _ _ c.in_ok-read.ensures.adds c.in_ok-read.ensures.read_is c.in_ok-add_silent.ensures
