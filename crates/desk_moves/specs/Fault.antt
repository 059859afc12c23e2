-- Why a question about moves has no answer.
use Rattle.desk_base.specs.declared.fault.DeskFault.{DeskFault}
use Rattle.desk_moves.specs.declared.fault.MovesFault.{MovesFault}
use Rattle.desk_moves.specs.declared.fault.MovesFault.TheVariants.{Desk}

-- the desk has none either
abbrev pub of_desk : DeskFault → MovesFault
of_desk fault = Desk fault
