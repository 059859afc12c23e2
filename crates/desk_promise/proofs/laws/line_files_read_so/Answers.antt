use Rattle.desk_promise.proofs.LineFiles.{has_sheets}
use Rattle.desk_promise.proofs.TurnSheets.{turn_lines_fit}
use Rattle.desk_promise.proofs.laws.line_files_read_so.Goals as goal
use Rattle.desk_promise.specs.LineFile.{turn_of_one}

pub returns : goal.returns
returns c file round seat order accepted end its own fit also =
    has_sheets c.read_where_spelt.ensures c.spelling_is_read_again.ensures file accepted end round its seat own
    (turn_of_one order) (turn_lines_fit c.read_where_spelt.ensures c.spelling_is_read_again.ensures order fit) also
