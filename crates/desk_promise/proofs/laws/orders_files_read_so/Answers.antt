use Rattle.desk_promise.proofs.CompanySheets.{company_lines_fit}
use Rattle.desk_promise.proofs.LineFiles.{has_sheets}
use Rattle.desk_promise.proofs.laws.orders_files_read_so.Goals as goal
use Rattle.desk_promise.specs.LineFile.{orders_of_one}

pub returns : goal.returns
returns c file round seat company order accepted end its own fit also =
    has_sheets c.read_where_spelt.ensures c.spelling_is_read_again.ensures file accepted end round its seat own
    (orders_of_one company order)
    (company_lines_fit c.read_where_spelt.ensures c.spelling_is_read_again.ensures company order fit) also
