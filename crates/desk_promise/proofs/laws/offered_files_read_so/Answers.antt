use Rattle.desk_promise.proofs.CompanySheets.{company_lines_fit}
use Rattle.desk_promise.proofs.OfferFiles.{has_both_sheets}
use Rattle.desk_promise.proofs.StandingSheets.{standing_lines_fit}
use Rattle.desk_promise.proofs.laws.offered_files_read_so.Goals as goal
use Rattle.desk_promise.specs.LineFile.{orders_of_one}
use Rattle.desk_promise.specs.OfferFile.{offer_of_one}
use Rattle.order_grammar.specs.declared.play.PlayOrder.TheVariants as play

pub returns : goal.returns
returns c file round giver sale seat company order accepted end its giving own apart small fit also =
    has_both_sheets c.read_where_spelt.ensures c.spelling_is_read_again.ensures file accepted end round its giver giving
    (offer_of_one sale)
    (standing_lines_fit c.read_where_spelt.ensures c.spelling_is_read_again.ensures (play.Offer sale) small) seat own
    (orders_of_one company order)
    (company_lines_fit c.read_where_spelt.ensures c.spelling_is_read_again.ensures company order fit) apart also
