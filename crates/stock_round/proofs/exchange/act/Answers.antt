use Rattle.certs.proofs.Succession.{president_game}
use Rattle.tables.specs.declared.roster.Company.TheVariants.{NewYorkCentral}
use Rattle.stock_round.proofs.exchange.act.Goals as goal

pub record_float-requires : goal.record_float-requires
record_float-requires c =
    president_game c.give_up_mohawk.new.history c.record_president.new.history NewYorkCentral
    c.in_ok-record_president.ensures c.in_ok-give_up_mohawk.ensures.game
