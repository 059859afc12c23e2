use Rattle.certs.proofs.Counts.{small_kept}
use Rattle.certs.proofs.RowLemmas.{small_in}
use Rattle.certs.specs.ShareRow.{index_of}
use Rattle.events.specs.declared.event.Shareholder.TheVariants.{Seat as OfSeat}
use Rattle.tables.specs.Roster.{index_of_company}
use Rattle.certs.proofs.counted_certificates.HoldingsCertificates.certificates_of.Goals as goal

pub certificates_of-requires : goal.certificates_of-requires
certificates_of-requires c =
    small_kept c.shares-shares.result _ c.shares-shares.ensures
    (small_in _ (index_of (OfSeat c.args.seat)) (c.args.self.now.bounded (index_of_company c.args.company)))
