-- Each further bit leaves room for one less.
use Rattle.certificate.proofs.accept.+are_zeros.Given as goal

abbrev pub decreases-are_zeros : goal.decreases-are_zeros
decreases-are_zeros g l = l.most
