use Rattle.std.proofs.Common.{refl}
use Rattle.certs.proofs.Counts.{few_less, few_shares}
use Rattle.certs.proofs.counted_certificates.certificates_of.Goals as goal

pub returns-then-presides-clause-small : goal.returns-then-presides-clause-small
returns-then-presides-clause-small c = few_less c.args.shares _ refl c.requires

pub returns-else-presides-clause-small : goal.returns-else-presides-clause-small
returns-else-presides-clause-small c = few_shares c.args.shares _ refl c.requires
