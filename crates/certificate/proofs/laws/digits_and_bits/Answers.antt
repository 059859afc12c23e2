use Rattle.certificate.proofs.Printed.{prints_in_lower_case, prints_what_was_read, reads_what_was_printed}
use Rattle.certificate.proofs.laws.digits_and_bits.Goals as goal

pub returns-clause-prints_again : goal.returns-clause-prints_again
returns-clause-prints_again c = prints_what_was_read

pub returns-clause-prints_lower : goal.returns-clause-prints_lower
returns-clause-prints_lower c = prints_in_lower_case

pub returns-clause-reads_again : goal.returns-clause-reads_again
returns-clause-reads_again c = reads_what_was_printed
