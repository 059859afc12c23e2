use Rattle.std.proofs.Common.{refl}
use Rattle.umpire.specs.InputSplit.{certificates_of_input, order_file_of}
use Rattle.umpire.proofs.PartingLemmas.{found_within}
use Rattle.umpire.proofs.input_split.part.Goals as goal

pub slice_bounds-without_newline-count : goal.slice_bounds-without_newline-count
slice_bounds-without_newline-count c = found_within _ c.args.input.now c.in-Some.certificates.now c.in-Some.ensures

pub returns-in-Some-clause-file : goal.returns-in-Some-clause-file
unfolding order_file_of
returns-in-Some-clause-file c = rw c.in-Some.ensures c.without_newline.ensures

pub returns-in-Some-clause-certificates : goal.returns-in-Some-clause-certificates
unfolding certificates_of_input
returns-in-Some-clause-certificates c = rw c.in-Some.ensures refl

pub returns-in-None-clause-file : goal.returns-in-None-clause-file
unfolding order_file_of
returns-in-None-clause-file c = rw c.in-None.ensures refl

pub returns-in-None-clause-certificates : goal.returns-in-None-clause-certificates
unfolding certificates_of_input
returns-in-None-clause-certificates c = rw c.in-None.ensures refl
