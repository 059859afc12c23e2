-- A copy of a file, and what is put behind it.
use Rattle.std.proofs.Common.{◌≡◌, ℕ, List, ◌++◌, length, take, sym, ap, ◌∙◌, subst, arith}
use Rattle.std.proofs.lemmas.List.{length-append, length-take-le, take-append-le, take_all}
use Rattle.foresight.specs.TrialFile.{IsBegun, with_line_end}
use Rattle.foresight.specs.declared.trial_file.TrialFile.{TrialFile}

-- it is as long as the file with the end of its last line
size : (file : List ℕ) (trial : TrialFile) → IsBegun file trial → length (with_line_end file) ≡ trial.begun
size file trial begun = ap length (sym begun.copy) ∙ length-take-le trial.begun trial.bytes.items begun.within

-- it is still there with anything behind it
pub begun_behind : (file : List ℕ) (old new : TrialFile) (more : List ℕ) → IsBegun file old → new.begun ≡ old.begun
    → new.bytes.items ≡ with_line_end file ++ more → IsBegun file new
begun_behind file old new more begun same items =
    let copy = with_line_end file in
    let is : length copy ≡ new.begun = size file old begun ∙ sym same in
    record {
      within = rw items (rw (length-append copy more) (omega (arith, is)));
      copy =
          ap (take new.begun) items
          ∙ subst (λ (n : ℕ). take n (copy ++ more) ≡ copy) is
          (take-append-le (length copy) copy more (omega arith) ∙ take_all (length copy) copy (omega arith));
    }
