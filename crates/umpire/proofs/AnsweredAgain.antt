-- What was written after a file is checked, and its report is written.
use Rattle.std.proofs.Common.{ℕ, ◌≤◌, List, [], ◌∷◌, ◌++◌, Ok, length, refl, sym, subst}
use Rattle.std.specs.Prelude.{Option}
use Rattle.std.specs.List.{AllByRecursion}
use Rattle.certificate.specs.declared.group.Group.{Group}
use Rattle.operating.specs.Calls.{Call}
use Rattle.report.specs.Report.{IsReport}
use Rattle.sheets.specs.File.{IsAccepted}
use Rattle.umpire.proofs.LawLemmas.{parted_again}
use Rattle.umpire.proofs.ReadAgain.{begins_alone, reads_back}
use Rattle.umpire.proofs.VerifyLemmas.{judgement_answers}
use Rattle.umpire.specs.Certified.{AreCertified, Certifies}
use Rattle.umpire.specs.Groups.{groups_of}
use Rattle.umpire.specs.Laws.{ArePartedAgain}
use Rattle.umpire.specs.InputSplit.{certificates_most, certificates_of_input, order_file_of}
use Rattle.umpire.specs.ReadAgain.{AcceptsWhatWasWritten, AreReadAgain, CanBeWritten, CertifyingCanBeWritten}
use Rattle.umpire.specs.ReadAgain.{IsReadAgain}
use Rattle.umpire.specs.Verify.{HasAllGroups, HasGroup, HaveGroups}
use Rattle.umpire.specs.Written.{certificates_text}

-- a group that is read again shows what it certifies
shown_again : (call : Call) (group : Group) (read : Option Group) → Certifies call group → IsReadAgain group read
    → HasGroup call read
shown_again call group read certifies again =
    subst (HasGroup call) (sym again.is)
    (record {
      round_is = certifies.of_round;
      company_is = certifies.of_company;
      accepted =
          certifies.filled again.filling again.fills;
    })

have_again : (calls : List Call) (groups : List Group) (read : List (Option Group)) → AreCertified calls groups
    → AreReadAgain groups read → HaveGroups calls read
have_again [] groups read certified again = tt
have_again (call ∷ calls) [] read certified again = absurd certified
have_again (call ∷ calls) (group ∷ groups) [] certified again = absurd again
have_again (call ∷ calls) (group ∷ groups) (one ∷ read) certified again =
    (shown_again call group one certified.0 again.0, have_again calls groups read certified.1 again.1)

-- so the game that they certify has all its groups
pub answered_again : ((file : List ℕ) → (text : List ℕ) × IsReport file text) → CertifyingCanBeWritten
    → AcceptsWhatWasWritten
answered_again some written file groups accepted certify within =
    let can : AllByRecursion CanBeWritten groups = written file groups accepted certify in
    let text : List ℕ = certificates_text groups in
    let input : List ℕ = file ++ 10 ∷ text in
    let parted : ArePartedAgain file text = parted_again file text (begins_alone groups can) in
    let read : AreReadAgain groups (groups_of (certificates_of_input input)) =
    subst (λ (behind : List ℕ). AreReadAgain groups (groups_of behind)) (sym parted.certificates)
    (reads_back groups can) in
    let all : HasAllGroups (order_file_of input) (groups_of (certificates_of_input input)) =
    subst (λ (prefix : List ℕ). HasAllGroups prefix (groups_of (certificates_of_input input))) (sym parted.order_file)
    (record {
      played = certify.played;
      calls = certify.calls;
      made = certify.made;
      have =
          have_again certify.calls groups (groups_of (certificates_of_input input)) certify.certified read;
    }) in
    let report = some (order_file_of input) in (
      report.0,
      judgement_answers input (order_file_of input) (certificates_of_input input) report.0 (Ok tt) refl refl
          (subst (λ (behind : List ℕ). length behind ≤ certificates_most) (sym parted.certificates) within)
          (subst IsAccepted (sym parted.order_file) accepted) (all, report.1),
    )
